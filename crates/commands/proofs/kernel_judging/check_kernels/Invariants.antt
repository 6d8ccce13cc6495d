-- The kernels so far are let pass, and what packets may launch by them is there.
use Rattle.std.proofs.Common.{◌≡◌, ℕ, ◌≤◌, map, take}
use Rattle.commands.specs.Kernels.{Passes, kernel_of}
use Rattle.commands.proofs.kernel_judging.check_kernels.Given as goal

abbrev pub invariant-kernels : goal.invariant-kernels
invariant-kernels l =
    ((number : ℕ) → number ≤ l.before → Passes l.policy.kernels number)
    × (l.kernels.items ≡ map (λ row. kernel_of row.1) (take l.before l.policy.kernels))
