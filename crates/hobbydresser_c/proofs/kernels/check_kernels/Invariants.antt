-- The kernels so far are let pass, and what packets may launch by them is there.
use Rattle.std.proofs.Common.{◌≡◌, ℕ, ◌≤◌, map, take}
use Rattle.hobbydresser_c.specs.Kernels.{Passes, kernel_of}
use Rattle.hobbydresser_c.proofs.kernels.check_kernels.Given as goal

abbrev pub invariant-kernels : goal.invariant-kernels
invariant-kernels l =
    ((number : ℕ) → number ≤ l.before → Passes l.policy.kernels number)
    × (l.kernels.items ≡ map (λ row. kernel_of row.1) (take l.before l.policy.kernels))
