-- no kernel before is missing
use Rattle.std.proofs.Common.{◌≡◌, ◌<◌, ℕ, true, get_or}
use Rattle.access_core.proofs.Terms.{Kernel, has_entry}
use Rattle.access_core.proofs.access.opening.first_missing.Given as goal

abbrev pub invariant-kernels : goal.invariant-kernels
invariant-kernels l = (k : ℕ) (d : Kernel) → k < l.index → has_entry (get_or l.kernels k d) ≡ true
