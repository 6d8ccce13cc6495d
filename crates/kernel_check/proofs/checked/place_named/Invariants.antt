use Rattle.std.proofs.Common.{◌≡◌, ◌<◌, ℕ, false, get_or}
use Rattle.std.specs.Str.{bytes_eq}
use Rattle.kernel_check.specs.Programs.{Program}
use Rattle.kernel_check.proofs.checked.place_named.Given as goal

abbrev pub invariant-kernels : goal.invariant-kernels
invariant-kernels l = (k : ℕ) (d : Program) → k < l.index → bytes_eq l.name (get_or l.kernels k d).name ≡ false
