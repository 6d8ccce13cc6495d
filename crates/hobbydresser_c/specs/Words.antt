-- Words of a handle.
use Rattle.std.specs.Prelude.{ℕ, Bool, nat_eq}

-- whether a handle's word says that it is open (own)
abbrev pub stands_open : ℕ → Bool
stands_open word = nat_eq word 1
