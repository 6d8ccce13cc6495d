-- The numbers of refusals (own).
use Rattle.std.specs.Prelude.{ℕ}
use Rattle.grants.specs.declared.refusal.GrantRefusal.{GrantRefusal}
use Rattle.grants.specs.declared.refusal.GrantRefusal.TheVariants.{NotAllowed, Busy, UnknownObject, UnknownClient}

-- the number of a refusal
abbrev pub number_of : GrantRefusal → ℕ
number_of NotAllowed = 1
number_of (Busy queue packet) = 2
number_of UnknownObject = 3
number_of UnknownClient = 4
