-- Which rights are left of a set without those of another.
use Rattle.std.proofs.Common.{◌≡◌, ◌<◌, ◌^◌, not, ◌&&◌, arith}
use Rattle.std.proofs.lemmas.Nat.Bits.{bit_at_and}
use Rattle.bitflags.specs.Sets.{without}
use Rattle.policy.specs.declared.rights.Right.{Right}
use Rattle.policy.specs.declared.rights.Rights.{Rights}
use Rattle.policy.specs.Rights.{has}
use Rattle.policy.proofs.RightsLemmas.{has-bit}

-- a right is left where it was in the one set and isn't in the other
pub has-without : (a b : Rights) (right : Right) → b.0 < 2 ^ 8 → has (record { 0 = without 8 a.0 b.0 }) right ≡ (has a right && not (has b right))
has-without a b right fits = grind (arith, has-bit, bit_at_and)
