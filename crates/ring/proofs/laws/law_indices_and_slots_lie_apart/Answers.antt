use Rattle.std.proofs.Common.{◌≡◌, ◌+◌, ◌*◌, arith}
use Rattle.ring.specs.Places.{table_place}
use Rattle.ring.proofs.Places.{table_slot}
use Rattle.ring.proofs.laws.law_indices_and_slots_lie_apart.Goals as goal

pub returns-clause-write : goal.returns-clause-write
returns-clause-write c = omega arith

pub returns-clause-read : goal.returns-clause-read
returns-clause-read c = λ word. let e : table_place (2 + word) ≡ 48 + word = table_slot word in omega (arith, e)

pub returns-clause-slots : goal.returns-clause-slots
returns-clause-slots c = λ slot. let e : table_place (2 + 8 * slot) ≡ 48 + 8 * slot = table_slot (8 * slot) in omega (arith, e)
