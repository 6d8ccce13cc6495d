-- A copy is as long as its source.
use Rattle.std.proofs.Common.{arith}
use Rattle.access_core.proofs.Terms.{length-map-range_with_len}
use Rattle.access_core.proofs.access.AccessCore.function_piece.Goals as goal

pub returns-in_ok-written_of-in-Some-Copy-clause-placed : goal.returns-in_ok-written_of-in-Some-Copy-clause-placed
returns-in_ok-written_of-in-Some-Copy-clause-placed = grind (arith, length-map-range_with_len)
