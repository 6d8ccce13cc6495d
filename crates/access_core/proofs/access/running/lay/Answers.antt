-- What is written is what the change says.
use Rattle.std.proofs.Common.{◌≢◌, length, arith}
use Rattle.access_core.proofs.WorkReadLemmas.{written-changed}
use Rattle.access_core.proofs.access.running.lay.Goals as goal

pub returns-clause-changed : goal.returns-clause-changed
returns-clause-changed c =
    let some : (length c.args.piece.now.bytes ≢ 0) = grind arith in
    written-changed c.args.memory.now c.args.piece.now.address.0 c.args.piece.now.bytes c.lay.new.self some (rw c.as_slice.ensures at c.lay.ensures.bytes)
