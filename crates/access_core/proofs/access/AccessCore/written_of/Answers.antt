-- The bytes are those that the history has there.
use Rattle.std.proofs.Common.{arith}
use Rattle.access_core.proofs.WorkReadLemmas.{read-inside}
use Rattle.access_core.proofs.access.AccessCore.written_of.Goals as goal

pub returns : goal.returns
returns = grind (arith, read-inside)
