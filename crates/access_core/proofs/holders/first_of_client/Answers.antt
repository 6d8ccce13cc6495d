-- No block of another client's queue lists one.
use Rattle.std.proofs.Common.{arith}
use Rattle.access_core.proofs.Looking.{none-of-client}
use Rattle.access_core.proofs.holders.first_of_client.Goals as goal

pub returns-then-queue-client : goal.returns-then-queue-client
returns-then-queue-client = grind (arith, none-of-client)
