-- What is written is the queue of the number.
use Rattle.std.proofs.Common.{arith}
use Rattle.access_core.proofs.ChangedQueue.{written}
use Rattle.access_core.proofs.Terms.{with_denied}
use Rattle.access_core.proofs.access.taking.fail_next.Goals as goal

pub returns-clause-queues : goal.returns-clause-queues
returns-clause-queues c =
    let kept = c.index_mut-kept.result.now in
    let there = c.requires in
    written c.args.queues.now.items c.args.queue (with_denied c.args.error) c.open_index-index.result kept _ there.4 (there.0, there.1, there.4)
    (rw c.as_slice.ensures.value at c.open_index-index.ensures) c.index_mut-kept.ensures.value (grind arith)
