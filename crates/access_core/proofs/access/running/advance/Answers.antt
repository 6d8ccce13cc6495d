-- What is written is the queue of the number.
use Rattle.access_core.proofs.ChangedQueue.{written}
use Rattle.access_core.proofs.Terms.{with_advance}
use Rattle.access_core.proofs.access.running.advance.Goals as goal

pub returns-clause-queues : goal.returns-clause-queues
returns-clause-queues c =
    let kept = c.index_mut.result.now in
    written c.args.queues.now.items c.args.queue (with_advance c.args.found.packet c.args.progress) c.open_index-index.result kept _ c.requires.there.2 c.requires.there
    (rw c.as_slice.ensures.value at c.open_index-index.ensures) c.index_mut.ensures.value (λ i. record kept { places = c.advance.ensures i })
