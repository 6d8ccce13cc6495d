-- What is written is the queue of the number, which has as many blocks as packets in flight.
use Rattle.std.proofs.Common.{◌≡◌, ◌+◌, ◌<◌, ap, arith, length, subst, sym}
use Rattle.access_core.proofs.Ascending.{as-many}
use Rattle.access_core.proofs.ChangedQueue.{kept-there, sound-at, written}
use Rattle.access_core.proofs.Terms.{MOST_IN_FLIGHT, Queue}
use Rattle.access_core.specs.inner.QueueChanges.{with_launched}
use Rattle.access_core.proofs.access.taking.place_next.Goals as goal

pub push-requires : goal.push-requires
push-requires c =
    let kept = c.index_mut-kept.result.now in
    let there = c.requires.free in
    let sound = sound-at c.args.queues.now.items c.args.queue there.0 c.requires.sound there.1 in
    let is : kept ≡ there.0 = kept-there c.args.queues.now.items c.args.queue c.open_index-index.result there.0 kept there.1 (rw c.as_slice.ensures.value at c.open_index-index.ensures) c.index_mut-kept.ensures.value in
    let count = as-many there.0.places there.0.blocks sound.given in
    let free : length there.0.blocks < MOST_IN_FLIGHT = let few = there.2 in omega (arith, count, few) in
    subst (λ (q : Queue). length q.blocks < MOST_IN_FLIGHT) (sym is) free

pub returns-clause-queues : goal.returns-clause-queues
returns-clause-queues c =
    let kept = c.index_mut-kept.result.now in
    let there = c.requires.free in
    written c.args.queues.now.items c.args.queue (with_launched c.args.packet c.args.block) c.open_index-index.result kept _ there.4 (there.0, there.1, there.4)
    (rw c.as_slice.ensures.value at c.open_index-index.ensures) c.index_mut-kept.ensures.value (λ i. record kept { next = kept.next + 1; places = c.launch.ensures i; blocks = c.push.ensures i })
