-- What is written is the queue of the number, whatever becomes of it.
use Rattle.std.proofs.Common.{All, ◌≡◌, ◌∙◌, ℕ, Some, ap, get_or, subst, sym, arith, List}
use Rattle.access_core.proofs.ChangedQueue.{freed-at, kept-there, sound-at, written}
use Rattle.access_core.proofs.Terms.{IsQueueIndex, IsSound, IsThere, Place, Queue, QueueId, packet_in, places_freed, with_leaving}
use Rattle.access_core.specs.declared.access.leaving.Leaving.{Leaving}
use Rattle.access_core.specs.declared.access.leaving.Leaving.TheVariants as leaving
use Rattle.access_core.specs.inner.ArgumentBlocks.{AreOfPlaces, Ascend, by_packet}
use Rattle.access_core.specs.inner.QueueChanges.{CanLeave}
use Rattle.access_core.proofs.access.leaving.leave_queue.Goals.{in-Completed, in-Failed, in-Stopped}
use Rattle.access_core.proofs.access.leaving.leave_queue.Goals as goal

-- the queue is there
there-of : (queues : List Queue) (queue : QueueId) (how : Leaving) → CanLeave queues queue how → IsThere queues queue
there-of queues queue leaving.Completed there = there
there-of queues queue (leaving.Failed error) there = (there.0, there.1, there.4)
there-of queues queue leaving.Stopped there = there

sound-there : (qs : List Queue) (queue : QueueId) (how : Leaving) → CanLeave qs queue how → All IsSound qs → (i : ℕ) (kept : Queue) → IsQueueIndex qs queue (Some i) → kept ≡ get_or qs i kept → IsSound kept
sound-there qs queue how can sound i kept at value =
    let there = there-of qs queue how can in
    subst IsSound (sym (kept-there qs queue i there.0 kept there.1 at value)) (sound-at qs queue there.0 sound there.1)

pub free_place-requires-clause-named : goal.free_place-requires-clause-named
free_place-requires-clause-named c =
    let at = rw c.as_slice.ensures.value at c.open_index-index.ensures in
    let sound = sound-there c.args.queues.now.items c.args.queue c.args.leaving c.requires.there c.requires.sound c.open_index-index.result c.index_mut-kept.result.now at c.index_mut-kept.ensures.value in
    elim c.match-leaving.branch [
      | in-Completed w ↦ subst (λ (q : Queue). AreOfPlaces q.places q.blocks) (sym w.kept-is) sound.given
      | in-Failed w ↦ subst (λ (q : Queue). AreOfPlaces q.places q.blocks) (sym w.kept-is) sound.given
      | in-Stopped w ↦ subst (λ (q : Queue). AreOfPlaces q.places q.blocks) (sym w.kept-is) sound.given
    ]

pub free_place-requires-clause-rising : goal.free_place-requires-clause-rising
free_place-requires-clause-rising c =
    let at = rw c.as_slice.ensures.value at c.open_index-index.ensures in
    let sound = sound-there c.args.queues.now.items c.args.queue c.args.leaving c.requires.there c.requires.sound c.open_index-index.result c.index_mut-kept.result.now at c.index_mut-kept.ensures.value in
    elim c.match-leaving.branch [
      | in-Completed w ↦ subst (λ (q : Queue). Ascend by_packet q.blocks) (sym w.kept-is) sound.rising
      | in-Failed w ↦ subst (λ (q : Queue). Ascend by_packet q.blocks) (sym w.kept-is) sound.rising
      | in-Stopped w ↦ subst (λ (q : Queue). Ascend by_packet q.blocks) (sym w.kept-is) sound.rising
    ]

pub returns-clause-queues : goal.returns-clause-queues
returns-clause-queues c =
    let there = there-of c.args.queues.now.items c.args.queue c.args.leaving c.requires.there in
    let at = rw c.as_slice.ensures.value at c.open_index-index.ensures in
    let kept = c.index_mut-kept.result.now in
    elim c.match-leaving.branch [
      | in-Completed w ↦ written c.args.queues.now.items c.args.queue (with_leaving (packet_in c.args.found) c.args.leaving) c.open_index-index.result kept _ there.2 there at c.index_mut-kept.ensures.value (grind arith)
      | in-Failed w ↦ written c.args.queues.now.items c.args.queue (with_leaving (packet_in c.args.found) c.args.leaving) c.open_index-index.result kept _ there.2 there at c.index_mut-kept.ensures.value (grind arith)
      | in-Stopped w ↦ written c.args.queues.now.items c.args.queue (with_leaving (packet_in c.args.found) c.args.leaving) c.open_index-index.result kept _ there.2 there at c.index_mut-kept.ensures.value (grind arith)
    ]

pub returns-clause-freed : goal.returns-clause-freed
returns-clause-freed c =
    let there = there-of c.args.queues.now.items c.args.queue c.args.leaving c.requires.there in
    let at = rw c.as_slice.ensures.value at c.open_index-index.ensures in
    let kept = c.index_mut-kept.result.now in
    let is : kept ≡ there.0 = kept-there c.args.queues.now.items c.args.queue c.open_index-index.result there.0 kept there.1 at c.index_mut-kept.ensures.value in
    let places : c.match-leaving.kept.places ≡ kept.places = elim c.match-leaving.branch [ in-Completed w ↦ ap (λ (q : Queue). q.places) w.kept-is | in-Failed w ↦ ap (λ (q : Queue). q.places) w.kept-is | in-Stopped w ↦ ap (λ (q : Queue). q.places) w.kept-is ] in
    c.free_place.ensures.freed ∙ ap (places_freed (packet_in c.args.found)) (places ∙ ap (λ (q : Queue). q.places) is) ∙ sym (freed-at (packet_in c.args.found) c.args.queues.now.items c.args.queue there.0 there.1)
