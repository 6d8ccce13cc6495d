-- Packets in flight and their completion: what an entry changes beside them, and how many are left.
use Rattle.access_core.proofs.Terms.{list_any, releases, same_packet}
use Rattle.core_model.specs.History.{beginning}
use Rattle.std.proofs.Common.{◌≡◌, ℕ, ◌+◌, ◌-◌, ◌<◌, ◌≤◌, List, [], ◌∷◌, ◌++◌, length, refl, sym, subst, ◌∙◌, ap, Bool, true, false, Some, None, arith}
use Rattle.std.proofs.Common.{get_or, length-append, ℤ, filter, find, fold, not, ◌==◌, if◌then◌else◌, ◌&&◌, option_map, map}
use Rattle.access_core.proofs.Terms.{All-filter, All-map, ArgumentBlock, B1, Call, CanFail, Effect, Event, Failed, Faulted, Finish, History, InFlight, Inside, IsCached, IsInPlace, IsSound, Outcome, Owed}
use Rattle.access_core.proofs.Terms.{Packet}
use Rattle.access_core.proofs.Terms.{PacketId, Place, Poll, Progress, Queue, QueueError, QueueId, QueueView, RefusedAt, RunNext, SignalHandle, byte_after, cached_opening}
use Rattle.access_core.proofs.Terms.{cached_view, completion_of, completion_signal, due, enters, error_without_place, finish_owed, flight, flight_after_effect, for_packet, found-all}
use Rattle.access_core.proofs.Terms.{found-passes, freed_by, history_of, in_flight, is_packet, is_place_of, length-map, lies_in_regions, owed, owner, place_of, progress}
use Rattle.access_core.proofs.Terms.{queue_at, region_lengths, signal_decrement, Openings, cached_queue, openings_after, queue_in, start_of, with_advance, with_leaving, with_progress, with_queue, without_packet}
use Rattle.access_core.specs.declared.access.leaving.Leaving.TheVariants as leaving
use Rattle.access_core.specs.inner.ArgumentBlocks.{IsOfQueue, by_packet}
use Rattle.access_core.proofs.Ascending.{ascend-some, of-left}
use Rattle.access_core.proofs.CachedMore.{QueuesAfter, none-launched}
use Rattle.access_core.proofs.QueueAt.{after as after_entry, of_queue, released-count, released-of, IsAdvance, IsRelease, advanced, flight-advanced}
use Rattle.access_core.proofs.QueueAt.{flight-released, queue_at-advanced, queue_at-released}
use Rattle.access_core.proofs.ChangedQueue.{freed-at}
use Rattle.access_core.proofs.TakeLemmas.{IsOpen, owner-kept, queues-after}
use Rattle.core_model.specs.declared.entry.Effect.TheVariants as effect
use Rattle.core_model.specs.declared.refusal.Refusal.TheVariants as refusal
use Rattle.core_model.specs.declared.outcome.Outcome.TheVariants as outcome

-- ---- a completion's changes: a signal's, perhaps, and the release

pub flight-completed : (values : List ℤ) (signal : SignalHandle) (queue : QueueId) (id : PacketId) (flying : List InFlight) →
    fold flight_after_effect flying (signal_decrement values signal ++ effect.Release queue id ∷ []) ≡ filter (λ f. not (is_packet queue id f)) flying
flight-completed values signal queue id flying = grind arith

drops-completed : (values : List ℤ) (signal : SignalHandle) (queue : QueueId) (id : PacketId) (q : QueueId) (i : PacketId) →
    list_any (releases q i) (signal_decrement values signal ++ effect.Release queue id ∷ []) ≡ same_packet q i queue id
drops-completed values signal queue id q i = grind arith

pub memory-completed : (values : List ℤ) (signal : SignalHandle) (queue : QueueId) (id : PacketId) (x byte : ℕ) →
    fold (byte_after x) byte (signal_decrement values signal ++ effect.Release queue id ∷ []) ≡ byte
memory-completed values signal queue id x byte = grind arith

-- ---- how many are left

pub filter-not_more : {X : Type 0} (test : X → Bool) (xs : List X) → length (filter test xs) ≤ length xs
filter-not_more test [] = omega arith
filter-not_more test (x ∷ xs) = grind (arith, filter-not_more test xs)

-- one that is found, and doesn't pass another test, is left out by that
pub filter-fewer : {X : Type 0} (test kept : X → Bool) (xs : List X) (f : X) → find test xs ≡ Some f → kept f ≡ false → length (filter kept xs) + 1 ≤ length xs
filter-fewer test kept [] f found out = absurd cc
filter-fewer test kept (x ∷ xs) f found out = grind (arith, filter-not_more kept xs, filter-fewer test kept xs f)

-- ---- what is kept, and what is owed by it

-- a call about a packet in its place is owed what the place tells
pub owed-in_place : (history : History) (queue : QueueId) (id : PacketId) (place : Place) → IsInPlace history queue id place → (rest : Packet → Progress → Owed)
    → for_packet (beginning history) history.entries queue id rest ≡ rest place.packet place.progress
owed-in_place history queue id place found rest = rw (found.owner_is, found.found, found.packet_is, found.progress_is) refl

-- a completion that is due, by the values that are cached
pub finish-due : (a : Inside) → IsCached a → (old : History) → history_of a ≡ old → (event : Event) (queue : QueueId) (id : PacketId) (p : Packet) →
    due old event ≡ finish_owed old queue id p → due old event ≡ enters outcome.Accepted (completion_of a.signals queue id p)
finish-due a kept old seen_as event queue id p is = grind arith

-- a place that is found is one by the fields
pub place-inside : (a : Inside) (old : History) → history_of a ≡ old → (queue : QueueId) (id : PacketId) (place : Place) → IsInPlace old queue id place
    → IsInPlace (history_of a) queue id place
place-inside a old seen_as queue id place found = subst (λ h. IsInPlace h queue id place) (sym seen_as) found

module _ (a : Inside) (kept : IsCached a) (queue : QueueId) (id : PacketId) where
  abbrev flying : List InFlight
  flying = flight (start_of a) a.audit.items

  abbrev others : List InFlight
  others = filter (λ f. not (is_packet queue id f)) flying

  -- what it frees, in numbers
  freed-is : (at : IsOpen a queue) → length (filter (of_queue queue.0) flying) ≡ freed_by (Some id) a.queues.items queue + length (filter (of_queue queue.0) others)
  freed-is at =
      let places : at.q.places ≡ map (place_of (start_of a) a.audit.items queue) (filter (of_queue queue.0) flying) = ap (λ (v : QueueView). v.places) at.view in
      let left : without_packet id at.q.places ≡ map (place_of (start_of a) a.audit.items queue) (filter (of_queue queue.0) others) =
      ap (without_packet id) places ∙ sym (released-of id.0 (place_of (start_of a) a.audit.items queue) queue.0 flying (λ f. refl)) in
      let freed-now : freed_by (Some id) a.queues.items queue ≡ length at.q.places - length (without_packet id at.q.places) = freed-at (Some id) a.queues.items queue at.q at.found in
      let one : length at.q.places ≡ length (filter (of_queue queue.0) flying) = ap length places
      ∙ length-map (filter (of_queue queue.0) flying) (place_of (start_of a) a.audit.items queue) in
      let two : length (without_packet id at.q.places) ≡ length (filter (of_queue queue.0) others) = ap length left
      ∙ length-map (filter (of_queue queue.0) others) (place_of (start_of a) a.audit.items queue) in
      let count = released-count id.0 queue.0 flying in
      let less = filter-not_more (λ (f : InFlight). not (is_packet queue id f)) flying in
      omega (arith, freed-now, one, two, count, less)

  -- as many are in flight after a release as are left
  pub flying-released : IsOpen a queue → a.in_flight_count - freed_by (Some id) a.queues.items queue ≡ length others
  flying-released at = grind (arith, released-count id.0 queue.0 flying, freed-is)

  pub freed-below : IsOpen a queue → freed_by (Some id) a.queues.items queue ≤ a.in_flight_count
  freed-below at = grind (arith, freed-is, filter-not_more)

  -- a packet that leaves flight leaves room for an entry
  pub release-room : (f : InFlight) → in_flight (start_of a) a.audit.items queue id ≡ Some f → length a.audit.items + 1 + length others ≤ a.capacity
  release-room f found = grind (arith, filter-fewer, found-passes)

  -- how the queues move along with it
  pub queues-released : (event : Event) (told : Outcome) (effects : List Effect) → IsRelease queue id event told effects → ((all : Openings) → openings_after all event ≡ all)
      → (at : IsOpen a queue) (change : Queue → Queue) (view : QueueView → QueueView)
      → ((q : Queue) → cached_queue (change q) ≡ cached_queue q) → IsSound (change at.q) → cached_view (Some (change at.q)) ≡ view (cached_view (Some at.q))
      → ((m : QueueId) (v : QueueView) → after_entry m event told v (if queue.0 == m.0 then without_packet id v.places else v.places) ≡ (if queue.0 == m.0 then view v else v))
      → QueuesAfter a (with_queue a.queues.items queue change) a.opened (a.in_flight_count - freed_by (Some id) a.queues.items queue) event told effects
  queues-released event told effects is none at change view same sound alike pick =
      queues-after a kept queue at change view _ event told effects none same sound alike
      (λ m. queue_at-released (start_of a) a.audit.items event told effects queue id is m ∙ pick m (queue_at (start_of a) a.audit.items m))
      (flying-released at ∙ ap length (sym (flight-released (start_of a) a.audit.items event told effects queue id is))) (none-launched _ _ is.launches (start_of a))

-- a queue whose packet left flight is sound
pub sound-released : (q : Queue) (id : PacketId) → IsSound q → IsSound (with_leaving (Some id) leaving.Completed q)
sound-released q id sound =
    let fewer = filter-not_more (λ (p : Place). not (is_place_of id p)) q.places in
    record {
      room = sound.room;
      free = omega (arith, fewer, sound.free);
      below = All-filter (λ p. not (is_place_of id p)) (λ (p : Place). p.id.0 < q.next) q.places sound.below;
      given = of-left id q.places q.blocks sound.given;
      rising = ascend-some by_packet (λ b. not (b.packet.0 == id.0)) q.blocks sound.rising;
      of_queue = All-filter (λ (b : ArgumentBlock). not (b.packet.0 == id.0)) (IsOfQueue q.number q.client) q.blocks sound.of_queue;
    }

-- ---- a packet is found in its place

pub find-placed : (g : InFlight → Place) (n i : ℕ) (fs : List InFlight) → ((f : InFlight) → (g f).id ≡ f.id)
    → find (λ (p : Place). p.id.0 == i) (map g (filter (of_queue n) fs)) ≡ option_map g (find (λ (f : InFlight). f.queue.0 == n && f.id.0 == i) fs)
find-placed g n i [] named = refl
find-placed g n i (f ∷ fs) named = grind (arith, find-placed g n i fs named)

module _ (a : Inside) (kept : IsCached a) (queue : QueueId) (id : PacketId) (q : Queue) (some : queue_in a.queues.items queue ≡ Some q) where
  owned : owner (start_of a) a.audit.items queue ≡ Some (cached_opening q)
  owned = owner-kept a queue kept ∙ ap (option_map cached_opening) some

  pub sought : find (is_place_of id) q.places ≡ option_map (place_of (start_of a) a.audit.items queue) (in_flight (start_of a) a.audit.items queue id)
  sought = grind (arith, find-placed (place_of (start_of a) a.audit.items queue) queue.0 id.0 (flight (start_of a) a.audit.items) (λ f. refl))

  -- where one is found, it is in flight
  pub in-place : (place : Place) → find (is_place_of id) q.places ≡ Some place → IsInPlace (history_of a) queue id place
  in-place place is = grind (arith, sought, owned, found-passes)

  -- where none is found, a call about it is refused
  pub none-in-place : find (is_place_of id) q.places ≡ None → RefusedAt (history_of a) queue id refusal.NotInFlight
  none-in-place is = grind (arith, sought, owned)

-- where no open queue has the number, it is refused too
pub unknown-place : (a : Inside) (kept : IsCached a) (queue : QueueId) (id : PacketId) → queue_in a.queues.items queue ≡ None → RefusedAt (history_of a) queue id refusal.UnknownQueue
unknown-place a kept queue id none = λ rest. rw (owner-kept a queue kept, none) refl

-- a packet in its place reaches only what lies whole in a region
pub reaches-in_place : (a : Inside) (kept : IsCached a) (queue : QueueId) (id : PacketId) (place : Place) → IsInPlace (history_of a) queue id place
    → lies_in_regions (region_lengths a.start.policy) place.packet ≡ true
reaches-in_place a kept queue id place found = grind (
  arith,
  found-all (λ (f : InFlight). lies_in_regions (region_lengths a.start.policy) f.packet ≡ true) (is_packet queue id)
      (flight (start_of a) a.audit.items) found.flying kept.within found.found,
)

-- ---- a packet fails

module _ (a : Inside) (kept : IsCached a) (queue : QueueId) (id : PacketId) (at : IsOpen a queue) where
  fewer-places : (f : InFlight) → in_flight (start_of a) a.audit.items queue id ≡ Some f → length (without_packet id at.q.places) + 1 ≤ length at.q.places
  fewer-places f found = grind (
    arith,
    filter-fewer (is_place_of id) (λ (p : Place). not (is_place_of id p)) at.q.places _
        (sought a kept queue id at.q at.found ∙ ap (option_map (place_of (start_of a) a.audit.items queue)) found)
        (ap (λ (b : Bool). not b) (found-passes (is_place_of id) at.q.places _ (sought a kept queue id at.q at.found ∙ ap (option_map (place_of (start_of a) a.audit.items queue)) found))),
  )

  -- its queue has room for an error
  pub can-fail : (f : InFlight) → in_flight (start_of a) a.audit.items queue id ≡ Some f → CanFail a.queues.items queue
  can-fail f found = grind (arith, fewer-places)

  -- and is sound after it
  pub sound-failed : (error : QueueError) (f : InFlight) → in_flight (start_of a) a.audit.items queue id ≡ Some f → IsSound (with_leaving (Some id) (leaving.Failed error) at.q)
  sound-failed error f found =
      let fewer = fewer-places f found in
      let longer = length-append at.q.errors.items (error ∷ []) in
      record {
        room = omega (arith, longer, fewer, at.sound.room, at.sound.free);
        free = omega (arith, longer, fewer, at.sound.free);
        below = All-filter (λ p. not (is_place_of id p)) (λ (p : Place). p.id.0 < at.q.next) at.q.places at.sound.below;
        given = of-left id at.q.places at.q.blocks at.sound.given;
        rising = ascend-some by_packet (λ b. not (b.packet.0 == id.0)) at.q.blocks at.sound.rising;
        of_queue = All-filter (λ (b : ArgumentBlock). not (b.packet.0 == id.0)) (IsOfQueue at.q.number at.q.client) at.q.blocks at.sound.of_queue;
      }

-- ---- a packet comes further

sound-advanced : (q : Queue) (id : PacketId) (so_far : Progress) → IsSound q → IsSound (with_advance id so_far q)
sound-advanced q id so_far sound =
    let same = length-map q.places (with_progress id so_far) in
    record {
      room = sound.room;
      free = omega (arith, same, sound.free);
      below = All-map (λ (p : Place). p.id.0 < q.next) (with_progress id so_far) q.places (λ k d h. below (get_or q.places k d) (sound.below k d h));
      given = sound.given ∙ sym (same_ids q.places);
      rising = sound.rising;
      of_queue = sound.of_queue;
    }
  where
    below : (p : Place) → p.id.0 < q.next → (with_progress id so_far p).id.0 < q.next
    below p less = grind arith

    same_ids : (ps : List Place) → map (λ (p : Place). p.id) (map (with_progress id so_far) ps) ≡ map (λ (p : Place). p.id) ps
    same_ids [] = refl
    same_ids (p ∷ ps) = grind (arith, same_ids ps)

-- how the queues move along with it
pub queues-advanced : (a : Inside) (kept : IsCached a) (queue : QueueId) (at : IsOpen a queue) (id : PacketId) (g : Progress → Progress) (event : Event) (told : Outcome)
    (effects : List Effect) → IsAdvance queue id g event told effects → ((all : Openings) → openings_after all event ≡ all)
    → (so_far : Progress) → so_far ≡ g (progress (start_of a) a.audit.items queue id)
    → QueuesAfter a (with_queue a.queues.items queue (with_advance id so_far)) a.opened a.in_flight_count event told effects
queues-advanced a kept queue at id g event told effects is none so_far new =
    queues-after a kept queue at (with_advance id so_far) (advanced id so_far) a.in_flight_count event told effects none (λ q. refl) (sound-advanced at.q id so_far at.sound) refl
    (λ m. queue_at-advanced (start_of a) a.audit.items event told effects queue id g is so_far new m)
    (kept.in_flight_count ∙ ap length (sym (flight-advanced (start_of a) a.audit.items event told effects queue id g is))) (none-launched _ _ is.launches (start_of a))

-- ---- a packet leaves flight, for which its own entry always finds room

pub finish-releases : (values : List ℤ) (queue : QueueId) (id : PacketId) (p : Packet) → IsRelease queue id (Call (Finish queue id)) outcome.Accepted (completion_of values queue id p)
finish-releases values queue id p = record { launches = refl; progress = λ q i so_far. refl; drops = λ q i. drops-completed values (completion_signal p) queue id q i; releases = λ fs. flight-completed values (completion_signal p) queue id fs }

pub failure-releases : (queue : QueueId) (id : PacketId) → IsRelease queue id (Call (Poll queue id)) (outcome.Polled (Failed (error_without_place queue id.0 B1))) (effect.Release queue id ∷ [])
failure-releases queue id = record { launches = refl; progress = λ q i so_far. refl; drops = λ q i. grind arith; releases = λ fs. refl }

pub fault-releases : (queue : QueueId) (id : PacketId) (error : QueueError) → IsRelease queue id (Call (RunNext queue id)) (outcome.Worked (Faulted error)) (effect.Release queue id ∷ [])
fault-releases queue id error = record { launches = refl; progress = λ q i so_far. refl; drops = λ q i. grind arith; releases = λ fs. refl }

pub release-due : (a : Inside) → IsCached a → (old : History) → history_of a ≡ old → (queue : QueueId) (id : PacketId) (place : Place) → IsInPlace old queue id place
    → (event : Event) (told : Outcome) (effects : List Effect)
    → IsRelease queue id event told effects → owed (beginning old) old.entries event ≡ enters told effects → due old event ≡ enters told effects
release-due a kept old seen_as queue id place placed event told effects is owing = grind (arith, release-room)
