-- Stops of queues: what is owed by what is kept, and the room that is left.
use Rattle.std.proofs.Common.{filter, ◌≡◌, ℕ, ◌-◌, ◌≤◌, List, [], ◌∷◌, length, map, refl, sym, ◌∙◌, ap, subst, Bool, true, false, Option, Some, None, arith, ℤ, ◌==◌}
use Rattle.std.proofs.Common.{◌+◌, find, fold, is_some, not, option_map, if◌then◌else◌}
use Rattle.access_core.specs.inner.Ready.{AreReady}
use Rattle.access_core.proofs.ReadyLemmas.{ready-left}
use Rattle.access_core.proofs.Terms.{AreLaid, ArgumentBlock, Call, Effect, History, InFlight, Inside, IsCached, IsSound, Outcome, PacketId, Place, Queue, QueueId, QueueView, Stop}
use Rattle.access_core.proofs.Terms.{byte_after, cached_opening, due, enters, entry_of, flight_of, freed_by, history_of, is_barrier, is_block, is_full, is_place_of, lacks_room}
use Rattle.access_core.proofs.Terms.{queue_at, refuses, release_of, signals_after, queue_in, start_of, with_leaving, with_queue, without_one}
use Rattle.access_core.specs.declared.access.leaving.Leaving.TheVariants as leaving
use Rattle.core_model.specs.Owed.{owed}
use Rattle.access_core.proofs.Calls.{due-by}
use Rattle.access_core.proofs.HeldAfter.{grants-released, grants-still}
use Rattle.access_core.proofs.Laid.{kept-laid, left-laid}
use Rattle.access_core.proofs.CachedMore.{GrantsAfter, QueuesAfter, none-launched}
use Rattle.access_core.proofs.QueueAt.{IsRelease, flight-released, flight-unlaunched, queue_at-more}
use Rattle.access_core.proofs.ChangedQueue.{freed-at}
use Rattle.access_core.proofs.TakeLemmas.{IsOpen, is-open, owner-kept, queues-after}
use Rattle.access_core.proofs.WorkLemmas.{freed-below, in-place, queues-released, release-room, sound-released}
use Rattle.core_model.specs.declared.entry.Effect.TheVariants as effect
use Rattle.core_model.specs.declared.outcome.Outcome.TheVariants as outcome
use Rattle.core_model.specs.declared.refusal.Refusal.TheVariants as refusal

-- the barrier packet among the places is the one in flight
barrier-placed : (g : InFlight → Place) (fs : List InFlight) → ((f : InFlight) → (g f).id ≡ f.id) → ((f : InFlight) → (g f).packet ≡ f.packet)
    → option_map (λ (p : Place). p.id) (find (λ (p : Place). is_barrier p.packet) (map g fs)) ≡ option_map (λ (f : InFlight). f.id) (find (λ (f : InFlight). is_barrier f.packet) fs)
barrier-placed g [] named same = refl
barrier-placed g (f ∷ fs) named same = grind (arith, barrier-placed g fs named same)

-- one that is found is found by its id
record FoundById (id : PacketId) (ps : List Place) : Type 0 where
  place : Place
  is : find (is_place_of id) ps ≡ Some place

found-by_id : (test : Place → Bool) (ps : List Place) (id : PacketId) → option_map (λ (p : Place). p.id) (find test ps) ≡ Some id → FoundById id ps
found-by_id test [] id found = absurd cc
found-by_id test (p ∷ ps) id found = first (test p) (is_place_of id p) refl found (found-by_id test ps id)
  where
    first : (b c : Bool) → is_place_of id p ≡ c → option_map (λ (p : Place). p.id) (if b then Some p else find test ps) ≡ Some id
        → (option_map (λ (p : Place). p.id) (find test ps) ≡ Some id → FoundById id ps) → FoundById id (p ∷ ps)
    first b true is found more = record { place = p; is = rw is refl }
    first true false is found more = grind arith
    first false false is found more = let later = more found in record { place = later.place; is = rw is later.is }

-- ---- a stop, as the history has it

abbrev pub stopped : Option PacketId → QueueView → QueueView
stopped barrier v = record v { stopped = true; places = without_one barrier v.places }

is_release : (queue : QueueId) (id : PacketId) → IsRelease queue id (Call (Stop queue)) outcome.Accepted (effect.Release queue id ∷ [])
is_release queue id = record { launches = refl; progress = λ q i so_far. refl; drops = λ q i. grind arith; releases = λ fs. refl }

-- a release changes neither memory nor signals
pub memory-released : (queue : QueueId) (barrier : Option PacketId) (x byte : ℕ) → fold (byte_after x) byte (release_of queue barrier) ≡ byte
memory-released queue barrier x byte = grind arith

pub values-released : (queue : QueueId) (barrier : Option PacketId) (values : List ℤ) → fold signals_after values (release_of queue barrier) ≡ values
values-released queue barrier values = grind arith

module _ (a : Inside) (kept : IsCached a) (queue : QueueId) where
  -- no queue has the number
  pub stop-unknown : queue_in a.queues.items queue ≡ None → owed (start_of a) a.audit.items (Call (Stop queue)) ≡ refuses refusal.UnknownQueue
  unfolding owed
  stop-unknown none = rw (owner-kept a queue kept, none) refl

  barrier-is : (q : Queue) → queue_in a.queues.items queue ≡ Some q → option_map (λ (p : Place). p.id) (find (λ (p : Place). is_barrier p.packet) q.places)
      ≡ option_map (λ (f : InFlight). f.id) (find (λ (f : InFlight). is_barrier f.packet) (flight_of (start_of a) a.audit.items queue))
  barrier-is q some = grind (arith, barrier-placed)

  -- the queue is kept
  pub stop-known : (q : Queue) → queue_in a.queues.items queue ≡ Some q →
      owed (start_of a) a.audit.items (Call (Stop queue)) ≡ (if q.stopped then refuses refusal.QueueDown
      else enters outcome.Accepted (release_of queue (option_map (λ (p : Place). p.id) (find (λ (p : Place). is_barrier p.packet) q.places))))
  unfolding owed
  stop-known q some = grind (arith, owner-kept, barrier-is)

  open-at : (q : Queue) → queue_in a.queues.items queue ≡ Some q → IsOpen a queue
  open-at q some = is-open a kept queue (cached_opening q) (owner-kept a queue kept ∙ ap (option_map cached_opening) some)

  -- a queue whose stop is entered is kept
  pub stop-open : (told : Outcome) (effects : List Effect) → owed (start_of a) a.audit.items (Call (Stop queue)) ≡ enters told effects → IsOpen a queue
  stop-open told effects owing = grind (arith, stop-unknown, open-at)

  module _ (at : IsOpen a queue) where
    freed-none : freed_by None a.queues.items queue ≡ 0
    freed-none = let freed-now = freed-at None a.queues.items queue at.q at.found in omega (arith, freed-now)

    pub freed-stopped : (barrier : Option PacketId) → freed_by barrier a.queues.items queue ≤ a.in_flight_count
    freed-stopped barrier = grind (arith, freed-below)

    -- how the queues move along
    pub queues-stopped : (barrier : Option PacketId) → QueuesAfter a (with_queue a.queues.items queue (with_leaving barrier leaving.Stopped)) a.opened (a.in_flight_count - freed_by barrier a.queues.items queue)
        (Call (Stop queue)) outcome.Accepted (release_of queue barrier)
    queues-stopped None =
        let same = flight-unlaunched (start_of a) a.audit.items (Call (Stop queue)) outcome.Accepted [] refl in
        let count = ap length same in
        queues-after a kept queue at (with_leaving None leaving.Stopped) (stopped None) _ _ _ _ (λ all. refl) (λ q. refl) (record {
          room = at.sound.room;
          free = at.sound.free;
          below = at.sound.below;
          given = at.sound.given;
          rising = at.sound.rising;
          of_queue = at.sound.of_queue;
        }) refl
        (λ m. queue_at-more (start_of a) a.audit.items (Call (Stop queue)) outcome.Accepted [] m _ same ∙ pick (queue.0 == m.0) (queue_at (start_of a) a.audit.items m))
        (omega (arith, count, freed-none, kept.in_flight_count)) (none-launched (Call (Stop queue)) outcome.Accepted refl (start_of a))
      where
        pick : (b : Bool) (v : QueueView) → record v { stopped = (if b then true else v.stopped) } ≡ (if b then stopped None v else v)
        pick b v = grind arith
    queues-stopped (Some id) =
        queues-released a kept queue id (Call (Stop queue)) outcome.Accepted (effect.Release queue id ∷ []) (is_release queue id) (λ all. refl) at (with_leaving (Some id) leaving.Stopped)
        (stopped (Some id)) (λ q. refl) sound refl (λ m v. grind arith)
      where
        sound : IsSound (with_leaving (Some id) leaving.Stopped at.q)
        sound = let less = sound-released at.q id at.sound in record {
          room = less.room;
          free = less.free;
          below = less.below;
          given = less.given;
          rising = less.rising;
          of_queue = less.of_queue;
        }

  -- the argument blocks that are left
  abbrev pub blocks-stopped : Option PacketId → List ArgumentBlock
  blocks-stopped None = kept.blocks
  blocks-stopped (Some id) = filter (λ b. not (is_block queue id b)) kept.blocks

  -- how the grants do
  pub grants-stopped : (barrier : Option PacketId) → GrantsAfter a a.grants (blocks-stopped barrier) (Call (Stop queue)) outcome.Accepted (release_of queue barrier)
  grants-stopped None =
      grants-still a kept (Call (Stop queue)) outcome.Accepted [] refl (λ q i. refl) (λ client on right b. refl) (λ rows. refl)
      (flight-unlaunched (start_of a) a.audit.items (Call (Stop queue)) outcome.Accepted [] refl)
  grants-stopped (Some id) =
      grants-released a kept (Call (Stop queue)) outcome.Accepted (effect.Release queue id ∷ []) refl (λ client on right b. refl) (λ rows. refl) queue id (is_release queue id).drops
      (flight-released (start_of a) a.audit.items _ _ _ queue id (is_release queue id))

  -- and where they lie
  pub stopped-laid : (barrier : Option PacketId) → IsOpen a queue
      → AreLaid (with_queue a.queues.items queue (with_leaving barrier leaving.Stopped)) (a.start.before + length a.audit.items + 1) (blocks-stopped barrier)
  stopped-laid None at = kept-laid a kept queue at (with_leaving None leaving.Stopped) (λ x. refl) refl
  stopped-laid (Some id) at = left-laid a kept queue at id leaving.Stopped

  -- and what is there before an audit is emptied
  pub stopped-ready : (barrier : Option PacketId) → AreReady a.fresh a.told a.start (blocks-stopped barrier)
  stopped-ready None = kept.ready
  stopped-ready (Some id) = ready-left a.fresh a.told a.start kept.blocks kept.ready (λ b. not (is_block queue id b))

  -- a stop is due its entry where a barrier packet leaves flight for it, or the audit has room
  pub may-stop : (q : Queue) (barrier : Option PacketId) (none : Bool) (old : History) → history_of a ≡ old → queue_in a.queues.items queue ≡ Some q → q.stopped ≡ false
      → barrier ≡ option_map (λ (p : Place). p.id) (find (λ (p : Place). is_barrier p.packet) q.places)
      → is_some barrier ≡ not none → (none ≡ true → is_full old ≡ false) → due old (Call (Stop queue)) ≡ enters outcome.Accepted (release_of queue barrier)
  may-stop q barrier none old seen_as some goes is which =
      subst (λ h. (none ≡ true → is_full h ≡ false) → due h (Call (Stop queue)) ≡ enters outcome.Accepted (release_of queue barrier)) seen_as
      (λ room. due-by a (history_of a) refl (Call (Stop queue)) (enters outcome.Accepted (release_of queue barrier)) (stop-known q some ∙ (rw (goes, is) refl))
      ∙ (rw (left barrier none is which room) refl))
    where
      left : (o : Option PacketId) (b : Bool) → o ≡ option_map (λ (p : Place). p.id) (find (λ (p : Place). is_barrier p.packet) q.places) → is_some o ≡ not b
          → (b ≡ true → is_full (history_of a) ≡ false) →
          lacks_room (history_of a) (entry_of (Call (Stop queue)) outcome.Accepted (release_of queue o)) ≡ false
      left None true is which room = room refl
      left None false is which room = absurd cc
      left (Some id) b is which room = grind (
        arith,
        release-room a kept queue id
            (in-place a kept queue id q some (found-by_id (λ (p : Place). is_barrier p.packet) q.places id (sym is)).place
            (found-by_id (λ (p : Place). is_barrier p.packet) q.places id (sym is)).is).flying
            (in-place a kept queue id q some (found-by_id (λ (p : Place). is_barrier p.packet) q.places id (sym is)).place
            (found-by_id (λ (p : Place). is_barrier p.packet) q.places id (sym is)).is).found,
      )

  -- a stop without a barrier packet is refused where the audit has none
  pub stop-full : (q : Queue) (barrier : Option PacketId) (old : History) → history_of a ≡ old → queue_in a.queues.items queue ≡ Some q → q.stopped ≡ false
      → barrier ≡ option_map (λ (p : Place). p.id) (find (λ (p : Place). is_barrier p.packet) q.places) → is_some barrier ≡ false → is_full old ≡ true
      → due old (Call (Stop queue)) ≡ refuses refusal.AuditFull
  stop-full q barrier old h4 h5 h6 h7 h8 h9 = grind (arith, stop-known q)
