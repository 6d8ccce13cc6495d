-- What is owed to a packet that is handed over, by what is kept.
use Rattle.std.proofs.Common.{IfSome}
use Rattle.core_model.specs.History.{beginning}
use Rattle.std.proofs.Common.{◌≡◌, ℕ, ◌<◌, ◌^◌, List, [], ◌∷◌, get_or, length, refl, sym, ◌∙◌, ap, Bool, true, false, Option, Some, None, arith, ◌+◌}
use Rattle.std.proofs.Common.{◌++◌, eqb-true, length-append, subst, nat_lt, All, ◌||◌, ◌==◌, map, option_map, if◌then◌else◌}
use Rattle.access_core.proofs.Terms.{All-head, All-push, All-weaker, ArgumentBlock, CanFail, ClientId, Denied, Effect, Entry, Event, Facts, History, InFlight, Inside, IsBlockPlaced, IsCached}
use Rattle.access_core.proofs.Terms.{FoundPacket, IsAbove, IsFoundAt, IsFoundIn, IsFoundOf, IsHolder, IsInPlace, IsQueueIndex, IsSound, Launched, MayReach, MayReachRange, Opening, Outcome, Packet, PacketId, Place, Queue, QueueError, QueueId, QueueView}
use Rattle.access_core.proofs.Terms.{Read, Rule, MOST_IN_FLIGHT, Start, Take, TakesNext, and_parts, argument_ranges, as_launched, barrier_bit, cached_opening, cached_view}
use Rattle.access_core.proofs.Terms.{decoded, due, entered-owed, enters, entry_of, error_without_place, facts_of, first_failing_rule, flight, flight_of}
use Rattle.access_core.proofs.Terms.{found-passes, has_number, history_of, is_placed, kernel_of, lacks_room, launched_by, length-map, map-append}
use Rattle.access_core.proofs.Terms.{lies_in_regions}
use Rattle.access_core.proofs.Terms.{lies_whole, list_all, lt-ltb, memory_needs, need_is_met, needs, owed_verdict, owner, place_of}
use Rattle.access_core.proofs.Terms.{queue_at, refuse_unless, refuses, region_lengths, start_of, with_denied, with_entry, with_queue, AscendFrom, OpenQueue, Openings, cached_openings, cached_queue, opening_in, openings_after, queue_in}
use Rattle.packet_processor.proofs.FirstFailing.{first_failing-decoded}
use Rattle.core_model.specs.Queues.{next_id}
use Rattle.core_model.specs.declared.need.Need.{Need}
use Rattle.core_model.specs.LaunchRules.{cause_to_wait}
use Rattle.packet_processor.specs.inner.FieldRules.{later_failing}
use Rattle.core_model.specs.Owed.{owed}
use Rattle.std.proofs.Common.{◌⊎◌}
use Rattle.aql_packet.specs.declared.packet.Packet.TheVariants as packet
use Rattle.core_model.proofs.Launching.{launch-granted}
use Rattle.core_model.proofs.States.{next_id-le, next-before}
use Rattle.access_core.specs.inner.QueueChanges.{with_launched}
use Rattle.access_core.specs.inner.ArgumentBlocks.{AreOfPlaces, IsOfQueue, by_packet}
use Rattle.access_core.proofs.Ascending.{ascend-with, ids-below}
use Rattle.access_core.proofs.CachedMore.{QueuesAfter, none-launched}
use Rattle.access_core.proofs.QueueAt.{flight-launched, flight-unlaunched, map-map, denied, launched, queue_at-denied, queue_at-launched}
use Rattle.access_core.proofs.ChangedQueue.{ascending-changed, kept-there, length-changed, openings-changed, queues-changed, sound-at, sound-changed, up_to-changed}
use Rattle.access_core.proofs.QueueLemmas.{opening-kept}
use Rattle.queue_error.specs.declared.rule.Rule.TheVariants as rule
use Rattle.core_model.specs.declared.refusal.Refusal.TheVariants as refusal
use Rattle.core_model.specs.declared.outcome.Outcome.TheVariants as outcome

-- the owner of a queue is the one that is kept
pub owner-kept : (a : Inside) (queue : QueueId) → IsCached a → owner (start_of a) a.audit.items queue ≡ option_map cached_opening (queue_in a.queues.items queue)
owner-kept a queue kept = ap (λ (all : Openings). opening_in all.queues queue) (sym kept.openings) ∙ opening-kept a.queues.items queue

-- what is found of bytes by the facts of a history is found by those of the fields
pub judged-inside : (a : Inside) (old : History) → history_of a ≡ old → (q : Queue) (bytes : List ℕ) (found : Option Rule)
    → first_failing_rule (facts_of (beginning old) old.entries (cached_opening q)) bytes ≡ found
    → first_failing_rule (facts_of (start_of a) a.audit.items (cached_opening q)) bytes ≡ found
judged-inside a old seen_as q bytes found is = subst (λ (h : History). first_failing_rule (facts_of (beginning h) h.entries (cached_opening q)) bytes ≡ found) (sym seen_as) is

-- its packets in flight are those of the history
pub packets-kept : (a : Inside) (queue : QueueId) (q : Queue) → IsCached a → queue_in a.queues.items queue ≡ Some q
    → map (λ (f : InFlight). f.packet) (flight_of (start_of a) a.audit.items queue) ≡ map (λ (p : Place). p.packet) q.places
packets-kept a queue q kept some = grind (arith, map-map)

module _ (a : Inside) (kept : IsCached a) (queue : QueueId) (id : PacketId) (bytes : List ℕ) where
  -- no queue has the number
  pub take-unknown : queue_in a.queues.items queue ≡ None → owed (start_of a) a.audit.items (Take queue id bytes) ≡ refuses refusal.UnknownQueue
  unfolding owed
  take-unknown none = rw (owner-kept a queue kept, none) refl

  -- the queue is kept
  pub take-known : (q : Queue) → queue_in a.queues.items queue ≡ Some q →
      owed (start_of a) a.audit.items (Take queue id bytes) ≡
      (if nat_lt 0 (length q.errors.items) || q.stopped then refuses refusal.QueueDown
      else refuse_unless (id.0 == q.next) (refuses (refusal.OutOfStep q.next))
      (owed_verdict queue id.0 (cause_to_wait (map (λ (p : Place). p.packet) q.places) (barrier_bit bytes))
      (first_failing_rule (facts_of (start_of a) a.audit.items (cached_opening q)) bytes)))
  unfolding owed
  take-known q some = grind (arith, owner-kept, packets-kept)

-- the rules that ask for rights
pub record PassesRights (facts : Facts) (p : Packet) : Type 0 where
  pub agent : list_all (need_is_met facts) (needs rule.L4 facts.agent p) ≡ true
  pub kernel : list_all (need_is_met facts) (needs rule.L6 facts.agent p) ≡ true
  pub memory : list_all (need_is_met facts) (memory_needs p) ≡ true
  pub waits : list_all (need_is_met facts) (needs rule.L9 facts.agent p) ≡ true
  pub completes : list_all (need_is_met facts) (needs rule.L10 facts.agent p) ≡ true

-- a packet that no rule refuses passes them
passed-rights : (facts : Facts) (p : Packet) → later_failing facts p ≡ None → PassesRights facts p
passed-rights facts p none = grind arith

-- what is needed and met lies whole in regions
lies-met : (facts : Facts) (all : List Need) → list_all (need_is_met facts) all ≡ true → list_all (λ need. lies_whole facts.lengths need.subject) all ≡ true
lies-met facts [] met = refl
lies-met facts (need ∷ all) met = grind (arith, lies-met facts all (and_parts (need_is_met facts need) (list_all (need_is_met facts) all) met).1)

-- a packet that is launched has all its ranges within regions
pub within-launched : (start : Start) (es : List Entry) (opening : Opening) (bytes : List ℕ) (p : Packet) → decoded bytes ≡ Some p
    → first_failing_rule (facts_of start es opening) bytes ≡ None → lies_in_regions (region_lengths start.policy) p ≡ true
within-launched start es opening bytes p found none =
    lies-met (facts_of start es opening) (memory_needs p) (passed-rights (facts_of start es opening) p (sym (first_failing-decoded _ bytes p found) ∙ none)).memory

-- its argument block has its place
placed-block : (h : History) (client : ClientId) (p : Packet) → All (MayReachRange (beginning h) h.entries client Read) (argument_ranges (beginning h) p) → IsBlockPlaced h p
placed-block h client (packet.Kernel d) all = reached (All-head (MayReachRange (beginning h) h.entries client Read) _ [] all)
  where
    size : ℕ
    size = (kernel_of (beginning h) d).argument_bytes

    reached : (size ≡ 0) ⊎ MayReach (beginning h) h.entries client Read d.kernarg_address.0 size → is_placed (region_lengths (beginning h).policy) d.kernarg_address.0 size ≡ true
    reached h1 = grind arith
placed-block h client (packet.Agent _) all = tt
placed-block h client (packet.BarrierAnd _) all = tt
placed-block h client (packet.BarrierOr _) all = tt

pub block-placed : (h : History) (queue : QueueId) (id : PacketId) (bytes : List ℕ) (p : Packet) → due h (Take queue id bytes) ≡ enters (outcome.Taken Launched) []
    → decoded bytes ≡ Some p → IsBlockPlaced h p
block-placed h queue id bytes p is found = grind (
  arith,
  placed-block h
      (launch-granted (beginning h) h.entries queue id bytes [] (entered-owed h (Take queue id bytes) (outcome.Taken Launched) [] is).0).opening.client
      (launch-granted (beginning h) h.entries queue id bytes [] (entered-owed h (Take queue id bytes) (outcome.Taken Launched) [] is).0).packet
      (launch-granted (beginning h) h.entries queue id bytes [] (entered-owed h (Take queue id bytes) (outcome.Taken Launched) [] is).0).allowed.arguments,
)

-- a launch has room where there is some for an entry and one packet more in flight
pub room-launched : (h : History) (queue : QueueId) (id : PacketId) (bytes : List ℕ) (p : Packet) → decoded bytes ≡ Some p
    → lacks_room h (entry_of (Take queue id bytes) (outcome.Taken Launched) []) ≡ nat_lt h.capacity (length h.entries + 1 + (length (flight (beginning h) h.entries) + 1))
room-launched h queue id bytes p reads = rw (reads, length-append) refl

-- a packet that may start finds a slot free
may_start-few : (ps : List Packet) (barrier : Bool) → cause_to_wait ps barrier ≡ None → length ps < MOST_IN_FLIGHT
unfolding cause_to_wait
may_start-few ps barrier none = grind arith

-- a queue that is kept, and not down, and where a packet may start takes its next packet
pub takes-next : (a : Inside) (kept : IsCached a) (queue : QueueId) (q : Queue) (barrier : Bool) → queue_in a.queues.items queue ≡ Some q
    → (nat_lt 0 (length q.errors.items) || q.stopped) ≡ false → cause_to_wait (map (λ (p : Place). p.packet) q.places) barrier ≡ None → TakesNext (history_of a) queue
takes-next a kept queue q barrier some down starts = grind (
  arith,
  length-map (flight_of (start_of a) a.audit.items queue) (λ (f : InFlight). f.packet),
  may_start-few (map (λ (f : InFlight). f.packet) (flight_of (start_of a) a.audit.items queue)) barrier
      (ap (λ ps. cause_to_wait ps barrier) (packets-kept a queue q kept some) ∙ starts),
  owner-kept a queue kept,
)

no_errors : (xs : List QueueError) (s : Bool) → (nat_lt 0 (length xs) || s) ≡ false → xs ≡ []
no_errors [] s e = refl
no_errors (x ∷ xs) s e = let some = lt-ltb 0 (length (x ∷ xs)) (omega arith) in let lost : true ≡ false = rw some at e in absurd cc

-- What is kept of a queue whose opening the history knows.
pub record IsOpen (a : Inside) (queue : QueueId) : Type 0 where
  pub q : Queue
  pub found : queue_in a.queues.items queue ≡ Some q
  pub view : cached_view (Some q) ≡ queue_at (start_of a) a.audit.items queue
  pub sound : IsSound q
  pub small : q.next < 2 ^ 63
  pub ascending : AscendFrom 0 a.queues.items

pub is-open : (a : Inside) (kept : IsCached a) (queue : QueueId) (opening : Opening) → owner (start_of a) a.audit.items queue ≡ Some opening → IsOpen a queue
is-open a kept queue opening owned = by_queue (queue_in a.queues.items queue) refl
  where
    by_queue : (o : Option Queue) → queue_in a.queues.items queue ≡ o → IsOpen a queue
    by_queue None none =
        let lost : Some opening ≡ None = sym owned ∙ owner-kept a queue kept ∙ ap (option_map cached_opening) none in
        absurd cc
    by_queue (Some q) found =
        let view : cached_view (Some q) ≡ queue_at (start_of a) a.audit.items queue = ap cached_view (sym found) ∙ kept.queues queue in
        let next : q.next ≡ next_id (start_of a) a.audit.items queue = ap (λ (v : QueueView). v.next) view in
        let handed = next_id-le (start_of a) a.audit.items queue in
        let begun = next-before (start_of a) a.audit.items kept.legal queue in
        let before = kept.before in
        let room = kept.room in
        let few = kept.few in
        record { q = q; found = found; view = view; sound = sound-at a.queues.items queue q kept.sound found; small = omega (arith, next, handed, begun, before, room, few); ascending = kept.ascending }

-- the queue of a packet in its place is open
pub open-of : (a : Inside) (kept : IsCached a) (old : History) → history_of a ≡ old → (queue : QueueId) (id : PacketId) (place : Place)
    → IsInPlace old queue id place → IsOpen a queue
open-of a kept old seen_as queue id place found = is-open a kept queue found.opening (ap (λ h. owner (beginning h) h.entries queue) seen_as ∙ found.owner_is)

-- the queue at the index of its number is its holder's
pub holder-kept : (a : Inside) (kept : IsCached a) (old : History) → history_of a ≡ old → (queue : QueueId) (id : PacketId) (place : Place) → IsInPlace old queue id place → (i : ℕ) (one : Queue)
    → IsQueueIndex a.queues.items queue (Some i) → one ≡ get_or a.queues.items i one → IsHolder old queue id one.client
holder-kept a kept old seen_as queue id place found i one at value =
    let there = open-of a kept old seen_as queue id place found in
    let is : one ≡ there.q = kept-there a.queues.items queue i there.q one there.found at value in
    let owned : Some (cached_opening there.q) ≡ Some found.opening =
    sym (owner-kept a queue kept ∙ ap (option_map cached_opening) there.found) ∙ ap (λ h. owner (beginning h) h.entries queue) seen_as ∙ found.owner_is in
    let same : cached_opening there.q ≡ found.opening = cc in
    record {
      opening = found.opening;
      owner_is = found.owner_is;
      client_is = ap (λ (o : Opening). o.client) (sym same) ∙ ap (λ (q : Queue). q.client) (sym is);
      flying = found.flying;
      found = found.found;
    }

-- a packet that was found has its place among those that are cached
pub found-of : (a : Inside) (kept : IsCached a) (old : History) → history_of a ≡ old → (queue : QueueId) (found : FoundPacket)
    → IsFoundAt old queue found → IsFoundOf a.queues.items queue (Some found)
found-of a kept old seen_as queue found is q some =
    let view : cached_view (Some q) ≡ queue_at (start_of a) a.audit.items queue = ap cached_view (sym some) ∙ kept.queues queue in
    subst (IsFoundIn found) (sym (ap (λ (v : QueueView). v.places) view)) (subst (λ h. IsFoundAt h queue found) (sym seen_as) is)

pub all-found-of : (a : Inside) (kept : IsCached a) (old : History) → history_of a ≡ old → (queue : QueueId) (found : Option FoundPacket)
    → IfSome found (IsFoundAt old queue) → IsFoundOf a.queues.items queue found
all-found-of a kept old seen_as queue None is q some = tt
all-found-of a kept old seen_as queue (Some found) is q some = found-of a kept old seen_as queue found is q some

-- A queue that takes its next packet has no error, and a slot free.
pub record CanTake (a : Inside) (queue : QueueId) : Type 0 where
  pub opened : IsOpen a queue
  pub none : opened.q.errors.items ≡ []
  pub few : length opened.q.places < MOST_IN_FLIGHT

pub can-take : (a : Inside) (kept : IsCached a) (queue : QueueId) → TakesNext (history_of a) queue → CanTake a queue
can-take a kept queue takes =
    let at = is-open a kept queue takes.0 takes.1 in
    let count = length-map (flight_of (start_of a) a.audit.items queue) (place_of (start_of a) a.audit.items queue) in
    let places : length at.q.places ≡ length (map (place_of (start_of a) a.audit.items queue) (flight_of (start_of a) a.audit.items queue)) =
    ap (λ (v : QueueView). length v.places) at.view in
    record { opened = at; none = ap (λ (v : QueueView). v.errors) at.view ∙ no_errors _ _ takes.2; few = omega (arith, count, places, takes.3) }

-- its client is the one who opened it
pub client-of : (a : Inside) (kept : IsCached a) (queue : QueueId) (can : CanTake a queue) (opening : Opening) → owner (start_of a) a.audit.items queue ≡ Some opening → opening.client ≡ can.opened.q.client
client-of a kept queue can opening owned =
    let same : Some opening ≡ Some (cached_opening can.opened.q) = sym owned ∙ owner-kept a queue kept ∙ ap (option_map cached_opening) can.opened.found in
    ap (λ (o : Option Opening). elim o [ None ↦ opening.client | Some one ↦ one.client ]) same

-- the ids of its packets in flight are below that of the next
pub below-next : (a : Inside) (kept : IsCached a) (queue : QueueId) → CanTake a queue → (id : PacketId) → id.0 ≡ next_id (start_of a) a.audit.items queue → IsAbove a.queues.items queue id
below-next a kept queue can id next q some =
    let same : can.opened.q ≡ q = cc (sym can.opened.found ∙ some) in
    let is : can.opened.q.next ≡ id.0 = ap (λ (v : QueueView). v.next) can.opened.view ∙ sym next in
    subst (λ (one : Queue). All (λ (place : Place). place.id.0 < id.0) one.places) same
    (subst (λ n. All (λ (place : Place). place.id.0 < n) can.opened.q.places) is can.opened.sound.below)

-- how the queues follow an entry that changes one of them
pub queues-after : (a : Inside) (kept : IsCached a) (queue : QueueId) (at : IsOpen a queue) (change : Queue → Queue) (view : QueueView → QueueView) (count : ℕ) (event : Event)
    (told : Outcome) (effects : List Effect)
    → ((all : Openings) → openings_after all event ≡ all) → ((q : Queue) → cached_queue (change q) ≡ cached_queue q) → IsSound (change at.q) → cached_view (Some (change at.q)) ≡ view (cached_view (Some at.q))
    → ((m : QueueId) → queue_at (start_of a) (with_entry a.audit.items event told effects) m
    ≡ (if queue.0 == m.0 then view (queue_at (start_of a) a.audit.items m) else queue_at (start_of a) a.audit.items m))
    → count ≡ length (flight (start_of a) (with_entry a.audit.items event told effects))
    → ((f : InFlight) → launched_by event told ≡ Some f → lies_in_regions (region_lengths a.start.policy) f.packet ≡ true)
    → QueuesAfter a (with_queue a.queues.items queue change) a.opened count event told effects
queues-after a kept queue at change view count event told effects none same sound alike now flying within =
    let numbers : (q : Queue) → (change q).number ≡ q.number = λ q. ap (λ (one : OpenQueue). one.queue) (same q) in
    record {
      openings = openings-changed a.queues.items queue change at.q at.found kept.ascending a.opened (same at.q) ∙ sym (none (cached_openings a.opened a.queues.items));
      queues = queues-changed a.queues.items queue change at.q at.found kept.ascending numbers view (start_of a) a.audit.items (with_entry a.audit.items event told effects) alike kept.queues now;
      ascending = ascending-changed a.queues.items queue change at.q at.found kept.ascending numbers;
      up_to = up_to-changed a.queues.items queue change at.q at.found kept.ascending numbers a.opened kept.up_to;
      sound = sound-changed a.queues.items queue change at.q at.found kept.ascending sound kept.sound;
      few_queues = omega (arith, length-changed a.queues.items queue change at.q at.found kept.ascending, kept.few_queues);
      in_flight_count = flying;
      within = within;
    }

-- ---- how the queues follow a packet that is handed over

module _ (a : Inside) (kept : IsCached a) (queue : QueueId) (id : PacketId) (bytes : List ℕ) (can : CanTake a queue) where
  -- there is room for an error
  pub can-deny : CanFail a.queues.items queue
  can-deny = grind arith

  sound-denied : (error : QueueError) → IsSound (with_denied error can.opened.q)
  sound-denied error = grind arith

  pub flight-denied : (rule : Rule) → flight (start_of a) (with_entry a.audit.items (Take queue id bytes) (outcome.Taken (Denied (error_without_place queue id.0 rule))) [])
      ≡ flight (start_of a) a.audit.items
  flight-denied rule = flight-unlaunched (start_of a) a.audit.items (Take queue id bytes) (outcome.Taken (Denied (error_without_place queue id.0 rule))) [] refl

  -- it is denied
  pub queues-denied : (rule : Rule) → QueuesAfter a (with_queue a.queues.items queue (with_denied (error_without_place queue id.0 rule))) a.opened a.in_flight_count (Take queue id bytes)
      (outcome.Taken (Denied (error_without_place queue id.0 rule))) []
  queues-denied rule = grind (
    arith,
    queues-after a kept queue can.opened (with_denied (error_without_place queue id.0 rule))
        (denied (error_without_place queue id.0 rule)) a.in_flight_count _ _ _ (λ all. refl) (λ q. refl) (sound-denied (error_without_place queue id.0 rule)) refl
        (λ m. queue_at-denied (start_of a) a.audit.items queue id bytes rule m) (kept.in_flight_count ∙ ap length (sym (flight-denied rule)))
        (none-launched (Take queue id bytes) (outcome.Taken (Denied (error_without_place queue id.0 rule))) refl (start_of a)),
  )

  -- it is launched
  module _ (p : Packet) (reads : decoded bytes ≡ Some p) (next : id.0 ≡ next_id (start_of a) a.audit.items queue) (b : ArgumentBlock) (named : b.packet ≡ id) (its : IsOfQueue queue can.opened.q.client b) where
    next-is : can.opened.q.next ≡ id.0
    next-is = ap (λ (v : QueueView). v.next) can.opened.view ∙ sym next

    below-id : All (λ (place : Place). place.id.0 < id.0) (queue_at (start_of a) a.audit.items queue).places
    below-id = subst (λ (ps : List Place). All (λ (place : Place). place.id.0 < id.0) ps) (ap (λ (v : QueueView). v.places) can.opened.view)
        (subst (λ n. All (λ (place : Place). place.id.0 < n) can.opened.q.places) next-is can.opened.sound.below)

    -- its block lies behind the others
    given-launched : AreOfPlaces (can.opened.q.places ++ as_launched b.packet p ∷ []) (can.opened.q.blocks ++ b ∷ [])
    given-launched =
        map-append (λ (c : ArgumentBlock). c.packet) can.opened.q.blocks (b ∷ []) ∙ ap (λ ids. ids ++ b.packet ∷ []) can.opened.sound.given
        ∙ sym (map-append (λ (p : Place). p.id) can.opened.q.places (as_launched b.packet p ∷ []))

    block-below : All (λ (c : ArgumentBlock). c.packet.0 < b.packet.0) can.opened.q.blocks
    block-below = subst (λ n. All (λ (c : ArgumentBlock). c.packet.0 < n) can.opened.q.blocks) (next-is ∙ ap (λ (i : PacketId). i.0) (sym named))
        (ids-below can.opened.q.next can.opened.q.places can.opened.q.blocks can.opened.sound.given can.opened.sound.below)

    number-is : can.opened.q.number ≡ queue
    number-is = ap (λ n. record { 0 = n }) (eqb-true _ _ (found-passes (has_number queue) a.queues.items can.opened.q can.opened.found))

    sound-launched : IsSound (with_launched p b can.opened.q)
    sound-launched =
        let q = can.opened.q in
        let id_is = ap (λ (i : PacketId). i.0) named in
        let none : length q.errors.items ≡ 0 = ap length can.none in
        let longer = length-append q.places (as_launched b.packet p ∷ []) in
        record {
          room = can.opened.sound.room;
          free = omega (arith, none, longer, can.few);
          below = All-push (λ p. p.id.0 < q.next + 1) q.places (as_launched b.packet p)
              (All-weaker (λ (p : Place). p.id.0 < q.next) (λ p. p.id.0 < q.next + 1) (λ p below. omega (arith, below)) q.places can.opened.sound.below)
              (omega (arith, next-is, id_is));
          given = given-launched;
          rising = ascend-with by_packet q.blocks b can.opened.sound.rising block-below;
          of_queue = All-push (IsOfQueue q.number q.client) q.blocks b can.opened.sound.of_queue (its.0 ∙ sym number-is, its.1);
        }

    pub flying-launched : a.in_flight_count + 1 ≡ length (flight (start_of a) (with_entry a.audit.items (Take queue id bytes) (outcome.Taken Launched) []))
    flying-launched = grind (
      arith,
      length-append (flight (start_of a) a.audit.items) (record { queue = queue; id = id; packet = p } ∷ []),
      flight-launched (start_of a) a.audit.items queue id bytes p reads,
    )

    pub queues-launched : lies_in_regions (region_lengths a.start.policy) p ≡ true
        → QueuesAfter a (with_queue a.queues.items queue (with_launched p b)) a.opened (a.in_flight_count + 1) (Take queue id bytes) (outcome.Taken Launched) []
    queues-launched within =
        queues-after a kept queue can.opened (with_launched p b) (launched id p) (a.in_flight_count + 1) _ _ _ (λ all. refl) (λ q. refl) sound-launched
        (ap (λ i. launched i p (cached_view (Some can.opened.q))) named)
        (λ m. queue_at-launched (start_of a) a.audit.items queue id bytes p reads below-id m) flying-launched packet-within
      where
        packet-within : (f : InFlight) → launched_by (Take queue id bytes) (outcome.Taken Launched) ≡ Some f → lies_in_regions (region_lengths a.start.policy) f.packet ≡ true
        packet-within f is = grind arith
