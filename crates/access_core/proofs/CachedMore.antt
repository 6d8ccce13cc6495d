-- What is cached stays what the history says when an entry is put behind it and the fields follow.
use Rattle.std.proofs.Common.{◌≡◌, ℕ, ◌+◌, ◌≤◌, List, [], ◌∷◌, length, sym, ◌∙◌, ap, subst, refl, true, false, Some, None, arith, length-append, fold}
use Rattle.std.proofs.Common.{All}
use Rattle.access_core.proofs.Terms.{AreBlocksOf, AreLaid, ArgumentBlock, ClientId, Effect, Event, History, HoldsNone, InFlight, Inside, IsCached, IsEntered, IsSound, Ledger, Object, Outcome}
use Rattle.access_core.proofs.Terms.{Owed}
use Rattle.access_core.proofs.Terms.{PacketId, QUEUES, Queue, QueueId, Right, Start, block_of, is_given, byte_after, byte_at, cached_openings, cached_view, due, entered-owed}
use Rattle.access_core.proofs.Terms.{enters, entry_of, flight, flight-more, history_of, in_force, in_force-more, in_force_after, lacks_room, launched_by, lengths_of}
use Rattle.access_core.proofs.Terms.{lies_in_region, lies_in_regions, ltb-false, memory_at, memory_at-more, openings-more, owed, queue_at, queue_in}
use Rattle.access_core.proofs.Terms.{region_lengths, signals-more, signals_after, start_of, with_entry, AscendFrom, Openings, openings_after}
use Rattle.core_model.specs.declared.origin.Origin.{Origin}
use Rattle.core_model.specs.Policies.{policy_at, rows_after}
use Rattle.core_model.proofs.More.{rows_at-more}
use Rattle.policy.specs.declared.rows.PolicyRows.{PolicyRows}
use Rattle.access_core.proofs.Terms.{Rules, rules_of}
use Rattle.core_model.proofs.Flying.{all-after}
use Rattle.core_model.proofs.States.{IsLegal-more}
use Rattle.core_model.specs.Holds.{arguments, held}
use Rattle.access_core.proofs.QueueAt.{IsQuiet, flight-quiet, queue_at-quiet}
use Rattle.access_core.specs.inner.Ready.{AreReady}
use Rattle.grants.specs.Ledger as ledger
use Rattle.access_core.specs.inner.Cached.{IsKeptStart}

-- How the grants follow an entry, and with them the argument blocks.
pub record GrantsAfter (a : Inside) (new : Ledger) (blocks : List ArgumentBlock) (event : Event) (outcome : Outcome) (effects : List Effect) : Type 0 where
  pub granted : (client : ClientId) (on : Object) (right : Right) → ledger.in_force new client on right ≡ in_force_after client on right (ledger.in_force a.grants client on right) event
  pub rules : ledger.rules_in new ≡ record (ledger.rules_in a.grants) { rows = rows_after (ledger.rules_in a.grants).rows event }
  pub held : (queue : QueueId) (id : PacketId) (client : ClientId) (on : Object) (right : Right)
      → is_given blocks queue id client on right ≡ held (start_of a) (with_entry a.audit.items event outcome effects) queue id client on right
  pub unheld : HoldsNone new
  pub blocks_are : AreBlocksOf (flight (start_of a) (with_entry a.audit.items event outcome effects)) blocks
  pub arguments : (queue : QueueId) (id : PacketId) → block_of blocks queue id ≡ arguments (start_of a) (with_entry a.audit.items event outcome effects) queue id

-- How the memory does.
pub record MemoryAfter (old new : List (List ℕ)) (effects : List Effect) : Type 0 where
  pub lengths : lengths_of new ≡ lengths_of old
  pub memory : (x byte : ℕ) → byte_at old x ≡ Some byte → byte_at new x ≡ Some (fold (byte_after x) byte effects)

-- How the queues do.
pub record QueuesAfter (a : Inside) (new : List Queue) (opened count : ℕ) (event : Event) (outcome : Outcome) (effects : List Effect) : Type 0 where
  pub openings : cached_openings opened new ≡ openings_after (cached_openings a.opened a.queues.items) event
  pub queues : (queue : QueueId) → cached_view (queue_in new queue) ≡ queue_at (start_of a) (with_entry a.audit.items event outcome effects) queue
  pub ascending : AscendFrom 0 new
  pub up_to : All (λ q. q.number.0 ≤ opened) new
  pub sound : All IsSound new
  pub few_queues : length new ≤ QUEUES
  pub in_flight_count : count ≡ length (flight (start_of a) (with_entry a.audit.items event outcome effects))
  pub within : (f : InFlight) → launched_by event outcome ≡ Some f → lies_in_regions (region_lengths a.start.policy) f.packet ≡ true

-- The audit has one entry more, and the other fields follow.
pub record FieldsAfter (a b : Inside) (event : Event) (outcome : Outcome) (effects : List Effect) : Type 0 where
  pub same : ((b.start ≡ a.start) × (b.kernels ≡ a.kernels) × (b.segments ≡ a.segments)) × (b.capacity ≡ a.capacity)
  pub audit : IsEntered a.audit b.audit (entry_of event outcome effects)
  pub blocks : List ArgumentBlock
  pub grants : GrantsAfter a b.grants blocks event outcome effects
  pub memory : MemoryAfter a.memory b.memory effects
  pub values : b.signals ≡ fold signals_after a.signals effects
  pub queues : QueuesAfter a b.queues.items b.opened b.in_flight_count event outcome effects
  pub laid : AreLaid b.queues.items (a.start.before + length a.audit.items + 1) blocks
  pub ready : AreReady b.fresh b.told a.start blocks

-- what is due to an event after a history is due by the fields that show it
due-inside : (a : Inside) (old : History) (event : Event) (owing : Owed) → history_of a ≡ old → due old event ≡ owing → due (history_of a) event ≡ owing
due-inside a old event owing seen_as is = subst (λ h. due h event ≡ owing) (sym seen_as) is

module _ (a : Inside) (was : IsCached a) (old : History) (seen_as : history_of a ≡ old) (event : Event) (outcome : Outcome) (effects : List Effect)
    (is_due : due old event ≡ enters outcome effects) where
  entry : (owed (start_of a) a.audit.items event ≡ enters outcome effects) × (lacks_room (history_of a) (entry_of event outcome effects) ≡ false)
  entry = entered-owed (history_of a) event outcome effects (due-inside a old event _ seen_as is_due)

  -- an event that is due an entry is owed it by the fields
  pub owed-inside : owed (start_of a) a.audit.items event ≡ enters outcome effects
  owed-inside = entry.0

  -- there is room for the entry, with the packets that are in flight after it
  pub room-inside : length a.audit.items + 1 + length (flight (start_of a) (with_entry a.audit.items event outcome effects)) ≤ a.capacity
  room-inside = rw flight-more (ltb-false _ _ entry.1)

module _ (a b : Inside) (event : Event) (outcome : Outcome) (effects : List Effect) (was : IsCached a) (after : FieldsAfter a b event outcome effects) where
  longer : length b.audit.items ≡ length a.audit.items + 1
  longer = ap length after.audit.items ∙ length-append a.audit.items (entry_of event outcome effects ∷ [])

  entries-after : a.start.before + length a.audit.items + 1 ≡ b.start.before + length b.audit.items
  entries-after = let same = ap (λ (o : Origin). o.before) after.same.0.0 in omega (arith, same, longer)

  granted-after : (client : ClientId) (on : Object) (right : Right) → ledger.in_force b.grants client on right ≡ in_force (start_of b) b.audit.items client on right
  granted-after client on right = grind (arith, in_force-more)

  rules-after : ledger.rules_in b.grants ≡ rules_of (policy_at (start_of b) b.audit.items)
  rules-after = rw (after.same.0.0, after.same.0.1, after.audit.items)
      (after.grants.rules ∙ ap (λ (r : Rules). record r { rows = rows_after r.rows event }) was.rules
      ∙ ap (λ (rows : PolicyRows). record (rules_of a.start.policy) { rows = rows }) (sym (rows_at-more (start_of a) a.audit.items (entry_of event outcome effects))))

  memory-after : (x : ℕ) → lies_in_region (region_lengths b.start.policy) x ≡ true → byte_at b.memory x ≡ Some (memory_at (start_of b) b.audit.items x)
  memory-after x lies = grind (arith, memory_at-more)

  pub IsCached-more : (old : History) → history_of a ≡ old → due old event ≡ enters outcome effects → IsCached b
  IsCached-more old seen_as is_due =
      let room = room-inside a was old seen_as event outcome effects is_due in
      record {
        granted = granted-after;
        rules = rules-after;
        blocks = after.blocks;
        laid = subst (λ n. AreLaid b.queues.items n after.blocks) entries-after after.laid;
        held = λ queue id client on right. rw (after.same.0.0, after.same.0.1, after.audit.items) (after.grants.held queue id client on right);
        unheld = after.grants.unheld;
        blocks_are = rw (after.same.0.0, after.same.0.1, after.audit.items) after.grants.blocks_are;
        arguments = λ queue id. rw (after.same.0.0, after.same.0.1, after.audit.items) (after.grants.arguments queue id);
        entries = rw after.same.0.1 was.entries;
        segments = rw (after.same.0.1, after.same.0.2) was.segments;
        lengths = rw after.same.0.0 (after.memory.lengths ∙ was.lengths);
        memory = memory-after;
        values = rw (after.same.0.0, after.same.0.1, after.audit.items, signals-more, ← was.values) after.values;
        openings = rw (after.same.0.0, after.same.0.1, after.audit.items)
            (after.queues.openings ∙ ap (λ (all : Openings). openings_after all event) was.openings ∙ sym (openings-more (start_of a) a.audit.items (entry_of event outcome effects)));
        queues = λ queue. rw (after.same.0.0, after.same.0.1, after.audit.items) (after.queues.queues queue);
        ascending = after.queues.ascending;
        up_to = after.queues.up_to;
        sound = after.queues.sound;
        few_queues = after.queues.few_queues;
        in_flight_count = rw (after.same.0.0, after.same.0.1, after.audit.items) after.queues.in_flight_count;
        within = rw (after.same.0.0, after.same.0.1, after.audit.items, flight-more)
            (all-after (λ f. lies_in_regions (region_lengths a.start.policy) f.packet ≡ true) (entry_of event outcome effects)
            (flight (start_of a) a.audit.items) after.queues.within was.within);
        room = omega (arith, longer, room, after.queues.in_flight_count, after.same.1);
        places = omega (arith, longer, after.audit.room, after.same.1, was.places);
        few = omega (arith, after.same.1, was.few);
        start_kept = subst IsKeptStart (sym after.same.0.0) was.start_kept;
        before = rw after.same.0.0 was.before;
        ready = subst (λ (o : Origin). AreReady b.fresh b.told o after.blocks) (sym after.same.0.0) after.ready;
        legal = rw (after.same.0.0, after.same.0.1, after.audit.items)
            (IsLegal-more (start_of a) a.audit.items (entry_of event outcome effects) was.legal (owed-inside a was old seen_as event outcome effects is_due));
      }

-- ---- what an entry leaves as it is

-- an entry that launches nothing launches nothing past a region
pub none-launched : (event : Event) (outcome : Outcome) → launched_by event outcome ≡ None → (start : Start) (f : InFlight) → launched_by event outcome ≡ Some f
    → lies_in_regions (region_lengths start.policy) f.packet ≡ true
none-launched event outcome none start f is = absurd (cc (none, is))

pub memory-still : (memory : List (List ℕ)) (effects : List Effect) → ((x byte : ℕ) → fold (byte_after x) byte effects ≡ byte) → MemoryAfter memory memory effects
memory-still memory effects none = record { lengths = refl; memory = λ x byte before. before ∙ ap Some (sym (none x byte)) }

module _ (a : Inside) (was : IsCached a) (event : Event) (outcome : Outcome) (effects : List Effect) (quiet : IsQuiet event outcome effects) where
  pub queues-still : ((all : Openings) → openings_after all event ≡ all) → QueuesAfter a a.queues.items a.opened a.in_flight_count event outcome effects
  queues-still same = record {
    openings = sym (same (cached_openings a.opened a.queues.items));
    queues = λ m. was.queues m ∙ sym (queue_at-quiet (start_of a) a.audit.items event outcome effects quiet m);
    ascending = was.ascending;
    up_to = was.up_to;
    sound = was.sound;
    few_queues = was.few_queues;
    in_flight_count = was.in_flight_count ∙ ap length (sym (flight-quiet (start_of a) a.audit.items event outcome effects quiet));
    within = none-launched _ _ quiet.launches (start_of a);
  }
