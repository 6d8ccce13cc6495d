-- The rings and the history stay in step, whatever is asked.
use Rattle.std.proofs.Common.{◌≡◌, ◌≢◌, ℕ, ◌+◌, ◌<◌, List, [], ◌∷◌, ◌++◌, length, refl, sym, ap, ◌∙◌, subst, true, false, Option, Some, None, inl, inr, arith}
use Rattle.std.specs.Prelude.{◌⊎◌, ◌&&◌, is_some, nat_le, slice_get}
use Rattle.std.proofs.lemmas.Bool.{ltb-true}
use Rattle.std.proofs.lemmas.Bool.Decides.{eqb_tells}
use Rattle.aql_packet.specs.declared.ids.QueueId.{QueueId}
use Rattle.policy.specs.Policy.{Declared, numbered}
use Rattle.core_model.specs.declared.event.Event.{Event}
use Rattle.core_model.specs.declared.entry.Entry.{Entry}
use Rattle.core_model.specs.History.{beginning, History}
use Rattle.core_model.specs.Queues.{Openings, next_id, next_id_after, opening_in, openings, openings_after, owner}
use Rattle.core_model.specs.Owed.{Owed, refuses, answers, enters}
use Rattle.core_model.specs.Legal.{due, entry_of, history_after}
use Rattle.core_model.proofs.More.{next_id-more, openings-more}
use Rattle.ring_core.specs.declared.access.Access.TheVariants.{ClearHeader}
use Rattle.ring_core.specs.declared.access.Step.{Step}
use Rattle.ring_core.specs.Words.{packet_of}
use Rattle.ring_core.specs.Tickets.{is_published}
use Rattle.ring_core.specs.Machine.{Machine, is_allowed, made, producers_of, read_index}
use Rattle.ring_core.specs.Rule.{IsRing, processor_of}
use Rattle.ring_core.proofs.Publication.{Raised, Stayed, index_moves, published_stays}
use Rattle.aql_packet.specs.Words.{bytes_of}
use Rattle.world.specs.States.{Joined, among, closed_ring_of, put, ring_of, with_core, with_ring}
use Rattle.world.specs.Dues.{is_decided, may_follow}
use Rattle.world.specs.InStep.{HasItsSize, IsInStep, IsJoinedBehind, IsPublished, Stands, StandsOpen, StoodClosed, is_open, published, size_of, sizes, taken_from, takes, was_opened}
use Rattle.world.proofs.Entering.{sizes_behind, takes_behind, whole_entered, with_some}
use Rattle.world.proofs.Among.{apart_put, put_found, put_others, same_queue}

-- ---- a ring's step

module _ (core : History) (all : List Entry) (queue : QueueId) (ring : Machine) (step : Step) (is_ring : IsRing ring) (may : is_allowed ring step ≡ true) (follows : may_follow (is_decided core queue ring) step.access ≡ true) (h : IsInStep core all queue ring) where
  next : ℕ
  next = next_id (beginning core) core.entries queue

  -- what is published stays published, as it was
  still_published : (id : ℕ) → IsPublished ring id → IsPublished (made ring step) id × (published (made ring step) id ≡ published ring id)
  still_published id is =
      let same = published_stays (producers_of ring) ring step is_ring.rule may id is in
      (ap is_published same ∙ is, ap (λ t. bytes_of (packet_of t.words)) same)

  still_whole : (id : ℕ) → id < next_id (beginning core) core.entries queue → IsPublished (made ring step) id × (slice_get (takes all queue) id ≡ Some (published (made ring step) id))
  still_whole id lt =
      let was = h.whole id lt in
      let now = still_published id was.0 in
      (now.0, was.1 ∙ ap Some (sym now.1))

  may_clear : step.access ≡ ClearHeader → read_index ring < next_id (beginning core) core.entries queue
  may_clear is = ltb-true (read_index ring) (next_id (beginning core) core.entries queue) (ap (may_follow (is_decided core queue ring)) (sym is) ∙ follows)

  by_index : Raised ring (made ring step) step.access ⊎ Stayed ring (made ring step) step.access → IsInStep core all queue (made ring step)
  by_index (inl raised) =
      let below : read_index ring < next_id (beginning core) core.entries queue = h.cleared raised.was_cleared in
      record {
        floor = omega (arith, raised.index_is, below);
        ceiling = omega (arith, raised.index_is, h.ceiling);
        cleared = λ raising. absurd (let no_more : false ≡ true = sym raised.is_done ∙ raising in cc);
        count = h.count;
        whole = still_whole;
      }
  by_index (inr stayed) = record {
    floor = omega (arith, stayed.index_is, h.floor);
    ceiling = omega (arith, stayed.index_is, h.ceiling);
    cleared = λ raising. by_cause (stayed.clears raising);
    count = h.count;
    whole = still_whole;
  }
    where
      by_cause : ((processor_of ring.parts).raising ≡ true) ⊎ (step.access ≡ ClearHeader) → read_index (made ring step) < next_id (beginning core) core.entries queue
      by_cause (inl was) = omega (arith, stayed.index_is, h.cleared was)
      by_cause (inr is) = omega (arith, stayed.index_is, may_clear is)

  pub step_in_step : IsInStep core all queue (made ring step)
  step_in_step = by_index (index_moves (producers_of ring) ring step is_ring.rule may)

-- a queue that has a ring is open, and its ring is none of a closed queue's
pub stands_open : (core : History) (all : List Entry) (queue : QueueId) (ring : Machine) (closed : Option Machine) → Stands core all queue (Some ring) closed → StandsOpen core all queue ring × (closed ≡ None)
stands_open core all queue ring None h = (h, refl)
stands_open core all queue ring (Some other) h = absurd h

pub stands_so : (first : Declared) (prior : List Entry) (world : Joined) (h : IsJoinedBehind first prior world) (queue : QueueId) (ring : Machine) → ring_of world queue ≡ Some ring
    → StandsOpen world.core (prior ++ world.core.entries) queue ring × (closed_ring_of world queue ≡ None)
stands_so first prior world h queue ring found =
    stands_open world.core (prior ++ world.core.entries) queue ring (closed_ring_of world queue)
    (subst (λ o. Stands world.core (prior ++ world.core.entries) queue o (closed_ring_of world queue)) found (h.each queue))

-- another state of a queue's ring, in step
pub ring_replaced : (first : Declared) (prior : List Entry) (world : Joined) (queue : QueueId) (ring new : Machine) (h : IsJoinedBehind first prior world) → ring_of world queue ≡ Some ring
    → StandsOpen world.core (prior ++ world.core.entries) queue new → IsJoinedBehind first prior (with_ring world queue new)
ring_replaced first prior world queue ring new h found stands = record {
  start_is = h.start_is;
  whole = h.whole;
  apart = apart_put world.rings queue new h.apart;
  count = h.count;
  each = at;
}
  where
    here : Stands world.core (prior ++ world.core.entries) queue (Some new) (closed_ring_of world queue)
    here = subst (Stands world.core (prior ++ world.core.entries) queue (Some new)) (sym (stands_so first prior world h queue ring found).1) stands

    at : (other : QueueId) → Stands world.core (prior ++ world.core.entries) other (ring_of (with_ring world queue new) other) (closed_ring_of world other)
    at other =
        elim (eqb_tells other.0 queue.0) [
          | inl e ↦
              subst (λ (o : Option Machine). Stands world.core (prior ++ world.core.entries) other o (closed_ring_of world other)) (sym (ap (among (put world.rings queue new)) (same_queue other queue e.1) ∙ put_found world.rings queue ring new found))
              (subst (λ (q : QueueId). Stands world.core (prior ++ world.core.entries) q (Some new) (closed_ring_of world q)) (sym (same_queue other queue e.1)) here)
          | inr e ↦
              subst (λ (o : Option Machine). Stands world.core (prior ++ world.core.entries) other o (closed_ring_of world other)) (sym (put_others world.rings queue other new e.1)) (h.each other)
        ]

-- ---- an entry

-- the questions that rings and history share have the same answers of a queue
pub record IsStill (old new : History) (was now : List Entry) (queue : QueueId) : Type 0 where
  pub next : next_id (beginning new) new.entries queue ≡ next_id (beginning old) old.entries queue
  pub takes : takes now queue ≡ takes was queue
  pub size : numbered (sizes now) queue.0 ≡ numbered (sizes was) queue.0
  pub opened : was_opened new queue ≡ was_opened old queue
  pub owned : is_open new queue ≡ is_open old queue

-- so the queue stands as before
pub stands_along : (old new : History) (was now : List Entry) (queue : QueueId) (o c : Option Machine) → IsStill old new was now queue → Stands old was queue o c → Stands new now queue o c
stands_along old new was now queue None None still h = record {
  next = still.next ∙ h.next;
  takes = still.takes ∙ h.takes;
  unopened = still.opened ∙ h.unopened;
  unowned = still.owned ∙ h.unowned;
}
stands_along old new was now queue (Some ring) None still h = record {
  rule = h.rule;
  in_step = record {
    floor = omega (arith, still.next, h.in_step.floor);
    ceiling = omega (arith, still.next, h.in_step.ceiling);
    cleared = λ raising. let below = h.in_step.cleared raising in omega (arith, still.next);
    count = ap length still.takes ∙ h.in_step.count ∙ sym still.next;
    whole = λ id lt.
        let there = h.in_step.whole id (omega (arith, still.next, lt)) in
        (there.0, ap (λ xs. slice_get xs id) still.takes ∙ there.1);
  };
  size = still.size ∙ h.size;
  opened = still.opened ∙ h.opened;
  owned = still.owned ∙ h.owned;
}
stands_along old new was now queue None (Some ring) still h = stood_along old new was now queue ring still.takes still.size still.opened (still.owned ∙ h.unowned) (still.next ∙ h.next) h
  where
    stood_along : (old new : History) (was now : List Entry) (queue : QueueId) (ring : Machine) → takes now queue ≡ takes was queue → numbered (sizes now) queue.0 ≡ numbered (sizes was) queue.0
        → was_opened new queue ≡ was_opened old queue → is_open new queue ≡ false → next_id (beginning new) new.entries queue ≡ 0 → StoodClosed old was queue ring → StoodClosed new now queue ring
    stood_along old new was now queue ring same size opened owned next h =
        let long : length (takes now queue) ≡ length (takes was queue) = ap length same in
        record {
          rule = h.rule;
          in_step = record {
            floor = omega (arith, long, h.in_step.floor);
            ceiling = omega (arith, long, h.in_step.ceiling);
            cleared = λ raising. let below = h.in_step.cleared raising in omega (arith, long);
            whole = λ id lt.
                let there = h.in_step.whole id (omega (arith, long, lt)) in
                (there.0, ap (λ xs. slice_get xs id) same ∙ there.1);
          };
          size = size ∙ h.size;
          opened = opened ∙ h.opened;
          unowned = owned;
          next = next;
        }
stands_along old new was now queue (Some ring) (Some other) still h = absurd h

-- an event that neither opens nor closes a queue, and hands over no packet
pub record IsAside (event : Event) : Type 0 where
  pub opens : (before : Openings) → openings_after before event ≡ before
  pub sizes : size_of event ≡ None
  pub takes : (queue : QueueId) → taken_from queue event ≡ None
  pub nexts : (queue : QueueId) (next : ℕ) → next_id_after queue next event ≡ next

-- whether a queue is open, and whether it was opened, by all openings
pub open_as : (core : History) (queue : QueueId) (all : Openings) → openings (beginning core) core.entries ≡ all → is_open core queue ≡ is_some (opening_in all.queues queue)
open_as core queue all is = ap (λ (o : Openings). is_some (opening_in o.queues queue)) is

pub opened_as : (core : History) (queue : QueueId) (all : Openings) → openings (beginning core) core.entries ≡ all → was_opened core queue ≡ (nat_le 1 queue.0 && nat_le queue.0 all.opened)
opened_as core queue all is = ap (λ (o : Openings). nat_le 1 queue.0 && nat_le queue.0 o.opened) is

module _ (first : Declared) (prior : List Entry) (world : Joined) (h : IsJoinedBehind first prior world) (event : Event) where
  abbrev After : Owed → Joined
  After owing = with_core world (history_after world.core event owing)

  aside_by : IsAside event → (owing : Owed) → due world.core event ≡ owing → IsJoinedBehind first prior (After owing)
  aside_by aside (refuses why) is = h
  aside_by aside (answers outcome) is = h
  aside_by aside (enters outcome effects) is =
      let e : Entry = entry_of event outcome effects in
      let new : History = history_after world.core event (enters outcome effects) in
      let all : openings (beginning new) new.entries ≡ openings (beginning world.core) world.core.entries =
      openings-more (beginning world.core) world.core.entries e ∙ aside.opens (openings (beginning world.core) world.core.entries) in
      let same_sizes : sizes (prior ++ (world.core.entries ++ e ∷ [])) ≡ sizes (prior ++ world.core.entries) =
      sizes_behind prior world.core.entries e ∙ ap (with_some (sizes (prior ++ world.core.entries))) aside.sizes in
      record {
        start_is = h.start_is;
        whole = whole_entered world.core event outcome effects first prior h.start_is h.whole is;
        apart = h.apart;
        count = ap length same_sizes ∙ h.count ∙ ap (λ (o : Openings). o.opened) (sym all);
        each = λ queue. stands_along world.core new (prior ++ world.core.entries) (prior ++ (world.core.entries ++ e ∷ [])) queue (ring_of world queue) (closed_ring_of world queue)
            (record {
              next = next_id-more (beginning world.core) world.core.entries e queue ∙ aside.nexts queue (next_id (beginning world.core) world.core.entries queue);
              takes = takes_behind prior world.core.entries e queue ∙ ap (with_some (takes (prior ++ world.core.entries) queue)) (aside.takes queue);
              size = ap (λ (ns : List ℕ). numbered ns queue.0) same_sizes;
              opened = opened_as new queue (openings (beginning world.core) world.core.entries) all;
              owned = open_as new queue (openings (beginning world.core) world.core.entries) all;
            })
            (h.each queue);
      }

  pub aside_kept : IsAside event → IsJoinedBehind first prior (After (due world.core event))
  aside_kept aside = aside_by aside (due world.core event) refl
