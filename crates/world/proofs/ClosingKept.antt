-- A queue that is closed has no ring any more, and what its ring was is in step with all that was launched or denied of it.
use Rattle.std.proofs.Common.{◌≡◌, ◌≢◌, ℕ, ◌+◌, ◌<◌, List, [], ◌∷◌, ◌++◌, length, refl, sym, ap, ◌∙◌, subst, Bool, true, false, Option, Some, None, Ok, Err, inl, inr, arith}
use Rattle.std.specs.Prelude.{◌==◌, is_some, slice_get, if◌then◌else◌}
use Rattle.std.proofs.lemmas.Bool.{eq-eqb}
use Rattle.std.proofs.lemmas.Bool.Decides.{eqb_tells}
use Rattle.aql_packet.specs.declared.ids.QueueId.{QueueId}
use Rattle.policy.specs.Policy.{Declared, numbered}
use Rattle.core_model.specs.declared.call.Call.TheVariants.{Close}
use Rattle.core_model.specs.declared.entry.Effect.{Effect}
use Rattle.core_model.specs.declared.entry.Entry.{Entry}
use Rattle.core_model.specs.declared.event.Event.{Event}
use Rattle.core_model.specs.declared.event.Event.TheVariants.{Call}
use Rattle.core_model.specs.declared.origin.Opening.{Opening}
use Rattle.core_model.specs.declared.outcome.Outcome.{Outcome}
use Rattle.core_model.specs.declared.outcome.Outcome.TheVariants as outcome
use Rattle.core_model.specs.declared.refusal.Refusal.TheVariants as refusal
use Rattle.core_model.specs.History.{beginning, History, Start}
use Rattle.core_model.specs.Flight.{flight_of}
use Rattle.core_model.specs.Queues.{Openings, next_id, openings, owner, without_queue}
use Rattle.core_model.specs.Owed.{Owed, owed, refuses, answers, enters, releases_of}
use Rattle.core_model.specs.Refusals.{for_some}
use Rattle.core_model.specs.Legal.{due, entry_of, history_after, reply_of}
use Rattle.core_model.proofs.More.{next_id-more, openings-more}
use Rattle.ring_core.specs.Machine.{Machine}
use Rattle.world.specs.Dues.{left_by}
use Rattle.world.specs.InStep.{IsJoinedBehind, Stands, StandsOpen, StoodClosed, WasInStep, is_open, sizes, takes}
use Rattle.world.specs.States.{Joined, among, closed_ring_of, leave_out, ring_of, with_core, with_one}
use Rattle.world.proofs.Entering.{due_answers, due_enters, sizes_behind, takes_behind, whole_entered}
use Rattle.world.proofs.Joining.{open_as, opened_as, stands_along}
use Rattle.world.proofs.Opened.{less_here, less_there}
use Rattle.world.proofs.Among.{apart_out, differs, more_found, more_others, out_found, out_others, same_queue}

-- what isn't refused is of a queue that is open
closing_owed : (start : Start) (es : List Entry) (queue : QueueId) (told : Outcome) (effects : List Effect) → owed start es (Call (Close queue)) ≡ enters told effects → is_some (owner start es queue) ≡ true
unfolding owed
closing_owed start es queue told effects is = by_owner (owner start es queue) is
  where
    by_owner : (o : Option Opening) → for_some o (refuses refusal.UnknownQueue) (λ opening. enters outcome.Accepted (releases_of queue (flight_of start es queue))) ≡ enters told effects → is_some o ≡ true
    by_owner None is = absurd (cc)
    by_owner (Some opening) is = refl

closing_answers : (start : Start) (es : List Entry) (queue : QueueId) (told : Outcome) → owed start es (Call (Close queue)) ≢ answers told
unfolding owed
closing_answers start es queue told is = by_owner (owner start es queue) is
  where
    by_owner : (o : Option Opening) → for_some o (refuses refusal.UnknownQueue) (λ opening. enters outcome.Accepted (releases_of queue (flight_of start es queue))) ≢ answers told
    by_owner None is = cc
    by_owner (Some opening) is = cc

-- a queue that is open has its ring
pub owned_stands : (core : History) (all : List Entry) (queue : QueueId) (o c : Option Machine) → is_open core queue ≡ true → Stands core all queue o c → (ring : Machine) × (o ≡ Some ring) × (c ≡ None) × StandsOpen core all queue ring
owned_stands core all queue (Some ring) None is h = (ring, refl, refl, h)
owned_stands core all queue None None is h = absurd (let never : true ≡ false = sym is ∙ h.unowned in cc)
owned_stands core all queue None (Some ring) is h = absurd (let never : true ≡ false = sym is ∙ h.unowned in cc)
owned_stands core all queue (Some ring) (Some other) is h = absurd h

-- a ring in step was in step
pub was_in_step : (core : History) (all now : List Entry) (queue : QueueId) (ring : Machine) → takes now queue ≡ takes all queue → StandsOpen core all queue ring → WasInStep now queue ring
was_in_step core all now queue ring same h =
    let long : length (takes now queue) ≡ next_id (beginning core) core.entries queue = ap length same ∙ h.in_step.count in
    record {
      floor = omega (arith, long, h.in_step.floor);
      ceiling = omega (arith, long, h.in_step.ceiling);
      cleared = λ raising. let below = h.in_step.cleared raising in omega (arith, long);
      whole = λ id lt.
          let there = h.in_step.whole id (omega (arith, long, lt)) in
          (there.0, ap (λ xs. slice_get xs id) same ∙ there.1);
    }

module _ (first : Declared) (prior : List Entry) (world : Joined) (h : IsJoinedBehind first prior world) (queue : QueueId) where
  abbrev Closing : Event
  Closing = Call (Close queue)

  abbrev After : Owed → Joined
  After owing = with_core (left_by world (Some queue) (reply_of owing)) (history_after world.core Closing owing)

  module _ (told : Outcome) (effects : List Effect) (owing : due world.core Closing ≡ enters told effects) where
    abbrev New : History
    New = history_after world.core Closing (enters told effects)

    abbrev TheEntry : Entry
    TheEntry = entry_of Closing told effects

    abbrev All : List Entry
    All = prior ++ world.core.entries

    abbrev NewAll : List Entry
    NewAll = prior ++ (world.core.entries ++ TheEntry ∷ [])

    abbrev Before : Openings
    Before = openings (beginning world.core) world.core.entries

    -- the queue was open, with its ring
    pub was : (ring : Machine) × (ring_of world queue ≡ Some ring) × (closed_ring_of world queue ≡ None) × StandsOpen world.core All queue ring
    was =
        owned_stands world.core All queue (ring_of world queue) (closed_ring_of world queue)
        (closing_owed (beginning world.core) world.core.entries queue told effects (due_enters world.core Closing told effects owing)) (h.each queue)

    all_openings : openings (beginning New) New.entries ≡ without_queue Before queue
    all_openings = openings-more (beginning world.core) world.core.entries TheEntry

    same_sizes : sizes NewAll ≡ sizes All
    same_sizes = sizes_behind prior world.core.entries TheEntry

    same_takes : (other : QueueId) → takes NewAll other ≡ takes All other
    same_takes other = takes_behind prior world.core.entries TheEntry other

    -- of the queue nothing is told from now on
    next_here : next_id (beginning New) New.entries queue ≡ 0
    next_here =
        next_id-more (beginning world.core) world.core.entries TheEntry queue
        ∙ ap (λ (b : Bool). if b then 0 else next_id (beginning world.core) world.core.entries queue) (eq-eqb queue.0 queue.0 refl)

    next_there : (other : QueueId) → other.0 ≢ queue.0 → next_id (beginning New) New.entries other ≡ next_id (beginning world.core) world.core.entries other
    next_there other apart =
        next_id-more (beginning world.core) world.core.entries TheEntry other
        ∙ ap (λ (b : Bool). if b then 0 else next_id (beginning world.core) world.core.entries other) (differs queue.0 other.0 (λ e. apart (sym e)))

    stood_here : StoodClosed New NewAll queue was.0
    stood_here = record {
      rule = was.3.rule;
      in_step = was_in_step world.core All NewAll queue was.0 (same_takes queue) was.3;
      size = ap (λ (ns : List ℕ). numbered ns queue.0) same_sizes ∙ was.3.size;
      opened = opened_as New queue (without_queue Before queue) all_openings ∙ was.3.opened;
      unowned = open_as New queue (without_queue Before queue) all_openings ∙ less_here Before.queues queue;
      next = next_here;
    }

    stands_there : (other : QueueId) → other.0 ≢ queue.0 → Stands New NewAll other (ring_of world other) (closed_ring_of world other)
    stands_there other apart = stands_along world.core New All NewAll other (ring_of world other) (closed_ring_of world other) (record {
      next = next_there other apart;
      takes = same_takes other;
      size = ap (λ (ns : List ℕ). numbered ns other.0) same_sizes;
      opened = opened_as New other (without_queue Before queue) all_openings;
      owned = open_as New other (without_queue Before queue) all_openings ∙ less_there Before.queues queue other apart;
    }) (h.each other)

    closed_after : IsJoinedBehind first prior (After (enters told effects))
    closed_after = record {
      start_is = h.start_is;
      whole = whole_entered world.core Closing told effects first prior h.start_is h.whole owing;
      apart = apart_out world.rings queue h.apart;
      count = ap length same_sizes ∙ h.count ∙ ap (λ (o : Openings). o.opened) (sym all_openings);
      each = at;
    }
      where
        -- what its ring was is told behind the others
        told_here : among (with_one world.closed queue (ring_of world queue)) queue ≡ Some was.0
        told_here = ap (λ o. among (with_one world.closed queue o) queue) was.1 ∙ more_found world.closed queue queue was.0 refl was.2

        told_there : (other : QueueId) → other.0 ≢ queue.0 → among (with_one world.closed queue (ring_of world queue)) other ≡ closed_ring_of world other
        told_there other away = ap (λ o. among (with_one world.closed queue o) other) was.1 ∙ more_others world.closed queue other was.0 (λ e. away (sym e))

        here : Stands New NewAll queue (among (leave_out world.rings queue) queue) (among (with_one world.closed queue (ring_of world queue)) queue)
        here =
            subst (λ (o : Option Machine). Stands New NewAll queue o (among (with_one world.closed queue (ring_of world queue)) queue)) (sym (out_found world.rings queue h.apart))
            (subst (λ (c : Option Machine). Stands New NewAll queue None c) (sym told_here) stood_here)

        at : (other : QueueId) → Stands New NewAll other (among (leave_out world.rings queue) other) (among (with_one world.closed queue (ring_of world queue)) other)
        at other =
            elim (eqb_tells other.0 queue.0) [
              | inl e ↦
                  subst (λ (q : QueueId). Stands New NewAll q (among (leave_out world.rings queue) q) (among (with_one world.closed queue (ring_of world queue)) q)) (sym (same_queue other queue e.1)) here
              | inr e ↦
                  subst (λ (o : Option Machine). Stands New NewAll other o (among (with_one world.closed queue (ring_of world queue)) other)) (sym (out_others world.rings queue other e.1))
                  (subst (λ (c : Option Machine). Stands New NewAll other (ring_of world other) c) (sym (told_there other e.1)) (stands_there other e.1))
            ]

  closed_by_owing : (owing : Owed) → due world.core Closing ≡ owing → IsJoinedBehind first prior (After owing)
  closed_by_owing (refuses why) is = h
  closed_by_owing (answers told) is = absurd (closing_answers (beginning world.core) world.core.entries queue told (due_answers world.core Closing told is))
  closed_by_owing (enters told effects) is = closed_after told effects is

  -- a queue that a call closes had a ring
  pub had_ring : (owing : Owed) → due world.core Closing ≡ owing → (told : Outcome) → Ok told ≡ reply_of owing → (ring : Machine) × (ring_of world queue ≡ Some ring)
  had_ring (refuses why) is told e = absurd (cc)
  had_ring (answers other) is told e = absurd (closing_answers (beginning world.core) world.core.entries queue other (due_answers world.core Closing other is))
  had_ring (enters other effects) is told e = let before = was other effects is in (before.0, before.1)

  pub closing_kept : IsJoinedBehind first prior (After (due world.core Closing))
  closing_kept = closed_by_owing (due world.core Closing) refl
