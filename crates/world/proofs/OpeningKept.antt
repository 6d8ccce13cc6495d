-- A queue that is opened gets a ring of its own, in which nothing happened.
use Rattle.std.proofs.Common.{◌≡◌, ◌≢◌, ℕ, ◌+◌, ◌≤◌, List, [], ◌∷◌, ◌++◌, length, refl, sym, ap, ◌∙◌, subst, Bool, true, false, Option, Some, None, Ok, inl, inr, arith, length-append}
use Rattle.std.specs.Prelude.{nat_le, if◌then◌else◌}
use Rattle.std.proofs.lemmas.Bool.Decides.{eqb_tells}
use Rattle.aql_packet.specs.declared.ids.AgentHandle.{AgentHandle}
use Rattle.aql_packet.specs.declared.ids.ClientId.{ClientId}
use Rattle.aql_packet.specs.declared.ids.QueueId.{QueueId}
use Rattle.policy.specs.declared.object.Object.TheVariants as object
use Rattle.policy.specs.declared.rights.Right.TheVariants as right
use Rattle.policy.specs.Rules.{knows_client}
use Rattle.policy.specs.Policy.{Declared, numbered, rules_of}
use Rattle.core_model.specs.declared.event.Event.{Event}
use Rattle.core_model.specs.declared.event.Event.TheVariants.{Open}
use Rattle.core_model.specs.declared.entry.Entry.{Entry}
use Rattle.core_model.specs.declared.entry.Effect.{Effect}
use Rattle.core_model.specs.declared.limits.TheConstants.{QUEUES}
use Rattle.core_model.specs.declared.outcome.Outcome.{Outcome}
use Rattle.core_model.specs.declared.outcome.Outcome.TheVariants as outcome
use Rattle.core_model.specs.declared.refusal.Refusal.{Refusal}
use Rattle.core_model.specs.History.{beginning, Start, History}
use Rattle.core_model.specs.Grants.{in_force}
use Rattle.core_model.specs.Queues.{OpenQueue, Openings, next_id, next_queue, openings, with_queue}
use Rattle.core_model.specs.Owed.{Owed, owed, refuses, answers, enters}
use Rattle.core_model.specs.Refusals.{refuse_unless}
use Rattle.core_model.specs.Legal.{due, entry_of, history_after, reply_of}
use Rattle.core_model.proofs.More.{next_id-more, openings-more}
use Rattle.ring_core.specs.Machine as machine
use Rattle.aql_packet.specs.Ring.{is_ring_size}
use Rattle.ring_core.specs.Machine.{Machine, is_producer_count, judged_size}
use Rattle.ring_core.proofs.Sizes.{producer_bounds}
use Rattle.ring_core.proofs.States.{ring_opens}
use Rattle.world.specs.States.{Joined, among, closed_ring_of, joined, ring_of, with_one}
use Rattle.world.specs.Dues.{rings_after}
use Rattle.world.specs.InStep as InStep
use Rattle.world.specs.InStep.{IsInStep, IsJoinedBehind, IsUntouched, Stands, StandsOpen, takes, was_opened}
use Rattle.core_model.proofs.Turns.{numbered-new}
use Rattle.world.proofs.Numbering.{numbered_old}
use Rattle.world.proofs.Opened.{among_new, among_old, more_here, more_there, not_among}
use Rattle.world.proofs.Among.{apart_more, more_found, more_others, same_queue}
use Rattle.world.proofs.Entering.{due_answers, due_enters, sizes_behind, takes_behind, whole_entered}
use Rattle.world.proofs.Joining.{open_as, opened_as, stands_along}

-- ---- what an opening is owed

through_unless : (b : Bool) (why : Refusal) (rest owing : Owed) → ((w : Refusal) → owing ≢ refuses w) → refuse_unless b (refuses why) rest ≡ owing → (b ≡ true) × (rest ≡ owing)
through_unless true why rest owing some is = (refl, is)
through_unless false why rest owing some is = absurd (some why (sym is))

through_if : (b : Bool) (why : Refusal) (rest owing : Owed) → ((w : Refusal) → owing ≢ refuses w) → (if b then refuses why else rest) ≡ owing → rest ≡ owing
through_if true why rest owing some is = absurd (some why (sym is))
through_if false why rest owing some is = is

-- what isn't refused is an entry, and the size is one that a ring may have
pub opening_owed : (start : Start) (es : List Entry) (client : ClientId) (agent : AgentHandle) (size : ℕ) (owing : Owed) → ((w : Refusal) → owing ≢ refuses w) → owed start es (Open client agent size) ≡ owing
    → (is_ring_size size ≡ true) × (enters (outcome.Opened (next_queue (openings start es).opened)) [] ≡ owing)
unfolding owed
opening_owed start es client agent size owing some is =
    let one = through_unless (knows_client (rules_of start.policy) client) _ _ owing some is in
    let two = through_unless (in_force start es client (object.Agent agent) right.Use) _ _ owing some one.1 in
    let three = through_unless (is_ring_size size) _ _ owing some two.1 in
    (three.0, through_if (nat_le QUEUES (length (openings start es).queues)) _ _ owing some three.1)

-- a size that was asked for and is a ring's comes with good producers
pub size_asked : (size producers : ℕ) → is_ring_size (judged_size size producers) ≡ true → (judged_size size producers ≡ size) × (is_producer_count producers ≡ true)
size_asked size producers fits = by_test (is_producer_count producers) refl fits
  where
    by_test : (b : Bool) → is_producer_count producers ≡ b → is_ring_size (if b then size else 0) ≡ true → ((if b then size else 0) ≡ size) × (is_producer_count producers ≡ true)
    by_test true is fits = (refl, is)
    by_test false is fits = absurd (cc)

-- ---- the ring of an opened queue

-- a queue that wasn't opened has no ring, and had none
pub unopened_stands : (core : History) (all : List Entry) (queue : QueueId) (o c : Option Machine) → was_opened core queue ≡ false → Stands core all queue o c → (o ≡ None) × (c ≡ None) × IsUntouched core all queue
unopened_stands core all queue None None un h = (refl, refl, h)
unopened_stands core all queue (Some ring) None un h = absurd (let was : true ≡ false = sym h.opened ∙ un in cc)
unopened_stands core all queue None (Some ring) un h = absurd (let was : true ≡ false = sym h.opened ∙ un in cc)
unopened_stands core all queue (Some ring) (Some other) un h = absurd h

opens_in_step : (core : History) (all : List Entry) (queue : QueueId) (size producers : ℕ) → next_id (beginning core) core.entries queue ≡ 0 → takes all queue ≡ [] → IsInStep core all queue (machine.opened size producers)
opens_in_step core all queue size producers next none = record {
  floor = omega (arith, next);
  ceiling = omega (arith, next);
  cleared = λ raising. absurd (cc);
  count = ap length none ∙ sym next;
  whole = λ id lt. absurd (omega (arith, next, lt));
}

module _ (first : Declared) (prior : List Entry) (world : Joined) (h : IsJoinedBehind first prior world) (client : ClientId) (agent : AgentHandle) (size producers : ℕ) where
  abbrev Opening : Event
  Opening = Open client agent (judged_size size producers)

  abbrev After : Owed → Joined
  After owing = joined (history_after world.core Opening owing) (rings_after world.rings size producers (reply_of owing)) world.closed

  -- the number of the queue that is opened
  abbrev Count : ℕ
  Count = (openings (beginning world.core) world.core.entries).opened

  abbrev Number : QueueId
  Number = next_queue Count

  module _ (told : Outcome) (effects : List Effect) (owing : due world.core Opening ≡ enters told effects) where
    abbrev New : History
    New = history_after world.core Opening (enters told effects)

    abbrev TheEntry : Entry
    TheEntry = entry_of Opening told effects

    abbrev All : List Entry
    All = prior ++ world.core.entries

    abbrev NewAll : List Entry
    NewAll = prior ++ (world.core.entries ++ TheEntry ∷ [])

    abbrev NewRing : Machine
    NewRing = machine.opened size producers

    abbrev Before : Openings
    Before = openings (beginning world.core) world.core.entries

    abbrev Queue : OpenQueue
    Queue = record { queue = Number; opening = record { client = client; agent = agent } }

    good : (is_ring_size (judged_size size producers) ≡ true) × (enters (outcome.Opened Number) [] ≡ enters told effects)
    good = opening_owed (beginning world.core) world.core.entries client agent (judged_size size producers) (enters told effects) (λ w e. cc) (due_enters world.core Opening told effects owing)

    asked : (judged_size size producers ≡ size) × (is_producer_count producers ≡ true)
    asked = size_asked size producers good.0

    fits : is_ring_size size ≡ true
    fits = ap is_ring_size (sym asked.0) ∙ good.0

    few : producers ≤ 16
    few = (producer_bounds producers asked.1).1

    all_openings : openings (beginning New) New.entries ≡ with_queue Before (record { client = client; agent = agent })
    all_openings = openings-more (beginning world.core) world.core.entries TheEntry

    all_sizes : InStep.sizes NewAll ≡ InStep.sizes All ++ judged_size size producers ∷ []
    all_sizes = sizes_behind prior world.core.entries TheEntry

    next_stays : (queue : QueueId) → next_id (beginning New) New.entries queue ≡ next_id (beginning world.core) world.core.entries queue
    next_stays queue = next_id-more (beginning world.core) world.core.entries TheEntry queue

    takes_stay : (queue : QueueId) → takes NewAll queue ≡ takes All queue
    takes_stay queue = takes_behind prior world.core.entries TheEntry queue

    new_here : (queue : QueueId) → queue.0 ≡ Count + 1 → Stands New NewAll queue (Some NewRing) (closed_ring_of world queue)
    new_here queue is =
        let un = unopened_stands world.core All queue (ring_of world queue) (closed_ring_of world queue) (not_among queue.0 Count is) (h.each queue) in
        let at : queue.0 ≡ length (InStep.sizes All) + 1 = omega (arith, is, h.count) in
        subst (Stands New NewAll queue (Some NewRing)) (sym un.1) (record {
          rule = ring_opens size producers fits few;
          in_step = opens_in_step New NewAll queue size producers (next_stays queue ∙ un.2.next) (takes_stay queue ∙ un.2.takes);
          size = (λ i. numbered (all_sizes i) (at i)) ∙ numbered-new (InStep.sizes All) (judged_size size producers) ∙ ap Some asked.0;
          opened = opened_as New queue (with_queue Before (record { client = client; agent = agent })) all_openings ∙ among_new queue.0 Count is;
          owned = open_as New queue (with_queue Before (record { client = client; agent = agent })) all_openings ∙ more_here Before.queues Queue queue (sym is);
        })

    old_there : (queue : QueueId) → queue.0 ≢ Count + 1 → Stands New NewAll queue (ring_of world queue) (closed_ring_of world queue)
    old_there queue apart =
        let away : queue.0 ≢ length (InStep.sizes All) + 1 = λ e. apart (omega (arith, e, h.count)) in
        stands_along world.core New All NewAll queue (ring_of world queue) (closed_ring_of world queue) (record {
          next = next_stays queue;
          takes = takes_stay queue;
          size = ap (λ (ns : List ℕ). numbered ns queue.0) all_sizes ∙ numbered_old (InStep.sizes All) (judged_size size producers) queue.0 away;
          opened = opened_as New queue (with_queue Before (record { client = client; agent = agent })) all_openings ∙ among_old queue.0 Count apart;
          owned = open_as New queue (with_queue Before (record { client = client; agent = agent })) all_openings ∙ more_there Before.queues Queue queue (λ e. apart (sym e));
        }) (h.each queue)

    -- it has none yet
    none_yet : ring_of world Number ≡ None
    none_yet = (unopened_stands world.core All Number (ring_of world Number) (closed_ring_of world Number) (not_among Number.0 Count refl) (h.each Number)).0

    made : IsJoinedBehind first prior (joined New (with_one world.rings Number (Some NewRing)) world.closed)
    made = record {
      start_is = h.start_is;
      whole = whole_entered world.core Opening told effects first prior h.start_is h.whole owing;
      apart = apart_more world.rings Number NewRing none_yet h.apart;
      count =
          let longer = ap length all_sizes in
          let one_more = length-append (InStep.sizes All) (judged_size size producers ∷ []) in
          let count = ap (λ (o : Openings). o.opened) all_openings in
          omega (arith, longer, one_more, count, h.count);
      each = at;
    }
      where
        at : (queue : QueueId) → Stands New NewAll queue (among (with_one world.rings Number (Some NewRing)) queue) (closed_ring_of world queue)
        at queue =
            elim (eqb_tells queue.0 (Count + 1)) [
              | inl e ↦ subst (λ (o : Option Machine). Stands New NewAll queue o (closed_ring_of world queue)) (sym (more_found world.rings Number queue NewRing (sym e.1) (ap (among world.rings) (same_queue queue Number e.1) ∙ none_yet))) (new_here queue e.1)
              | inr e ↦ subst (λ (o : Option Machine). Stands New NewAll queue o (closed_ring_of world queue)) (sym (more_others world.rings Number queue NewRing (λ same. e.1 (sym same)))) (old_there queue e.1)
            ]

    made_after : IsJoinedBehind first prior (After (enters told effects))
    made_after =
        let same : enters (outcome.Opened Number) [] ≡ enters told effects = good.1 in
        let told_is : outcome.Opened Number ≡ told = cc in
        subst (λ (t : Outcome). IsJoinedBehind first prior (joined New (rings_after world.rings size producers (Ok t)) world.closed)) told_is made

  opened_by : (owing : Owed) → due world.core Opening ≡ owing → IsJoinedBehind first prior (After owing)
  opened_by (refuses why) is = h
  opened_by (answers told) is =
      let owed_is = opening_owed (beginning world.core) world.core.entries client agent (judged_size size producers) (answers told) (λ w e. cc) (due_answers world.core Opening told is) in
      absurd (let never : enters (outcome.Opened Number) [] ≡ answers told = owed_is.1 in cc)
  opened_by (enters told effects) is = made_after told effects is

  -- the queue that is opened has no ring yet, and nothing was told of it
  pub fresh : (owing : Owed) → due world.core Opening ≡ owing → (queue : QueueId) → Ok (outcome.Opened queue) ≡ reply_of owing → (ring_of world queue ≡ None) × IsUntouched world.core (prior ++ world.core.entries) queue
  fresh (refuses why) is queue e = absurd (cc)
  fresh (answers told) is queue e =
      let owed_is = opening_owed (beginning world.core) world.core.entries client agent (judged_size size producers) (answers told) (λ w e. cc) (due_answers world.core Opening told is) in
      absurd (let never : enters (outcome.Opened Number) [] ≡ answers told = owed_is.1 in cc)
  fresh (enters told effects) is queue e =
      let same : enters (outcome.Opened Number) [] ≡ enters told effects = (good told effects is).1 in
      let number : Number ≡ queue = cc in
      let un = unopened_stands world.core (prior ++ world.core.entries) queue (ring_of world queue) (closed_ring_of world queue) (not_among queue.0 Count (ap (λ (q : QueueId). q.0) (sym number))) (h.each queue) in
      (un.0, un.2)

  pub opening_kept : IsJoinedBehind first prior (After (due world.core Opening))
  opening_kept = opened_by (due world.core Opening) refl
