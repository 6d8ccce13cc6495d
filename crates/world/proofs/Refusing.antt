-- What is refused changes nothing.
use Rattle.std.proofs.Common.{◌≡◌, ℕ, List, Option, Some, None, Result, Ok, Err, inl, inr, refl, ap, ◌∙◌}
use Rattle.aql_packet.specs.declared.ids.QueueId.{QueueId}
use Rattle.core_model.specs.declared.event.Event.{Event}
use Rattle.core_model.specs.declared.event.Event.TheVariants.{Open, Reload}
use Rattle.core_model.specs.declared.outcome.Outcome.TheVariants as outcome
use Rattle.core_model.specs.Owed.{Owed, refuses, answers, enters}
use Rattle.core_model.specs.Legal.{due}
use Rattle.ring_core.specs.declared.access.Step.{Step}
use Rattle.ring_core.specs.Machine.{Machine, read_index, judged_size}
use Rattle.ring_core.specs.Parts.{collected_packet}
use Rattle.ring_core.specs.Rule.{processor_of}
use Rattle.world.specs.declared.request.Request.{Request}
use Rattle.world.specs.declared.request.Request.TheVariants as request
use Rattle.world.specs.declared.reply.Refusal.{Refusal}
use Rattle.core_model.specs.History.{Part as Handed}
use Rattle.core_model.specs.Rotation.{Rotates}
use Rattle.core_model.specs.declared.refusal.Refusal as cores
use Rattle.world.proofs.Kept.{unrotated}
use Rattle.world.specs.States.{Joined, joined, ring_of, with_core}
use Rattle.core_model.specs.declared.event.Event.TheVariants as event
use Rattle.core_model.specs.declared.call.Call.{Call}
use Rattle.world.specs.Dues.{Due, IsServed, Meets, closed_by, due_call, due_collected, due_event, due_opening, due_query, due_step, due_take, due_taken, due_where, hindrance, is_decided, left_by, rotated_reply}

-- a reply that is a refusal leaves the world
abbrev Refuses : Joined → Due → Type 0
Refuses old owed = (why : Refusal) → Err why ≡ owed.reply → owed.after ≡ old

where_refused : (old : Joined) (queue : QueueId) (ring : Machine) (step : Step) (o : Option Refusal) → Refuses old (due_where old queue ring step o)
where_refused old queue ring step (Some why) other is = refl
where_refused old queue ring step None other is = absurd (cc)

step_refused : (old : Joined) (queue : QueueId) (step : Step) (o : Option Machine) → Refuses old (due_step old queue step o)
step_refused old queue step None why is = refl
step_refused old queue step (Some ring) why is = where_refused old queue ring step (hindrance (is_decided old.core queue ring) ring step) why is

event_refused : (old : Joined) (event : Event) (owing : Owed) → Refuses old (due_event old event owing)
event_refused old event (refuses _) why is = refl
event_refused old event (answers told) why is = refl
event_refused old event (enters told effects) why is = absurd (cc)

-- a queue that wasn't closed keeps its ring
left_refused : (old : Joined) (o : Option QueueId) (why : cores.Refusal) → left_by old o (Err why) ≡ old
left_refused old None why = refl
left_refused old (Some queue) why = refl

call_refused : (old : Joined) (call : Call) (owing : Owed) → Refuses old (due_call old call owing)
call_refused old call (refuses cause) why is = ap (λ (world : Joined). with_core world old.core) (left_refused old (closed_by call) cause)
call_refused old call (answers told) why is = absurd (cc)
call_refused old call (enters told effects) why is = absurd (cc)

opening_refused : (old : Joined) (size producers : ℕ) (event : Event) (owing : Owed) → Refuses old (due_opening old size producers event owing)
opening_refused old size producers event (refuses _) why is = refl
opening_refused old size producers event (answers told) why is = absurd (cc)
opening_refused old size producers event (enters told effects) why is = absurd (cc)

taken_refused : (old : Joined) (id : ℕ) (event : Event) (owing : Owed) → Refuses old (due_taken old id event owing)
taken_refused old id event (refuses _) why is = refl
taken_refused old id event (answers told) why is = refl
taken_refused old id event (enters (outcome.Taken taken) effects) why is = absurd (cc)
taken_refused old id event (enters _ effects) why is = absurd (cc)

collected_refused : (old : Joined) (queue : QueueId) (id : ℕ) (o : Option (List ℕ)) → Refuses old (due_collected old queue id o)
collected_refused old queue id None why is = refl
collected_refused old queue id (Some words) why is = taken_refused old id _ _ why is

take_refused : (old : Joined) (queue : QueueId) (o : Option Machine) → Refuses old (due_take old queue o)
take_refused old queue None why is = refl
take_refused old queue (Some ring) why is = collected_refused old queue (read_index ring) (collected_packet (processor_of ring.parts)) why is

-- what meets what it is owed leaves the world where its reply is a refusal
meets_refused : (old new : Joined) (owed : Due) (why : Refusal) → Refuses old owed → Meets old owed (Err why) new → new ≡ old
meets_refused old new owed why stays (inl served) = served.1 ∙ stays why served.0
meets_refused old new owed why stays (inr lacked) = lacked.2

rotation_refused : (old new : Joined) (why : Refusal) (made : Result Handed cores.Refusal) → Err why ≡ rotated_reply made → Rotates old.core made new.core → new.rings ≡ old.rings → new.closed ≡ old.closed → new ≡ old
rotation_refused old new why (Ok part) told is rings closed = absurd (cc)
rotation_refused old new why (Err wanted) told is rings closed = λ i. joined (unrotated old.core new.core wanted is i) (rings i) (closed i)

pub refused_stays : (old new : Joined) (asked : Request) (why : Refusal) → IsServed old asked (Err why) new → new ≡ old
refused_stays old new (request.Step queue step) why is = meets_refused old new (due_step old queue step (ring_of old queue)) why (step_refused old queue step (ring_of old queue)) is
refused_stays old new (request.Take queue) why is = meets_refused old new (due_take old queue (ring_of old queue)) why (take_refused old queue (ring_of old queue)) is
refused_stays old new (request.OpenQueue client agent size producers) why is =
    let event : Event = Open client agent (judged_size size producers) in
    meets_refused old new (due_opening old size producers event (due old.core event)) why (opening_refused old size producers event (due old.core event)) is
refused_stays old new (request.Call call) why is =
    meets_refused old new (due_call old call (due old.core (event.Call call))) why (call_refused old call (due old.core (event.Call call))) is
refused_stays old new (request.Query query) why is = meets_refused old new (due_query old query) why (λ refusal told. refl) is
refused_stays old new (request.Reload policy) why (inl is) =
    meets_refused old new (due_event old (Reload policy.rows) (due old.core (Reload policy.rows))) why (event_refused old (Reload policy.rows) (due old.core (Reload policy.rows))) is.1
refused_stays old new (request.Reload policy) why (inr others) = others.2
refused_stays old new request.Rotate why is = rotation_refused old new why is.0 is.1 is.2 is.3 is.4
