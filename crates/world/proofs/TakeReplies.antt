-- A take that isn't refused tells what became of the packet.
use Rattle.std.proofs.Common.{◌≡◌, ℕ, Bool, true, false, List, Option, Some, None, Ok, Err, refl, sym, subst, inl, inr}
use Rattle.std.specs.Prelude.{map, ◌==◌, ⊤, if◌then◌else◌}
use Rattle.aql_packet.specs.declared.ids.PacketId.{PacketId}
use Rattle.aql_packet.specs.declared.ids.QueueId.{QueueId}
use Rattle.aql_packet.specs.Reading.{barrier_bit}
use Rattle.queue_error.specs.declared.rule.Rule.{Rule}
use Rattle.core_model.specs.declared.entry.Entry.{Entry}
use Rattle.core_model.specs.declared.event.Event.{Event}
use Rattle.core_model.specs.declared.event.Event.TheVariants.{Take}
use Rattle.core_model.specs.declared.origin.Opening.{Opening}
use Rattle.core_model.specs.declared.outcome.Outcome.TheVariants as outcome
use Rattle.core_model.specs.declared.outcome.Taken.{Taken}
use Rattle.core_model.specs.declared.outcome.Taken.TheVariants as taken
use Rattle.core_model.specs.declared.outcome.WaitCause.{WaitCause}
use Rattle.core_model.specs.declared.refusal.Refusal as cores
use Rattle.core_model.specs.declared.refusal.Refusal.TheVariants as why
use Rattle.core_model.specs.Flight.{flight_of}
use Rattle.core_model.specs.History.{History, Start, beginning}
use Rattle.core_model.specs.LaunchRules.{cause_to_wait, first_failing_rule}
use Rattle.core_model.specs.Legal.{due, entry_of, lacks_room, reply_of, within_room}
use Rattle.core_model.specs.Owed.{Owed, answers, enters, error_without_place, facts_of, owed, owed_take, owed_verdict, refuses}
use Rattle.core_model.specs.Queues.{is_down, next_id, owner}
use Rattle.core_model.specs.Refusals.{for_some, refuse_unless}
use Rattle.ring_core.specs.Machine.{Machine, read_index}
use Rattle.ring_core.specs.Parts.{collected_packet}
use Rattle.ring_core.specs.Rule.{processor_of}
use Rattle.world.specs.declared.lane.Served.{Served}
use Rattle.world.specs.declared.reply.Answer.{Answer}
use Rattle.world.specs.declared.request.Request.TheVariants as request
use Rattle.world.specs.Actions.{asks}
use Rattle.world.specs.Dues.{Due, Meets, Reply, due_collected, due_take, taken_reply, taking}
use Rattle.world.specs.Lanes.{TellsServed, answer_of, hands_over}
use Rattle.world.specs.States.{Joined, ring_of}

-- ---- what is owed

-- a refusal, or what became of a packet
abbrev TellsTaken : Owed → Type 0
TellsTaken (refuses cause) = ⊤
TellsTaken (answers told) = (became : Taken) × (told ≡ outcome.Taken became)
TellsTaken (enters told effects) = (became : Taken) × (told ≡ outcome.Taken became)

verdict_tells : (queue : QueueId) (id : ℕ) (cause : Option WaitCause) (verdict : Option Rule) → TellsTaken (owed_verdict queue id cause verdict)
verdict_tells queue id (Some cause) verdict = (taken.Waiting cause, refl)
verdict_tells queue id None None = (taken.Launched, refl)
verdict_tells queue id None (Some rule) = (taken.Denied (error_without_place queue id rule), refl)

unless_tells : (test : Bool) (cause : cores.Refusal) (rest : Owed) → TellsTaken rest → TellsTaken (if test then refuses cause else rest)
unless_tells true cause rest h = tt
unless_tells false cause rest h = h

where_tells : (test : Bool) (cause : cores.Refusal) (rest : Owed) → TellsTaken rest → TellsTaken (refuse_unless test (refuses cause) rest)
where_tells true cause rest h = h
where_tells false cause rest h = tt

take_tells : (start : Start) (entries : List Entry) (queue : QueueId) (id : PacketId) (bytes : List ℕ) (opening : Opening) →
    TellsTaken (owed_take start entries queue id bytes opening)
take_tells start entries queue id bytes opening =
    unless_tells (is_down start entries queue) why.QueueDown _
    (where_tells (id.0 == next_id start entries queue) (why.OutOfStep (next_id start entries queue)) _
    (verdict_tells queue id.0 (cause_to_wait (map (λ f. f.packet) (flight_of start entries queue)) (barrier_bit bytes)) (first_failing_rule (facts_of start entries opening) bytes)))

owned_tells : (start : Start) (entries : List Entry) (queue : QueueId) (id : PacketId) (bytes : List ℕ) (o : Option Opening) →
    TellsTaken (for_some o (refuses why.UnknownQueue) (owed_take start entries queue id bytes))
owned_tells start entries queue id bytes None = tt
owned_tells start entries queue id bytes (Some opening) = take_tells start entries queue id bytes opening

owed_tells : (start : Start) (entries : List Entry) (queue : QueueId) (id : PacketId) (bytes : List ℕ) → TellsTaken (owed start entries (Take queue id bytes))
unfolding owed
owed_tells start entries queue id bytes = owned_tells start entries queue id bytes (owner start entries queue)

room_tells : (history : History) (event : Event) (owing : Owed) → TellsTaken owing → TellsTaken (within_room history event owing)
room_tells history event (refuses cause) h = tt
room_tells history event (answers told) h = h
room_tells history event (enters told effects) h = unless_tells (lacks_room history (entry_of event told effects)) why.AuditFull (enters told effects) h

-- ---- the reply

-- a refusal, or what became of a packet
abbrev pub AnswersTaken : Reply → Type 0
AnswersTaken (Ok told) = TellsServed told
AnswersTaken (Err cause) = ⊤

reply_taken : (id : ℕ) (owing : Owed) → TellsTaken owing → AnswersTaken (taken_reply id (reply_of owing))
reply_taken id (refuses cause) h = tt
reply_taken id (answers told) (became, is) = subst (λ o. AnswersTaken (taken_reply id (Ok o))) (sym is) (record { packet = record { 0 = id }; taken = became }, refl)
reply_taken id (enters told effects) (became, is) = subst (λ o. AnswersTaken (taken_reply id (Ok o))) (sym is) (record { packet = record { 0 = id }; taken = became }, refl)

collected_taken : (world : Joined) (queue : QueueId) (id : ℕ) (packet : Option (List ℕ)) → AnswersTaken (due_collected world queue id packet).reply
collected_taken world queue id None = tt
collected_taken world queue id (Some words) =
    let event = taking queue id words in
    reply_taken id (due world.core event)
    (room_tells world.core event (owed (beginning world.core) world.core.entries event) (owed_tells (beginning world.core) world.core.entries queue _ _))

take_taken : (world : Joined) (queue : QueueId) (o : Option Machine) → AnswersTaken (due_take world queue o).reply
take_taken world queue None = tt
take_taken world queue (Some ring) = collected_taken world queue (read_index ring) (collected_packet (processor_of ring.parts))

met_taken : (old new : Joined) (owing : Due) (reply : Reply) → AnswersTaken owing.reply → Meets old owing reply new → AnswersTaken reply
met_taken old new owing reply h (inl (is, after)) = subst AnswersTaken (sym is) h
met_taken old new owing reply h (inr (may, is, after)) = subst AnswersTaken (sym is) tt

pub take_answers : (queue : QueueId) (old : Joined) (reply : Reply) (new : Joined) → asks (request.Take queue) old reply new → AnswersTaken reply
unfolding asks
take_answers queue old reply new served = met_taken old new (due_take old queue (ring_of old queue)) reply (take_taken old queue (ring_of old queue)) served

-- what became of the packet is what the take told
pub took : (queue : QueueId) (old new : Joined) (told : Answer) (served : Served) → told ≡ answer_of served → asks (request.Take queue) old (Ok told) new →
    hands_over queue old (Ok served) new
took queue old new told served is asked = subst (λ (a : Answer). asks (request.Take queue) old (Ok a) new) is asked
