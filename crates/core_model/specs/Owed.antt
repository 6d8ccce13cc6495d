-- What each event is owed: its refusal, or its outcome with the changes that it makes. It is a function of the history alone.
use Rattle.std.specs.Prelude.{ℕ, ℤ, pos, ◌+◌, ◌-◌, ◌==◌, ◌&&◌, Bool, nat_le, List, [], ◌∷◌, ◌++◌, length, Option, Some, None, if◌then◌else◌, map, find, option_map}
use Rattle.std.specs.List.{list_any}
use Rattle.std.specs.Option.{unwrap_or}
use Rattle.aql_packet.specs.declared.ids.QueueId.{QueueId}
use Rattle.aql_packet.specs.declared.ids.PacketId.{PacketId}
use Rattle.aql_packet.specs.declared.ids.SignalHandle.{SignalHandle}
use Rattle.aql_packet.specs.declared.packet.KernelDispatch.{KernelDispatch}
use Rattle.aql_packet.specs.declared.packet.Packet.{Packet}
use Rattle.aql_packet.specs.declared.packet.Packet.TheVariants as packet
use Rattle.aql_packet.specs.Reading.{barrier_bit}
use Rattle.aql_packet.specs.Ring.{is_ring_size}
use Rattle.executor.specs.declared.fault.ItemFault.{ItemFault}
use Rattle.executor.specs.Results.{GroupResult, broke_rule, group_result, wrote}
use Rattle.signals.specs.Values.{applied, value_of}
use Rattle.signals.specs.declared.operation.SignalOp.{SignalOp}
use Rattle.signals.specs.declared.operation.SignalOp.TheVariants as op
use Rattle.policy.specs.declared.object.Object.TheVariants as object
use Rattle.policy.specs.declared.rights.Right.TheVariants as right
use Rattle.policy.specs.Limits.{takes_nothing}
use Rattle.policy.specs.Rules.{knows_client, knows_object, are_allowed}
use Rattle.policy.specs.Policy.{region_lengths, row_of, rules_of}
use Rattle.queue_error.specs.declared.rule.Rule.{Rule}
use Rattle.queue_error.specs.declared.rule.Rule.TheVariants.{B1}
use Rattle.queue_error.specs.declared.error.QueueError.{QueueError}
use Rattle.core_model.specs.declared.event.Event.{Event}
use Rattle.core_model.specs.declared.event.Event.TheVariants.{Open, Take, Reload, Call}
use Rattle.core_model.specs.declared.call.Call.TheVariants.{Grant, Revoke, Stop, Close, RunNext, Poll, Finish, HostWrite, ChangeSignal}
use Rattle.core_model.specs.declared.entry.Effect.{Effect}
use Rattle.core_model.specs.declared.entry.Effect.TheVariants as effect
use Rattle.core_model.specs.declared.entry.Entry.{Entry}
use Rattle.core_model.specs.declared.flight.InFlight.{InFlight}
use Rattle.core_model.specs.declared.flight.Progress.{Progress}
use Rattle.core_model.specs.declared.outcome.WaitCause.{WaitCause}
use Rattle.core_model.specs.declared.outcome.Satisfied.{Satisfied}
use Rattle.core_model.specs.declared.outcome.Outcome.{Outcome}
use Rattle.core_model.specs.declared.outcome.Outcome.TheVariants as outcome
use Rattle.core_model.specs.declared.outcome.Taken.TheVariants.{Launched, Denied, Waiting}
use Rattle.core_model.specs.declared.outcome.Worked.TheVariants.{Ran, Faulted, Done}
use Rattle.core_model.specs.declared.outcome.Polled.TheVariants.{Pending, Ready, Failed}
use Rattle.core_model.specs.declared.refusal.Refusal.{Refusal}
use Rattle.core_model.specs.declared.refusal.Refusal.TheVariants as refusal
use Rattle.core_model.specs.Refusals.{for_some, refuse_unless}
use Rattle.core_model.specs.History.{Start}
use Rattle.core_model.specs.Grants.{in_force, in_force_on_range}
use Rattle.core_model.specs.Memory.{signals}
use Rattle.core_model.specs.Queues.{Opening, openings, owner, next_queue, next_id, is_stopped, is_down}
use Rattle.core_model.specs.Limits.{none_satisfied}
use Rattle.core_model.specs.Flight.{flight_of, in_flight, progress, satisfied_by_either}
use Rattle.core_model.specs.Limits.{most_host_bytes, most_queues}
use Rattle.core_model.specs.Needs.{completion_signal}
use Rattle.core_model.specs.LaunchRules.{Facts, first_failing_rule, cause_to_wait, is_barrier}
use Rattle.core_model.specs.Work.{agent_writes, group_count, write_of_run, is_ready, is_negative, newly_seen_positions, seen_dependencies}
use Rattle.core_model.specs.Holds.{blocked, holder}
use Rattle.core_model.specs.Policies.{policy_at}
use Rattle.core_model.specs.Kernels.{segments_of}
use Rattle.core_model.specs.View.{GivenAtLaunch, given_at_launch, group_input}

-- What an event is owed (own).
pub data Owed : Type 0 where
  -- a refusal, after which all is as before
  refuses : Refusal → Owed
  -- an outcome that changes nothing and leaves no entry
  answers : Outcome → Owed
  -- an outcome with an entry, and the changes that the entry tells
  enters : Outcome → List Effect → Owed

-- how many bytes a client may read or write in one call: at least 1 (own)
abbrev pub is_host_size : ℕ → Bool
is_host_size size = nat_le 1 size && nat_le size most_host_bytes

-- the facts by which a queue's packets are judged (own)
abbrev pub facts_of : Start → List Entry → Opening → Facts
facts_of start entries opening = record {
  agent = opening.agent;
  takes = unwrap_or (row_of start.policy.agents opening.agent.0) takes_nothing;
  in_force = in_force start entries opening.client;
  lengths = region_lengths start.policy;
  kernels = map segments_of start.kernels;
}

-- a packet's error without a place (own)
abbrev pub error_without_place : QueueId → ℕ → Rule → QueueError
error_without_place queue id rule = record { queue = queue; packet = record { 0 = id }; rule = rule; place = None }

-- a packet that is next: it waits, or is launched, or denied by the first rule that fails (own)
abbrev pub owed_verdict : QueueId → ℕ → Option WaitCause → Option Rule → Owed
owed_verdict queue id (Some cause) verdict = answers (outcome.Taken (Waiting cause))
owed_verdict queue id None None = enters (outcome.Taken Launched) []
owed_verdict queue id None (Some rule) = enters (outcome.Taken (Denied (error_without_place queue id rule))) []

-- a packet that is handed over to an open queue (PSA, User Mode Queuing: packets are processed in order; the refusals are own)
abbrev pub owed_take : Start → List Entry → QueueId → PacketId → List ℕ → Opening → Owed
owed_take start entries queue id bytes opening =
    if is_down start entries queue then refuses refusal.QueueDown
    else refuse_unless (id.0 == next_id start entries queue) (refuses (refusal.OutOfStep (next_id start entries queue)))
    (owed_verdict queue id.0 (cause_to_wait (map (λ f. f.packet) (flight_of start entries queue)) (barrier_bit bytes)) (first_failing_rule (facts_of start entries opening) bytes))

-- what a call about a packet in flight is owed: a refusal where there is no such queue or packet, else what is owed by the packet
-- and by how far it has come (own)
abbrev pub for_packet : Start → List Entry → QueueId → PacketId → (Packet → Progress → Owed) → Owed
for_packet start entries queue id rest =
    for_some (owner start entries queue) (refuses refusal.UnknownQueue) (λ opening.
    for_some (in_flight start entries queue id) (refuses refusal.NotInFlight) (λ f. rest f.packet (progress start entries queue id)))

-- the error of a packet whose group broke a rule: it names the group, the item, the line and the address (own)
abbrev pub group_error : QueueId → PacketId → ℕ → ItemFault → QueueError
group_error queue id group f =
    record { queue = queue; packet = id; rule = f.rule; place = Some (record { group = group; item = f.item; line = f.line; address = f.address }) }

-- a group that breaks a rule leaves nothing, and its packet is released (own)
abbrev pub fault_owed : QueueError → Owed
fault_owed error = enters (outcome.Worked (Faulted error)) (effect.Release error.queue error.packet ∷ [])

-- what a group of a kernel dispatch comes to: it leaves its writes, or it faults (own)
abbrev pub group_owed : QueueId → PacketId → KernelDispatch → ℕ → GroupResult → Owed
group_owed queue id d group (wrote runs) =
    enters (outcome.Worked (Ran group (group_count (packet.Kernel d) - (group + 1)))) (map write_of_run runs)
group_owed queue id d group (broke_rule f) = fault_owed (group_error queue id group f)

-- the next group of a packet in flight, in order, by what the packet was given at its launch: a kernel's work-groups are run one at a
-- time; an agent dispatch has one group, number 0, and never faults
abbrev pub owed_group : Start → List Entry → QueueId → PacketId → GivenAtLaunch → Packet → Progress → Owed
owed_group start entries queue id own (packet.Agent dispatch) so_far =
    if nat_le 1 so_far.groups_run then answers (outcome.Worked Done)
    else enters (outcome.Worked (Ran 0 0)) (agent_writes start entries dispatch)
owed_group start entries queue id own (packet.Kernel d) so_far =
    if nat_le (group_count (packet.Kernel d)) so_far.groups_run then answers (outcome.Worked Done)
    else group_owed queue id d so_far.groups_run (group_result (group_input start entries own d so_far.groups_run))
owed_group start entries queue id own (packet.BarrierAnd _) so_far = refuses refusal.NotInFlight
owed_group start entries queue id own (packet.BarrierOr _) so_far = refuses refusal.NotInFlight

-- the outcome of a poll that sees something new, or nothing new (own)
abbrev pub owed_sight : Packet → Satisfied → Satisfied → Owed
owed_sight p seen new =
    if list_any (λ at. at) new.0
    then enters (outcome.Polled (if is_ready p (satisfied_by_either seen new) then Ready new else Pending new)) []
    else answers (outcome.Polled (Pending none_satisfied))

-- a poll of a barrier packet in flight: ready packets stay ready; then a negative dependency fails it, before what is newly seen
-- (PSA, Architected Queuing Language: barrier packets; that a negative dependency fails the packet is own)
abbrev pub owed_poll : List ℤ → QueueId → PacketId → Packet → Progress → Owed
owed_poll values queue id p so_far =
    refuse_unless (is_barrier p) (refuses refusal.NotInFlight)
    (if is_ready p so_far.satisfied then answers (outcome.Polled (Ready none_satisfied))
    else if list_any (is_negative values) (seen_dependencies p so_far.satisfied)
    then enters (outcome.Polled (Failed (error_without_place queue id.0 B1))) (effect.Release queue id ∷ [])
    else owed_sight p so_far.satisfied (newly_seen_positions values p so_far.satisfied))

-- whether a packet's work is done: all its groups have run, or the barrier is ready (PSA, Architected Queuing Language: the packet process flow)
abbrev pub is_finished : Packet → Progress → Bool
is_finished p so_far = if is_barrier p then is_ready p so_far.satisfied else nat_le (group_count p) so_far.groups_run

-- the decrement of a completion signal that isn't null (PSA, Signals: the packet processor decrements it by 1)
abbrev pub signal_decrement : List ℤ → SignalHandle → List Effect
signal_decrement values signal = if signal.0 == 0 then [] else elim (value_of values signal.0) [ None ↦ [] | Some v ↦ effect.Signal signal v (applied (op.Subtract (pos 1)) v) ∷ [] ]

-- the changes of a completion: the decrement of its signal, if it has one, and its release (PSA, Signals)
abbrev pub completion_of : List ℤ → QueueId → PacketId → Packet → List Effect
completion_of values queue id p = signal_decrement values (completion_signal p) ++ effect.Release queue id ∷ []

-- the completion of a packet in flight (PSA, Signals: the completion signal is decremented; the refusal is own)
abbrev pub owed_finish : List ℤ → QueueId → PacketId → Packet → Progress → Owed
owed_finish values queue id p so_far =
    refuse_unless (is_finished p so_far) (refuses refusal.NotFinished)
    (enters outcome.Accepted (completion_of values queue id p))

-- the release of a packet, if there is one (own)
abbrev pub release_of : QueueId → Option PacketId → List Effect
release_of queue None = []
release_of queue (Some id) = effect.Release queue id ∷ []

-- the barrier packet among packets of a queue in flight, if there is one (PSA, Architected Queuing Language: barrier packets)
abbrev pub barrier_in : List InFlight → Option PacketId
barrier_in flying = option_map (λ f. f.id) (find (λ f. is_barrier f.packet) flying)

-- the releases of some packets of a queue, in order (own)
abbrev pub releases_of : QueueId → List InFlight → List Effect
releases_of queue flying = map (λ f. effect.Release queue f.id) flying

-- what a change of a signal answers: the old value for an exchange or a compare-and-swap, else 0 (own)
abbrev pub old_if_asked : SignalOp → ℤ → ℤ
old_if_asked (op.Exchange _) old = old
old_if_asked (op.Cas _ _) old = old
old_if_asked _ old = pos 0

-- what an event is owed after these entries, whatever room the audit has: its refusals in order, then its outcome (own)
unfoldable pub owed : Start → List Entry → Event → Owed
owed start entries (Call (Grant client on rights)) =
    refuse_unless (knows_client (rules_of start.policy) client) (refuses refusal.UnknownClient)
    (refuse_unless (knows_object (rules_of start.policy) on) (refuses refusal.UnknownObject)
    (refuse_unless (are_allowed (rules_of (policy_at start entries)) client on rights) (refuses refusal.NotAllowed)
    (enters outcome.Accepted [])))
owed start entries (Call (Revoke client on rights)) =
    refuse_unless (knows_client (rules_of start.policy) client) (refuses refusal.UnknownClient)
    (refuse_unless (knows_object (rules_of start.policy) on) (refuses refusal.UnknownObject)
    (elim (holder start entries client on rights) [ None ↦ enters outcome.Accepted [] | Some f ↦ refuses (refusal.Busy f.queue f.id) ]))
owed start entries (Open client agent size) =
    refuse_unless (knows_client (rules_of start.policy) client) (refuses refusal.UnknownClient)
    (refuse_unless (in_force start entries client (object.Agent agent) right.Use) (refuses (refusal.Denied right.Use))
    (refuse_unless (is_ring_size size) (refuses refusal.BadSize)
    (if nat_le most_queues (length (openings start entries).queues) then refuses refusal.TooMany
    else enters (outcome.Opened (next_queue (openings start entries).opened)) [])))
owed start entries (Call (Stop queue)) =
    for_some (owner start entries queue) (refuses refusal.UnknownQueue) (λ opening.
    if is_stopped start entries queue then refuses refusal.QueueDown
    else enters outcome.Accepted (release_of queue (barrier_in (flight_of start entries queue))))
owed start entries (Call (Close queue)) =
    for_some (owner start entries queue) (refuses refusal.UnknownQueue) (λ opening. enters outcome.Accepted (releases_of queue (flight_of start entries queue)))
owed start entries (Take queue id bytes) =
    for_some (owner start entries queue) (refuses refusal.UnknownQueue) (owed_take start entries queue id bytes)
owed start entries (Call (RunNext queue id)) = for_packet start entries queue id (owed_group start entries queue id (given_at_launch start entries queue id))
owed start entries (Call (Poll queue id)) = for_packet start entries queue id (owed_poll (signals start entries) queue id)
owed start entries (Call (Finish queue id)) = for_packet start entries queue id (owed_finish (signals start entries) queue id)
owed start entries (Call (HostWrite client address bytes)) =
    refuse_unless (knows_client (rules_of start.policy) client) (refuses refusal.UnknownClient)
    (refuse_unless (is_host_size (length bytes)) (refuses refusal.BadSize)
    (refuse_unless (in_force_on_range start entries client right.Write address.0 (length bytes)) (refuses (refusal.Denied right.Write))
    (enters outcome.Accepted (effect.Write address bytes ∷ []))))
owed start entries (Call (ChangeSignal client signal operation)) =
    refuse_unless (knows_client (rules_of start.policy) client) (refuses refusal.UnknownClient)
    (refuse_unless (in_force start entries client (object.Signal signal) right.Change) (refuses (refusal.Denied right.Change))
    (for_some (value_of (signals start entries) signal.0) (refuses (refusal.Denied right.Change)) (λ old.
    enters (outcome.Changed (old_if_asked operation old)) (effect.Signal signal old (applied operation old) ∷ []))))
owed start entries (Reload rows) = elim (blocked start entries rows) [ None ↦ enters outcome.Accepted [] | Some f ↦ refuses (refusal.Busy f.queue f.id) ]
