-- What a legal history shows: for each thing that it tells, who asked for it and which grant in force allowed it.
use Rattle.std.specs.Prelude.{ℕ, ℤ, pos, ◌+◌, ◌==◌, ◌&&◌, ◌≡◌, ◌<◌, ◌⊎◌, true, false, List, [], ◌∷◌, ◌++◌, length, map, filter, Option, Some, None, All}
use Rattle.std.specs.List.{Contains, list_any}
use Rattle.aql_packet.specs.declared.ids.AgentHandle.{AgentHandle}
use Rattle.aql_packet.specs.declared.ids.ClientId.{ClientId}
use Rattle.aql_packet.specs.declared.ids.QueueId.{QueueId}
use Rattle.aql_packet.specs.declared.ids.PacketId.{PacketId}
use Rattle.aql_packet.specs.declared.ids.KernelObject.{KernelObject}
use Rattle.aql_packet.specs.declared.ids.SignalHandle.{SignalHandle}
use Rattle.aql_packet.specs.declared.packet.Packet.{Packet}
use Rattle.aql_packet.specs.declared.packet.Packet.TheVariants.{Agent, Kernel}
use Rattle.aql_packet.specs.Layout.{PacketOf}
use Rattle.aql_packet.specs.Reading.{barrier_bit, decoded, packet_at, packet_type}
use Rattle.regions.specs.Memory.{is_within, region_of}
use Rattle.signals.specs.declared.operation.SignalOp.{SignalOp}
use Rattle.signals.specs.declared.operation.SignalOp.TheVariants.{Subtract}
use Rattle.signals.specs.Values.{applied, value_of}
use Rattle.policy.specs.declared.object.Object.{Object}
use Rattle.policy.specs.declared.object.Object.TheVariants as object
use Rattle.policy.specs.declared.rights.Right.{Right}
use Rattle.policy.specs.declared.rights.Right.TheVariants as right
use Rattle.policy.specs.declared.rights.Rights.{Rights}
use Rattle.policy.specs.Rights.{has}
use Rattle.queue_error.specs.declared.rule.Rule.{Rule}
use Rattle.queue_error.specs.declared.rule.Rule.TheVariants.{B1}
use Rattle.queue_error.specs.declared.error.QueueError.{QueueError}
use Rattle.core_model.specs.declared.event.Event.{Event}
use Rattle.core_model.specs.declared.event.Event.TheVariants.{Take, Call}
use Rattle.core_model.specs.declared.call.Call.TheVariants.{RunNext, Poll, Finish, Stop, Close, HostWrite, ChangeSignal}
use Rattle.core_model.specs.declared.outcome.Outcome.TheVariants as outcome
use Rattle.core_model.specs.declared.outcome.Taken.TheVariants.{Launched}
use Rattle.core_model.specs.declared.outcome.Worked.TheVariants.{Faulted}
use Rattle.core_model.specs.declared.outcome.Polled.{Polled}
use Rattle.core_model.specs.declared.outcome.Polled.TheVariants.{Pending, Ready, Failed}
use Rattle.core_model.specs.declared.outcome.Satisfied.{Satisfied}
use Rattle.core_model.specs.declared.outcome.Outcome.{Outcome}
use Rattle.core_model.specs.declared.entry.Effect.{Effect}
use Rattle.core_model.specs.declared.entry.Effect.TheVariants as effect
use Rattle.core_model.specs.declared.entry.Entry.{Entry}
use Rattle.core_model.specs.declared.flight.InFlight.{InFlight}
use Rattle.core_model.specs.declared.need.AgentFunction.{AgentFunction}
use Rattle.core_model.specs.declared.need.AgentFunction.TheVariants.{Fill, Copy, Add64}
use Rattle.core_model.specs.declared.need.Range.{Range}
use Rattle.core_model.specs.History.{beginning, HeldRights, Start, History}
use Rattle.core_model.specs.Grants.{in_force}
use Rattle.policy.specs.Policy.{region_lengths}
use Rattle.core_model.specs.Memory.{signals}
use Rattle.core_model.specs.Queues.{Opening, closes_queue, openings, owner, is_down, next_id}
use Rattle.core_model.specs.Flight.{flight, flight_of, in_flight, progress, satisfied_by_either}
use Rattle.core_model.specs.Kernels.{kernel_of}
use Rattle.core_model.specs.Needs.{range_at, function_of, result_range, dependencies, completion_signal}
use Rattle.core_model.specs.LaunchRules.{holds_rule, launch_rules, cause_to_wait, is_barrier}
use Rattle.core_model.specs.Work.{seen_dependencies, group_count, is_negative, is_ready, newly_seen_positions}
use Rattle.core_model.specs.Holds.{arguments, arguments_of, held, is_among, rights_at_launch}
use Rattle.core_model.specs.View.{RegionRights, first_address, held_regions}
use Rattle.core_model.specs.Owed.{completion_of, error_without_place, facts_of, is_finished}
use Rattle.core_model.specs.Legal.{IsLegal, entry_of}
use Rattle.core_model.specs.Queries.{has_some_right}

-- an entry of a history, right behind these others (own)
pub record IsEntryBehind (entries before : List Entry) (entry : Entry) : Type 0 where
  pub after : List Entry
  pub whole : entries ≡ before ++ entry ∷ after

-- ---- the rights that a packet works with

-- all of some rights are in force for a client (own)
abbrev pub AllInForce : Start → List Entry → ClientId → HeldRights → Type 0
AllInForce start entries client rights = (on : Object) (right : Right) → rights on right ≡ true → in_force start entries client on right ≡ true

-- a client may reach a range: it lies whole in one region, on which this right is in force (own)
pub record MayReach (start : Start) (entries : List Entry) (client : ClientId) (right : Right) (address size : ℕ) : Type 0 where
  pub lies_whole : is_within (region_lengths start.policy) address size ≡ true
  pub granted : in_force start entries client (object.Region (record { 0 = region_of address })) right ≡ true

-- a range is empty, or a client may reach it (own)
abbrev pub MayReachRange : Start → List Entry → ClientId → Right → Range → Type 0
MayReachRange start entries client right range = (range.size ≡ 0) ⊎ MayReach start entries client right range.address.0 range.size

-- a signal is null, or a client has this right on it in force (own)
abbrev pub MayUseSignal : Start → List Entry → ClientId → Right → SignalHandle → Type 0
MayUseSignal start entries client right signal = (signal.0 ≡ 0) ⊎ (in_force start entries client (object.Signal signal) right ≡ true)

-- the ranges that a function reads: COPY's source, and ADD64's number (own)
abbrev pub ranges_read : Option AgentFunction → List Range
ranges_read (Some (Copy source target)) = source ∷ []
ranges_read (Some (Add64 number addend)) = number ∷ []
ranges_read _ = []

-- the ranges that a function writes (own)
abbrev pub ranges_written : Option AgentFunction → List Range
ranges_written None = []
ranges_written (Some (Fill target byte)) = target ∷ []
ranges_written (Some (Copy source target)) = target ∷ []
ranges_written (Some (Add64 number addend)) = number ∷ []

-- the kernels that a packet launches: a kernel dispatch its own
abbrev pub kernels_of : Packet → List KernelObject
kernels_of (Kernel dispatch) = dispatch.kernel_object ∷ []
kernels_of _ = []

-- where the argument block of a kernel dispatch lies; other packets have none (PRM, Kernarg Segment)
abbrev pub argument_ranges : Start → Packet → List Range
argument_ranges start (Kernel dispatch) = range_at dispatch.kernarg_address.0 (kernel_of start dispatch).argument_bytes ∷ []
argument_ranges start _ = []

-- the ranges that the function of a packet's dispatch reads (own)
abbrev pub reads_of : Packet → List Range
reads_of (Agent dispatch) = ranges_read (function_of dispatch)
reads_of _ = []

-- a held region as a range
abbrev pub range_of : RegionRights → Range
range_of region = range_at (first_address region) region.size

-- the ranges that a packet's groups read: a kernel's are lent the regions that it holds with READ, an agent dispatch has those of its
-- function (own)
abbrev pub ranges_seen : Start → HeldRights → Packet → List Range
ranges_seen start rights (Kernel dispatch) = map range_of (filter (λ region. has region.rights right.Read) (held_regions start rights))
ranges_seen start rights p = reads_of p

-- the ranges that the function of a packet's dispatch writes, and its result (own)
abbrev pub writes_of : Packet → List Range
writes_of (Agent dispatch) = ranges_written (function_of dispatch) ++ result_range dispatch ∷ []
writes_of _ = []

-- each right that a packet works with is in force for the owner of its queue (own)
pub record HasItsRights (start : Start) (entries : List Entry) (opening : Opening) (p : Packet) : Type 0 where
  pub agent : in_force start entries opening.client (object.Agent opening.agent) right.Use ≡ true
  pub launches : All (λ kernel. in_force start entries opening.client (object.Kernel kernel) right.Launch ≡ true) (kernels_of p)
  pub waits : All (MayUseSignal start entries opening.client right.Wait) (dependencies p)
  pub completes : MayUseSignal start entries opening.client right.Change (completion_signal p)
  pub reads : All (MayReachRange start entries opening.client right.Read) (reads_of p)
  pub writes : All (MayReachRange start entries opening.client right.Write) (writes_of p)

-- ---- launches

-- a packet may be launched from these bytes, behind these entries: it is the next of a queue that is open, the bytes lay it out
-- (PSA, Architected Queuing Language), it need not wait, every launch rule holds, and by the grants in force it has its rights and may
-- read its arguments (own)
pub record MayBeLaunched (start : Start) (before : List Entry) (queue : QueueId) (id : PacketId) (bytes : List ℕ) (opening : Opening) (packet : Packet) : Type 0 where
  pub owner_is : owner start before queue ≡ Some opening
  pub launches_yet : is_down start before queue ≡ false
  pub id_is_next : id.0 ≡ next_id start before queue
  pub need_not_wait : cause_to_wait (map (λ f. f.packet) (flight_of start before queue)) (barrier_bit bytes) ≡ None
  pub is_read : decoded bytes ≡ Some packet
  pub laid_out : PacketOf bytes packet
  pub every_rule : All (λ rule. holds_rule (facts_of start before opening) bytes packet rule ≡ true) launch_rules
  pub rights : HasItsRights start before opening packet
  pub arguments : All (MayReachRange start before opening.client right.Read) (argument_ranges start packet)

-- a packet's launch in a history (own)
pub record Launch (start : Start) (entries : List Entry) (queue : QueueId) (id : PacketId) : Type 0 where
  -- the entries before it
  pub before : List Entry
  pub bytes : List ℕ
  -- who owns the queue
  pub opening : Opening
  pub packet : Packet
  pub place : IsEntryBehind entries before (entry_of (Take queue id bytes) (outcome.Taken Launched) [])
  pub allowed : MayBeLaunched start before queue id bytes opening packet

-- a packet in flight, with its launch (own)
pub record InFlightSince (start : Start) (entries : List Entry) (queue : QueueId) (id : PacketId) : Type 0 where
  pub flying : InFlight
  pub is_found : in_flight start entries queue id ≡ Some flying
  pub launch : Launch start entries queue id
  pub packet_is : launch.packet ≡ flying.packet

-- a packet was denied, by what was in force behind these entries: it is the next of a queue that is open and launches yet, it need
-- not wait, and its error names it and the first launch rule that fails (own)
pub record IsDenied (start : Start) (before : List Entry) (queue : QueueId) (id : PacketId) (bytes : List ℕ) (error : QueueError) : Type 0 where
  pub opening : Opening
  pub owner_is : owner start before queue ≡ Some opening
  pub launches_yet : is_down start before queue ≡ false
  pub id_is_next : id.0 ≡ next_id start before queue
  pub need_not_wait : cause_to_wait (map (λ f. f.packet) (flight_of start before queue)) (barrier_bit bytes) ≡ None
  pub rule : Rule
  pub error_is : error ≡ error_without_place queue id.0 rule
  -- the rules before it hold, and it fails
  pub earlier : List Rule
  pub later : List Rule
  pub in_order : launch_rules ≡ earlier ++ rule ∷ later
  pub hold : All (λ r. holds_rule (facts_of start before opening) bytes (packet_at (packet_type bytes) bytes) r ≡ true) earlier
  pub fails : holds_rule (facts_of start before opening) bytes (packet_at (packet_type bytes) bytes) rule ≡ false

-- ---- writes

-- a client wrote these bytes itself, with WRITE in force just before (own)
pub record IsHostWrite (start : Start) (before : List Entry) (event : Event) (address : ℕ) (bytes : List ℕ) : Type 0 where
  pub client : ClientId
  pub event_is : event ≡ Call (HostWrite client (record { 0 = address }) bytes)
  pub allowed : MayReach start before client right.Write address (length bytes)

-- a group of a packet in flight wrote them, with WRITE in force for the owner of its queue when it was launched (own)
pub record IsGroupWrite (start : Start) (before : List Entry) (event : Event) (address : ℕ) (bytes : List ℕ) : Type 0 where
  pub queue : QueueId
  pub id : PacketId
  pub event_is : event ≡ Call (RunNext queue id)
  pub packet : InFlightSince start before queue id
  -- a group was left to run
  pub is_left : (progress start before queue id).groups_run < group_count packet.flying.packet
  pub allowed : MayReach start packet.launch.before packet.launch.opening.client right.Write address (length bytes)

-- who wrote, at least one byte, and which grant allowed it (own)
abbrev pub WriteIsGranted : Start → List Entry → Event → Effect → Type 0
WriteIsGranted start before event (effect.Write address bytes) =
    (0 < length bytes) × (IsHostWrite start before event address.0 bytes ⊎ IsGroupWrite start before event address.0 bytes)
WriteIsGranted start before event _ = Unit {0}

-- ---- changes of signals

-- a client changed the signal itself, with CHANGE in force just before (own)
pub record IsClientChange (start : Start) (before : List Entry) (event : Event) (signal : SignalHandle) (old new : ℤ) : Type 0 where
  pub client : ClientId
  pub operation : SignalOp
  pub event_is : event ≡ Call (ChangeSignal client signal operation)
  pub result : new ≡ applied operation old
  pub allowed : in_force start before client (object.Signal signal) right.Change ≡ true

-- a packet in flight decremented its completion signal (PSA, Signals), with CHANGE in force for the owner of its queue when it
-- was launched (own)
pub record IsCompletion (start : Start) (before : List Entry) (event : Event) (signal : SignalHandle) (old new : ℤ) : Type 0 where
  pub queue : QueueId
  pub id : PacketId
  pub event_is : event ≡ Call (Finish queue id)
  pub result : new ≡ applied (Subtract (pos 1)) old
  pub packet : InFlightSince start before queue id
  pub signal_is : completion_signal packet.flying.packet ≡ signal
  pub allowed : in_force start packet.launch.before packet.launch.opening.client (object.Signal signal) right.Change ≡ true

-- who changed a signal, from the value that it had, and which grant allowed it (own)
abbrev pub ChangeIsGranted : Start → List Entry → Event → Effect → Type 0
ChangeIsGranted start before event (effect.Signal signal old new) =
    (value_of (signals start before) signal.0 ≡ Some old)
    × (IsClientChange start before event signal old new ⊎ IsCompletion start before event signal old new)
ChangeIsGranted start before event _ = Unit {0}

-- ---- releases

-- what releases this packet: that it completes, that it faults, that its queue is stopped, if it is a barrier packet, or that its queue
-- is closed (own)
abbrev pub IsReleasedBy : Event → Outcome → InFlight → Type 0
IsReleasedBy (Call (Finish queue id)) outcome.Accepted f = (queue ≡ f.queue) × (id ≡ f.id)
IsReleasedBy (Call (RunNext queue id)) (outcome.Worked (Faulted error)) f = (queue ≡ f.queue) × (id ≡ f.id)
IsReleasedBy (Call (Poll queue id)) (outcome.Polled (Failed error)) f = (queue ≡ f.queue) × (id ≡ f.id)
IsReleasedBy (Call (Stop queue)) outcome.Accepted f = (queue.0 ≡ f.queue.0) × (is_barrier f.packet ≡ true)
IsReleasedBy (Call (Close queue)) outcome.Accepted f = queue.0 ≡ f.queue.0
IsReleasedBy _ _ f = ⊥

-- a packet is released that is in flight, by what releases it (own)
abbrev pub ReleaseIsDue : Start → List Entry → Event → Outcome → Effect → Type 0
ReleaseIsDue start before event told (effect.Release queue id) =
    (f : InFlight) × Contains (flight start before) f × (f.queue ≡ queue) × (f.id ≡ id) × IsReleasedBy event told f
ReleaseIsDue start before event told _ = Unit {0}

-- ---- completions and polls

-- a packet in flight whose work is done behind these entries: its completion signal, unless it is null, is decremented once, and it
-- is released (own)
pub record IsCompleted (start : Start) (before : List Entry) (queue : QueueId) (id : PacketId) (effects : List Effect) : Type 0 where
  pub packet : InFlightSince start before queue id
  pub is_done : is_finished packet.flying.packet (progress start before queue id) ≡ true
  pub effects_are : effects ≡ completion_of (signals start before) queue id packet.flying.packet

-- a poll of a barrier packet has seen something: no dependency still looked at is negative, it saw those that are 0, and there is one (own)
pub record SeesAnew (start : Start) (before : List Entry) (p : Packet) (satisfied new : Satisfied) : Type 0 where
  pub none_negative : list_any (is_negative (signals start before)) (seen_dependencies p satisfied) ≡ false
  pub seen : new ≡ newly_seen_positions (signals start before) p satisfied
  pub some : list_any (λ at. at) new.0 ≡ true

-- what a poll of a barrier packet tells, by the signals just before and by what polls since its launch have seen: it failed where a
-- dependency still looked at is negative; else it saw something, and is ready where that suffices with what was seen before (own)
abbrev pub IsPolled : Start → List Entry → QueueId → PacketId → Packet → Satisfied → Polled → Type 0
IsPolled start before queue id p satisfied (Failed error) =
    (error ≡ error_without_place queue id.0 B1) × (list_any (is_negative (signals start before)) (seen_dependencies p satisfied) ≡ true)
IsPolled start before queue id p satisfied (Pending new) =
    SeesAnew start before p satisfied new × (is_ready p (satisfied_by_either satisfied new) ≡ false)
IsPolled start before queue id p satisfied (Ready new) =
    SeesAnew start before p satisfied new × (is_ready p (satisfied_by_either satisfied new) ≡ true)

-- the packet that an event concerns, if it concerns one (own)
abbrev pub packet_named : Event → Option (QueueId × PacketId)
packet_named (Take queue id bytes) = Some (queue, id)
packet_named (Call (RunNext queue id)) = Some (queue, id)
packet_named (Call (Poll queue id)) = Some (queue, id)
packet_named (Call (Finish queue id)) = Some (queue, id)
packet_named _ = None

-- ---- rights held

-- a packet in flight has its rights in force, and so is all else that it holds, for the owner of its queue (own)
pub record HoldsInForce (start : Start) (entries : List Entry) (f : InFlight) : Type 0 where
  pub launch : Launch start entries f.queue f.id
  pub packet_is : launch.packet ≡ f.packet
  pub owner_is : owner start entries f.queue ≡ Some launch.opening
  pub rights : HasItsRights start entries launch.opening f.packet
  -- what it holds, and its arguments, are what its launch gave it
  pub held_is : (client : ClientId) (on : Object) (right : Right) →
      held start entries f.queue f.id client on right ≡ (launch.opening.client.0 == client.0 && is_among (rights_at_launch start launch.before launch.opening f.packet) on right)
  pub arguments_are : arguments start entries f.queue f.id ≡ arguments_of start launch.before f.packet
  pub holds : AllInForce start entries launch.opening.client (held start entries f.queue f.id launch.opening.client)

-- ---- queues

-- an entry behind these opens a queue that wasn't there, under the number behind all that were ever opened, for a client that may use
-- the agent, whose it is from then on, whatever entries follow, until one closes it (own)
pub record IsOpened (start : Start) (before : List Entry) (entry : Entry) (client : ClientId) (agent : AgentHandle) : Type 0 where
  pub queue : QueueId
  pub outcome_is : entry.outcome ≡ outcome.Opened queue
  pub granted : in_force start before client (object.Agent agent) right.Use ≡ true
  pub is_new : owner start before queue ≡ None
  pub number_is : queue.0 ≡ (openings start before).opened + 1
  pub owner_is : (more : List Entry) → list_any (λ later. closes_queue queue later.event) more ≡ false →
      owner start ((before ++ entry ∷ []) ++ more) queue ≡ Some (record { client = client; agent = agent })

-- ---- listings

-- a row of a listing: an object on which the client has a right in force, with just those rights (own)
pub record IsListed (start : Start) (entries : List Entry) (client : ClientId) (row : Object × Rights) : Type 0 where
  pub some : has_some_right start entries client row.0 ≡ true
  pub rights : (right : Right) → has row.1 right ≡ in_force start entries client row.0 right

-- ---- histories

-- a history goes on as another: from the same start, with entries behind its own, and legal (own)
pub record GoesOn (old new : History) : Type 0 where
  pub origin_is : new.origin ≡ old.origin
  pub kernels_are : new.kernels ≡ old.kernels
  pub capacity_is : new.capacity ≡ old.capacity
  pub more : List Entry
  pub entries_are : new.entries ≡ old.entries ++ more
  pub legal : IsLegal (beginning new) new.entries
