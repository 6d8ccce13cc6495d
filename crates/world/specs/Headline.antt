-- The headline: what holds after any list of requests, in any interleaving.
use Rattle.std.specs.Prelude.{◌≡◌, ◌⊎◌, ℕ, ℤ, true, false, List, [], ◌∷◌, ◌++◌, length, Some, Ok, Err, All}
use Rattle.std.specs.Option.{is_some}
use Rattle.aql_packet.specs.declared.ids.Address.{Address}
use Rattle.aql_packet.specs.declared.ids.AgentHandle.{AgentHandle}
use Rattle.aql_packet.specs.declared.ids.ClientId.{ClientId}
use Rattle.aql_packet.specs.declared.ids.PacketId.{PacketId}
use Rattle.aql_packet.specs.declared.ids.QueueId.{QueueId}
use Rattle.aql_packet.specs.declared.ids.SignalHandle.{SignalHandle}
use Rattle.aql_packet.specs.declared.packet.Packet.{Packet}
use Rattle.policy.specs.declared.object.Object.{Object}
use Rattle.policy.specs.declared.object.Object.TheVariants as object
use Rattle.policy.specs.declared.rights.Right.TheVariants as right
use Rattle.policy.specs.declared.rights.Rights.{Rights}
use Rattle.policy.specs.Policy.{Declared, rules_of}
use Rattle.policy.specs.Rules.{knows_client}
use Rattle.signals.specs.Values.{meets, value_of}
use Rattle.signals.specs.declared.operation.Condition.{Condition}
use Rattle.signals.specs.declared.operation.SignalOp.{SignalOp}
use Rattle.kernel_check.specs.Programs.{Program}
use Rattle.queue_error.specs.declared.error.QueueError.{QueueError}
use Rattle.core_model.specs.declared.answer.Answer.{Answer}
use Rattle.core_model.specs.declared.answer.Answer.TheVariants as answer
use Rattle.core_model.specs.declared.entry.Effect.{Effect}
use Rattle.core_model.specs.declared.entry.Effect.TheVariants as effect
use Rattle.core_model.specs.declared.entry.Entry.{Entry}
use Rattle.core_model.specs.declared.flight.InFlight.{InFlight}
use Rattle.core_model.specs.declared.flight.Progress.{Progress}
use Rattle.core_model.specs.declared.event.Event.TheVariants.{Open, Take, Call}
use Rattle.core_model.specs.declared.call.Call.TheVariants.{ChangeSignal, HostWrite, RunNext}
use Rattle.core_model.specs.declared.event.Query.TheVariants as query
use Rattle.core_model.specs.declared.outcome.Outcome.{Outcome}
use Rattle.core_model.specs.declared.outcome.Outcome.TheVariants as outcome
use Rattle.core_model.specs.declared.outcome.Polled.TheVariants as polled
use Rattle.core_model.specs.declared.outcome.Taken.TheVariants as taken
use Rattle.core_model.specs.declared.outcome.Worked.TheVariants as worked
use Rattle.core_model.specs.declared.refusal.Refusal.TheVariants as refusal
use Rattle.core_model.specs.History.{beginning, opening_state, Start}
use Rattle.core_model.specs.States.{state_after}
use Rattle.core_model.specs.Grants.{in_force}
use Rattle.core_model.specs.Memory.{memory_from, signals}
use Rattle.core_model.specs.declared.origin.Opening.{Opening}
use Rattle.core_model.specs.Flight.{in_flight, progress}
use Rattle.core_model.specs.Holds.{own_rights}
use Rattle.core_model.specs.View.{GivenAtLaunch, given_at_launch}
use Rattle.core_model.specs.Owed.{enters, is_host_size, owed, owed_group, refuses}
use Rattle.core_model.specs.Legal.{IsOpening, IsWhole, entry_of}
use Rattle.core_model.specs.Queries.{query_answer}
use Rattle.core_model.specs.Headline.{ChangeIsGranted, InFlightSince, IsDenied, IsEntryBehind, IsListed, MayBeLaunched, MayReach, MayReachRange, WriteIsGranted, packet_named, ranges_seen}
use Rattle.ring_core.specs.Machine.{Machine}
use Rattle.world.specs.States.{Joined, closed_ring_of, ring_of}
use Rattle.world.specs.InStep.{HasItsSize, IsInStep, WasInStep, is_closed, is_open}

-- a world that was just opened over a policy with these kernels: no entry, and no queue
pub record IsBegun (world : Joined) (policy : Declared) (kernels : List Program) (capacity : ℕ) : Type 0 where
  pub core : IsOpening world.core policy kernels capacity
  pub rings : world.rings ≡ []
  pub closed : world.closed ≡ []

-- each packet that was launched may be by the grants in force at that moment, and its launch changed nothing
abbrev pub EachLaunchWasGranted : Start → List Entry → Type 0
EachLaunchWasGranted start entries =
    (before : List Entry) (queue : QueueId) (id : PacketId) (bytes : List ℕ) (effects : List Effect) →
    IsEntryBehind entries before (entry_of (Take queue id bytes) (outcome.Taken taken.Launched) effects) →
    (opening : Opening) × (packet : Packet) × MayBeLaunched start before queue id bytes opening packet × (effects ≡ [])

-- each packet that was denied failed the rule that its error names, and none before it; its denial changed nothing
abbrev pub EachDenialNamesItsRule : Start → List Entry → Type 0
EachDenialNamesItsRule start entries =
    (before : List Entry) (queue : QueueId) (id : PacketId) (bytes : List ℕ) (error : QueueError) (effects : List Effect) →
    IsEntryBehind entries before (entry_of (Take queue id bytes) (outcome.Taken (taken.Denied error)) effects) →
    IsDenied start before queue id bytes error × (effects ≡ [])

-- each packet that faulted left nothing of its group, and its error names it
abbrev pub EachFaultReleasesAlone : List Entry → Type 0
EachFaultReleasesAlone entries =
    (before : List Entry) (entry : Entry) (error : QueueError) → IsEntryBehind entries before entry →
    (entry.outcome ≡ outcome.Worked (worked.Faulted error)) ⊎ (entry.outcome ≡ outcome.Polled (polled.Failed error)) →
    (packet_named entry.event ≡ Some (error.queue, error.packet)) × (entry.effects ≡ effect.Release error.queue error.packet ∷ [])

-- each byte written, and each signal changed, is one that a call or a packet of a client may make by a grant: in force at the call,
-- or at the packet's launch
abbrev pub EachWriteWasGranted : Start → List Entry → Type 0
EachWriteWasGranted start entries =
    (before : List Entry) (entry : Entry) → IsEntryBehind entries before entry → All (WriteIsGranted start before entry.event) entry.effects

abbrev pub EachChangeWasGranted : Start → List Entry → Type 0
EachChangeWasGranted start entries =
    (before : List Entry) (entry : Entry) → IsEntryBehind entries before entry → All (ChangeIsGranted start before entry.event) entry.effects

-- each group that ran is one of a packet in flight that was launched with READ in force on all that its work reads: of a kernel
-- dispatch, each region that it holds with READ
abbrev pub EachGroupReadWasGranted : Start → List Entry → Type 0
EachGroupReadWasGranted start entries =
    (before : List Entry) (queue : QueueId) (id : PacketId) (told : Outcome) (effects : List Effect) →
    IsEntryBehind entries before (entry_of (Call (RunNext queue id)) told effects) →
    (s : InFlightSince start before queue id)
    × All (MayReachRange start s.launch.before s.launch.opening.client right.Read) (ranges_seen start (own_rights start before queue id) s.flying.packet)

-- what comes of each group that ran is what it was owed: of an agent dispatch its function's writes, of a kernel the meaning of the
-- kernel that its packet names, over the regions and the arguments that were given to the packet at its launch
abbrev pub EachGroupCameToItsMeaning : Start → List Entry → Type 0
EachGroupCameToItsMeaning start entries =
    (before : List Entry) (queue : QueueId) (id : PacketId) (told : Outcome) (effects : List Effect) (flying : InFlight) →
    IsEntryBehind entries before (entry_of (Call (RunNext queue id)) told effects) → in_flight start before queue id ≡ Some flying →
    owed_group start before queue id (given_at_launch start before queue id) flying.packet (progress start before queue id) ≡ enters told effects

-- a group depends on no byte of memory but those of the ranges that its work reads
abbrev pub GroupsDependOnWhatTheyRead : Start → Type 0
GroupsDependOnWhatTheyRead start =
    (one other : List Entry) (queue : QueueId) (id : PacketId) (own : GivenAtLaunch) (p : Packet) (so_far : Progress) →
    All (λ range. memory_from start one range.address.0 range.size ≡ memory_from start other range.address.0 range.size) (ranges_seen start own.rights p) →
    owed_group start one queue id own p so_far ≡ owed_group start other queue id own p so_far

-- each byte that a client is told is one of memory, with READ in force
abbrev pub EachReadIsGranted : Start → List Entry → Type 0
EachReadIsGranted start entries =
    (client : ClientId) (address : Address) (size : ℕ) (told : Answer) → query_answer start entries (query.HostRead client address size) ≡ Ok told →
    MayReach start entries client right.Read address.0 size × (told ≡ answer.Bytes (memory_from start entries address.0 size))

-- each signal whose value a client is told is one on which it has WAIT in force, and so is each that it is told how it compares
abbrev pub EachLookIsGranted : Start → List Entry → Type 0
EachLookIsGranted start entries =
    (client : ClientId) (signal : SignalHandle) (told : Answer) → query_answer start entries (query.LoadSignal client signal) ≡ Ok told →
    (in_force start entries client (object.Signal signal) right.Wait ≡ true)
    × (v : ℤ) × (value_of (signals start entries) signal.0 ≡ Some v) × (told ≡ answer.Value v)

abbrev pub EachTestIsGranted : Start → List Entry → Type 0
EachTestIsGranted start entries =
    (client : ClientId) (signal : SignalHandle) (condition : Condition) (value : ℤ) (told : Answer) → query_answer start entries (query.TestSignal client signal condition value) ≡ Ok told →
    (in_force start entries client (object.Signal signal) right.Wait ≡ true)
    × (v : ℤ) × (value_of (signals start entries) signal.0 ≡ Some v) × (told ≡ answer.Test (meets condition v value))

-- each handle that a client is listed is one on which it has a right in force, with just those rights
abbrev pub EachHandleListedIsGranted : Start → List Entry → Type 0
EachHandleListedIsGranted start entries =
    (client : ClientId) (told : Answer) → query_answer start entries (query.List client) ≡ Ok told →
    (rows : List (Object × Rights)) × (told ≡ answer.Listing rows) × All (IsListed start entries client) rows

-- a known client's own call is denied where the right that it needs is not in force: its write, its change of a signal, its opening of a
-- queue, its read, and its look at a signal
pub record CallsWithoutTheirRightAreDenied (start : Start) (entries : List Entry) : Type 0 where
  pub write : (client : ClientId) (address : Address) (bytes : List ℕ) → knows_client (rules_of start.policy) client ≡ true → is_host_size (length bytes) ≡ true
      → (MayReach start entries client right.Write address.0 (length bytes) → ⊥) → owed start entries (Call (HostWrite client address bytes)) ≡ refuses (refusal.Denied right.Write)
  pub change : (client : ClientId) (signal : SignalHandle) (operation : SignalOp) → knows_client (rules_of start.policy) client ≡ true
      → in_force start entries client (object.Signal signal) right.Change ≡ false → owed start entries (Call (ChangeSignal client signal operation)) ≡ refuses (refusal.Denied right.Change)
  pub opening : (client : ClientId) (agent : AgentHandle) (size : ℕ) → knows_client (rules_of start.policy) client ≡ true
      → in_force start entries client (object.Agent agent) right.Use ≡ false → owed start entries (Open client agent size) ≡ refuses (refusal.Denied right.Use)
  pub read : (client : ClientId) (address : Address) (size : ℕ) → knows_client (rules_of start.policy) client ≡ true → is_host_size size ≡ true
      → (MayReach start entries client right.Read address.0 size → ⊥) → query_answer start entries (query.HostRead client address size) ≡ Err (refusal.Denied right.Read)
  pub load : (client : ClientId) (signal : SignalHandle) → knows_client (rules_of start.policy) client ≡ true
      → in_force start entries client (object.Signal signal) right.Wait ≡ false → query_answer start entries (query.LoadSignal client signal) ≡ Err (refusal.Denied right.Wait)
  pub test : (client : ClientId) (signal : SignalHandle) (condition : Condition) (value : ℤ) → knows_client (rules_of start.policy) client ≡ true
      → in_force start entries client (object.Signal signal) right.Wait ≡ false → query_answer start entries (query.TestSignal client signal condition value) ≡ Err (refusal.Denied right.Wait)

-- the headline, of a world whose history is the rest of a whole one, which begins at an opening over this policy, and of which these entries
-- come before: what was handed out (own)
pub record Headline (policy : Declared) (prior : List Entry) (world : Joined) : Type 0 where
  -- the whole history is legal, from the opening on, and the world's own begins from the state behind the entries before
  pub legal : IsWhole (opening_state policy world.core.kernels) (prior ++ world.core.entries)
  pub start_is : beginning world.core ≡ state_after (opening_state policy world.core.kernels) prior
  pub launches : EachLaunchWasGranted (opening_state policy world.core.kernels) (prior ++ world.core.entries)
  pub denials : EachDenialNamesItsRule (opening_state policy world.core.kernels) (prior ++ world.core.entries)
  pub faults : EachFaultReleasesAlone (prior ++ world.core.entries)
  pub writes : EachWriteWasGranted (opening_state policy world.core.kernels) (prior ++ world.core.entries)
  pub changes : EachChangeWasGranted (opening_state policy world.core.kernels) (prior ++ world.core.entries)
  pub group_reads : EachGroupReadWasGranted (opening_state policy world.core.kernels) (prior ++ world.core.entries)
  pub group_means : EachGroupCameToItsMeaning (opening_state policy world.core.kernels) (prior ++ world.core.entries)
  pub group_depends : GroupsDependOnWhatTheyRead (opening_state policy world.core.kernels)
  pub reads : EachReadIsGranted (beginning world.core) world.core.entries
  pub looks : EachLookIsGranted (beginning world.core) world.core.entries
  pub tests : EachTestIsGranted (beginning world.core) world.core.entries
  pub listed : EachHandleListedIsGranted (beginning world.core) world.core.entries
  -- all else is denied: of packets this is said above, of the calls of clients here
  pub denied : CallsWithoutTheirRightAreDenied (beginning world.core) world.core.entries
  -- each queue that is open has a ring, of the size that was asked for, and no other queue has one
  pub rings : (queue : QueueId) → is_some (ring_of world queue) ≡ is_open world.core queue
  pub ring_sizes : (queue : QueueId) (ring : Machine) → ring_of world queue ≡ Some ring → HasItsSize (prior ++ world.core.entries) queue ring
  -- what was launched and denied of each queue is a beginning of what was published in its ring, whole, each once, in the order of ids
  pub in_step : (queue : QueueId) (ring : Machine) → ring_of world queue ≡ Some ring → IsInStep world.core (prior ++ world.core.entries) queue ring
  -- and so it is of each queue that was closed, with its ring as it stood before the close: nothing of the queue was launched or denied since
  pub closed : (queue : QueueId) → is_some (closed_ring_of world queue) ≡ is_closed world.core queue
  pub closed_sizes : (queue : QueueId) (ring : Machine) → closed_ring_of world queue ≡ Some ring → HasItsSize (prior ++ world.core.entries) queue ring
  pub closed_in_step : (queue : QueueId) (ring : Machine) → closed_ring_of world queue ≡ Some ring → WasInStep (prior ++ world.core.entries) queue ring
