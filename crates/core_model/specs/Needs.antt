-- What a packet needs to be launched, rule by rule, and so what it holds while it is in flight.
use Rattle.std.specs.Prelude.{ℕ, ◌==◌, ◌%◌, List, [], ◌∷◌, ◌++◌, slice_index, Option, Some, None, if◌then◌else◌}
use Rattle.std.specs.List.{flat_map}
use Rattle.aql_packet.specs.declared.ids.AgentHandle.{AgentHandle}
use Rattle.aql_packet.specs.declared.ids.SignalHandle.{SignalHandle}
use Rattle.aql_packet.specs.declared.packet.AgentDispatch.{AgentDispatch}
use Rattle.aql_packet.specs.declared.packet.Packet.{Packet}
use Rattle.aql_packet.specs.declared.packet.Packet.TheVariants as packet
use Rattle.policy.specs.declared.object.Object.{Object}
use Rattle.policy.specs.declared.object.Object.TheVariants as object
use Rattle.policy.specs.declared.rights.Right.{Right}
use Rattle.policy.specs.declared.rights.Right.TheVariants.{Use, Read, Write, Wait, Change, Launch}
use Rattle.queue_error.specs.declared.rule.Rule.{Rule}
use Rattle.queue_error.specs.declared.rule.Rule.TheVariants.{L4, L6, L8, L9, L10}
use Rattle.regions.specs.Memory.{region_of}
use Rattle.core_model.specs.Limits.{fill_number, copy_number, add64_number}
use Rattle.core_model.specs.declared.need.Range.{Range}
use Rattle.core_model.specs.declared.need.AgentFunction.{AgentFunction}
use Rattle.core_model.specs.declared.need.AgentFunction.TheVariants.{Fill, Copy, Add64}
use Rattle.core_model.specs.declared.need.Subject.{Subject}
use Rattle.core_model.specs.declared.need.Subject.TheVariants as subject
use Rattle.core_model.specs.declared.need.Need.{Need}

-- so many bytes from an address on (own)
abbrev pub range_at : ℕ → ℕ → Range
range_at address size = record { address = record { 0 = address }; size = size }

-- an agent dispatch's argument number k, from 0 (PSA, Architected Queuing Language: the agent dispatch packet)
abbrev pub argument : AgentDispatch → ℕ → ℕ
argument dispatch k = slice_index dispatch.arguments k

-- the function that a dispatch names, and what it is to work on: FILL a range and a byte, COPY two ranges, ADD64 a number (own)
abbrev pub function_of : AgentDispatch → Option AgentFunction
function_of d =
    if d.function == fill_number then Some (Fill (range_at (argument d 0) (argument d 1)) (argument d 2 % 256))
    else if d.function == copy_number then Some (Copy (range_at (argument d 0) (argument d 2)) (range_at (argument d 1) (argument d 2)))
    else if d.function == add64_number then Some (Add64 (range_at (argument d 0) 8) (argument d 1))
    else None

-- where a dispatch's result goes: 8 bytes at its return address, none where that is 0 (own)
abbrev pub result_range : AgentDispatch → Range
result_range d = range_at d.return_address.0 (if d.return_address.0 == 0 then 0 else 8)

-- a right on a range; an empty one needs none (own)
abbrev pub range_need : Right → Range → List Need
range_need right range = if range.size == 0 then [] else record { subject = subject.Range range; right = right } ∷ []

-- a right on a signal; the null signal needs none (own)
abbrev pub signal_need : Right → SignalHandle → List Need
signal_need right signal = if signal.0 == 0 then [] else record { subject = subject.Object (object.Signal signal); right = right } ∷ []

-- what a function needs of memory: FILL to write its target, COPY to read its source and write its target, ADD64 both (own)
abbrev pub function_needs : Option AgentFunction → List Need
function_needs None = []
function_needs (Some (Fill target byte)) = range_need Write target
function_needs (Some (Copy source target)) = range_need Read source ++ range_need Write target
function_needs (Some (Add64 number addend)) = range_need Read number ++ range_need Write number

-- the signals that a packet depends on (PSA, Architected Queuing Language: barrier packets)
abbrev pub dependencies : Packet → List SignalHandle
dependencies (packet.BarrierAnd barrier) = barrier.dependencies
dependencies (packet.BarrierOr barrier) = barrier.dependencies
dependencies _ = []

-- the signal that is decremented when a packet completes (PSA, Architected Queuing Language: the completion signal)
abbrev pub completion_signal : Packet → SignalHandle
completion_signal (packet.Kernel dispatch) = dispatch.completion_signal
completion_signal (packet.Agent dispatch) = dispatch.completion_signal
completion_signal (packet.BarrierAnd barrier) = barrier.completion_signal
completion_signal (packet.BarrierOr barrier) = barrier.completion_signal

-- what a packet needs of memory: an agent dispatch what its function needs, and to write its result (own)
abbrev pub memory_needs : Packet → List Need
memory_needs (packet.Agent d) = function_needs (function_of d) ++ range_need Write (result_range d)
memory_needs _ = []

-- what a packet needs of kernels: a kernel dispatch to launch its own (own)
abbrev pub kernel_needs : Packet → List Need
kernel_needs (packet.Kernel d) = record { subject = subject.Object (object.Kernel d.kernel_object); right = Launch } ∷ []
kernel_needs _ = []

-- The rights that a launch rule asks of a packet for an agent, and that it holds while it is in flight: L4 the use of the agent,
-- L6 to launch a kernel, L8 ranges of memory, L9 to wait on dependencies, L10 to change the completion signal; the other rules ask
-- for none (own).
abbrev pub needs : Rule → AgentHandle → Packet → List Need
needs L4 agent p = record { subject = subject.Object (object.Agent agent); right = Use } ∷ []
needs L6 agent p = kernel_needs p
needs L8 agent p = memory_needs p
needs L9 agent p = flat_map (signal_need Wait) (dependencies p)
needs L10 agent p = signal_need Change (completion_signal p)
needs _ agent p = []

-- the object that a right is needed on: of a range, its region (own)
abbrev pub object_of : Subject → Object
object_of (subject.Object on) = on
object_of (subject.Range range) = object.Region (record { 0 = region_of range.address.0 })
