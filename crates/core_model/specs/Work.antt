-- What a dispatch's groups write, and what a poll of a barrier packet finds.
use Rattle.std.specs.Prelude.{ℕ, ℤ, pos, int_lt, ◌+◌, ◌%◌, ◌^◌, ◌==◌, ◌&&◌, ◌||◌, Bool, false, not, List, [], ◌∷◌, ◌++◌, map, length, replicate, Option, Some, None, if◌then◌else◌}
use Rattle.std.specs.List.{list_all, list_any, zip}
use Rattle.std.specs.Int.{w64, to_le_bytes, from_le_bytes}
use Rattle.std.specs.Option.{unwrap_or}
use Rattle.std.specs.Ordering.{int_eq}
use Rattle.aql_packet.specs.declared.ids.SignalHandle.{SignalHandle}
use Rattle.aql_packet.specs.declared.packet.AgentDispatch.{AgentDispatch}
use Rattle.aql_packet.specs.declared.packet.Packet.{Packet}
use Rattle.aql_packet.specs.declared.packet.Packet.TheVariants as packet
use Rattle.executor.specs.Locations as locations
use Rattle.executor.specs.Locations.{count_of}
use Rattle.executor.specs.declared.written_range.WrittenRange.{WrittenRange}
use Rattle.signals.specs.Values.{value_of}
use Rattle.core_model.specs.declared.entry.Effect.{Effect}
use Rattle.core_model.specs.declared.entry.Effect.TheVariants.{Write}
use Rattle.core_model.specs.declared.entry.Entry.{Entry}
use Rattle.core_model.specs.declared.outcome.Satisfied.{Satisfied}
use Rattle.core_model.specs.History.{Start}
use Rattle.core_model.specs.Memory.{memory_from}
use Rattle.core_model.specs.declared.need.AgentFunction.{AgentFunction}
use Rattle.core_model.specs.declared.need.AgentFunction.TheVariants.{Fill, Copy, Add64}
use Rattle.core_model.specs.Kernels.{grid_size, group_size}
use Rattle.core_model.specs.Needs.{function_of, dependencies}

-- a change of memory: none for no bytes (own)
abbrev pub write_of : ℕ → List ℕ → List Effect
write_of address bytes = if length bytes == 0 then [] else Write (record { 0 = address }) bytes ∷ []

-- the 64-bit number in memory at an address, the lowest byte first (own)
abbrev pub number_in_memory : Start → List Entry → ℕ → ℕ
number_in_memory start entries address = from_le_bytes w64 (memory_from start entries address 8)

-- what an agent's function writes: FILL its byte, COPY its source as it was before, ADD64 the wrapped sum (own)
abbrev pub function_writes : Start → List Entry → Option AgentFunction → List Effect
function_writes start entries None = []
function_writes start entries (Some (Fill target byte)) = write_of target.address.0 (replicate target.size byte)
function_writes start entries (Some (Copy source target)) = write_of target.address.0 (memory_from start entries source.address.0 source.size)
function_writes start entries (Some (Add64 number addend)) =
    write_of number.address.0 (to_le_bytes w64 ((number_in_memory start entries number.address.0 + addend) % 2 ^ 64))

-- an agent's function's result: ADD64's is the old number, the others' is 0 (own)
abbrev pub function_result : Start → List Entry → Option AgentFunction → ℕ
function_result start entries (Some (Add64 number addend)) = number_in_memory start entries number.address.0
function_result start entries _ = 0

-- the result's 8 bytes go to the return address, unless that is 0 (own)
abbrev pub result_writes : Start → List Entry → AgentDispatch → List Effect
result_writes start entries dispatch =
    if dispatch.return_address.0 == 0 then []
    else write_of dispatch.return_address.0 (to_le_bytes w64 (function_result start entries (function_of dispatch)))

-- what the one group of an agent dispatch writes: its function's target, then its result (own)
abbrev pub agent_writes : Start → List Entry → AgentDispatch → List Effect
agent_writes start entries dispatch = function_writes start entries (function_of dispatch) ++ result_writes start entries dispatch

-- how many groups a packet has: a kernel dispatch the work-groups of its grid (PRM, Work-Group), an agent dispatch one; barrier
-- packets have no work (own)
abbrev pub group_count : Packet → ℕ
group_count (packet.Kernel d) = count_of (locations.groups_of (grid_size d) (group_size d))
group_count (packet.Agent _) = 1
group_count _ = 0

-- the change of memory that a run of written bytes is
abbrev pub write_of_run : WrittenRange → Effect
write_of_run run = Write (record { 0 = run.address }) run.bytes

-- a dependency with whether it was seen as 0 before (PSA, Architected Queuing Language: barrier packets)
abbrev pub SeenDependency : Type 0
SeenDependency = SignalHandle × Bool

-- a barrier packet's dependencies, each with whether it was seen as 0 (PSA, Architected Queuing Language: barrier packets)
abbrev pub seen_dependencies : Packet → Satisfied → List SeenDependency
seen_dependencies p seen = zip (dependencies p) seen.0

-- a barrier-AND is ready when each of its dependencies that isn't null was seen as 0, a barrier-OR when one was
-- (PSA, Architected Queuing Language; that a barrier-OR of nulls is never ready is own)
abbrev pub is_ready : Packet → Satisfied → Bool
is_ready (packet.BarrierAnd barrier) seen = list_all (λ a. a.0.0 == 0 || a.1) (zip barrier.dependencies seen.0)
is_ready (packet.BarrierOr barrier) seen = list_any (λ a. not (a.0.0 == 0) && a.1) (zip barrier.dependencies seen.0)
is_ready _ seen = false

-- whether a dependency is still looked at: it isn't null, and wasn't seen as 0 (PSA, Architected Queuing Language: barrier packets)
abbrev pub is_awaited : SeenDependency → Bool
is_awaited a = not (a.0.0 == 0) && not a.1

-- a signal's value, 0 for a number that no signal has (own)
abbrev pub signal_value : List ℤ → SignalHandle → ℤ
signal_value values signal = unwrap_or (value_of values signal.0) (pos 0)

-- whether a dependency that is still looked at is negative (own)
abbrev pub is_negative : List ℤ → SeenDependency → Bool
is_negative values a = is_awaited a && int_lt (signal_value values a.0) (pos 0)

-- whether a dependency that is still looked at is 0 (PSA, Architected Queuing Language: barrier packets)
abbrev pub is_zero : List ℤ → SeenDependency → Bool
is_zero values a = is_awaited a && int_eq (signal_value values a.0) (pos 0)

-- the positions that a poll is the first to see as 0 (PSA, Architected Queuing Language: barrier packets; polls are own)
abbrev pub newly_seen_positions : List ℤ → Packet → Satisfied → Satisfied
newly_seen_positions values p seen = record { 0 = map (is_zero values) (seen_dependencies p seen) }
