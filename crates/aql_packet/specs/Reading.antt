-- What bytes say, as functions of them: the header's parts, the rules L1 to L3, and the packet.
use Rattle.std.specs.Prelude.{ℕ, List, Bool, ◌==◌, ◌&&◌, ◌||◌, not, if◌then◌else◌, Option, Some, None, is_none}
use Rattle.aql_packet.specs.declared.packet.Scope.{Scope}
use Rattle.aql_packet.specs.declared.packet.Scope.TheVariants as scopes
use Rattle.aql_packet.specs.declared.packet.Header.{Header}
use Rattle.aql_packet.specs.declared.packet.KernelDispatch.{KernelDispatch}
use Rattle.aql_packet.specs.declared.packet.AgentDispatch.{AgentDispatch}
use Rattle.aql_packet.specs.declared.packet.Barrier.{Barrier}
use Rattle.aql_packet.specs.declared.packet.Packet.{Packet}
use Rattle.aql_packet.specs.declared.packet.Packet.TheVariants.{Kernel, Agent, BarrierAnd, BarrierOr}
use Rattle.aql_packet.specs.declared.packet.CodecRule.{CodecRule}
use Rattle.aql_packet.specs.declared.packet.CodecRule.TheVariants.{L1, L2, L3}
use Rattle.aql_packet.specs.Kinds.{kernel_type, barrier_and_type, agent_type, barrier_or_type}
use Rattle.aql_packet.specs.Numbers.{number_at, bits}
use Rattle.aql_packet.specs.Layout.{are_64_bytes, arguments_at, signal_at, signals_at}

-- The packet's type: header bits 7:0.
abbrev pub packet_type : List ℕ → ℕ
packet_type bytes = bits (number_at bytes 0 2) 7 0

-- The barrier bit: header bit 8.
abbrev pub barrier_bit : List ℕ → Bool
barrier_bit bytes = bits (number_at bytes 0 2) 8 8 == 1

-- The acquire fence scope as a number: header bits 10:9.
abbrev pub acquire_bits : List ℕ → ℕ
acquire_bits bytes = bits (number_at bytes 0 2) 10 9

-- The release fence scope as a number: header bits 12:11.
abbrev pub release_bits : List ℕ → ℕ
release_bits bytes = bits (number_at bytes 0 2) 12 11

-- A packet of this type is run: kernel dispatch, barrier-AND, agent dispatch or barrier-OR.
abbrev pub is_known : ℕ → Bool
is_known type = type == kernel_type || type == barrier_and_type || type == agent_type || type == barrier_or_type

-- The header's reserved bits are zero, and no scope has the reserved number.
abbrev pub is_plain_header : List ℕ → Bool
is_plain_header bytes =
    bits (number_at bytes 0 2) 15 13 == 0 && not (acquire_bits bytes == 3) && not (release_bits bytes == 3)

-- A kernel dispatch's reserved parts are zero: setup bits 15:2, bytes 10 and 11, bytes 48 to 55.
abbrev pub kernel_reserved_is_zero : List ℕ → Bool
kernel_reserved_is_zero bytes =
    bits (number_at bytes 2 2) 15 2 == 0 && number_at bytes 10 2 == 0 && number_at bytes 48 8 == 0

-- An agent dispatch's: bytes 4 to 7 and 48 to 55.
abbrev pub agent_reserved_is_zero : List ℕ → Bool
agent_reserved_is_zero bytes = number_at bytes 4 4 == 0 && number_at bytes 48 8 == 0

-- A barrier packet's: bytes 2 to 7 and 48 to 55.
abbrev pub barrier_reserved_is_zero : List ℕ → Bool
barrier_reserved_is_zero bytes = number_at bytes 2 6 == 0 && number_at bytes 48 8 == 0

-- The parts that a type reserves are zero.
abbrev pub reserved_is_zero : ℕ → List ℕ → Bool
reserved_is_zero type bytes =
    if type == kernel_type then kernel_reserved_is_zero bytes
    else if type == agent_type then agent_reserved_is_zero bytes
    else barrier_reserved_is_zero bytes

-- What each rule asks of the bytes; what isn't 64 bytes has no known type (own).
unfoldable pub passes : CodecRule → List ℕ → Bool
passes L1 bytes = are_64_bytes bytes && is_known (packet_type bytes)
passes L2 bytes = is_plain_header bytes
passes L3 bytes = reserved_is_zero (packet_type bytes) bytes

-- The first rule that fails, if one does.
unfoldable pub refusal : List ℕ → Option CodecRule
refusal bytes =
    if not (passes L1 bytes) then Some L1
    else if not (passes L2 bytes) then Some L2
    else if not (passes L3 bytes) then Some L3
    else None

-- The scope of a number.
abbrev pub scope_of : ℕ → Scope
scope_of number = if number == 0 then scopes.None else if number == 1 then scopes.Agent else scopes.System

-- What the header says beside the type.
unfoldable pub header_at : List ℕ → Header
header_at bytes = record {
  barrier = barrier_bit bytes;
  acquire = scope_of (acquire_bits bytes);
  release = scope_of (release_bits bytes);
}

-- A kernel dispatch's fields, whatever its reserved parts hold.
unfoldable pub kernel_at : List ℕ → KernelDispatch
kernel_at bytes = record {
  header = header_at bytes;
  dimensions = bits (number_at bytes 2 2) 1 0;
  workgroup_size_x = number_at bytes 4 2;
  workgroup_size_y = number_at bytes 6 2;
  workgroup_size_z = number_at bytes 8 2;
  grid_size_x = number_at bytes 12 4;
  grid_size_y = number_at bytes 16 4;
  grid_size_z = number_at bytes 20 4;
  private_segment_size = number_at bytes 24 4;
  group_segment_size = number_at bytes 28 4;
  kernel_object = record { 0 = number_at bytes 32 8 };
  kernarg_address = record { 0 = number_at bytes 40 8 };
  completion_signal = signal_at bytes 56;
}

-- An agent dispatch's fields.
unfoldable pub agent_at : List ℕ → AgentDispatch
agent_at bytes = record {
  header = header_at bytes;
  function = number_at bytes 2 2;
  return_address = record { 0 = number_at bytes 8 8 };
  arguments = arguments_at bytes;
  completion_signal = signal_at bytes 56;
}

-- A barrier packet's fields.
unfoldable pub barrier_at : List ℕ → Barrier
barrier_at bytes = record {
  header = header_at bytes;
  dependencies = signals_at bytes;
  completion_signal = signal_at bytes 56;
}

-- The packet of a known type.
unfoldable pub packet_at : ℕ → List ℕ → Packet
packet_at type bytes =
    if type == kernel_type then Kernel (kernel_at bytes)
    else if type == agent_type then Agent (agent_at bytes)
    else if type == barrier_and_type then BarrierAnd (barrier_at bytes)
    else BarrierOr (barrier_at bytes)

-- The packet that the bytes lay out, where no rule fails.
unfoldable pub decoded : List ℕ → Option Packet
decoded bytes = if is_none (refusal bytes) then Some (packet_at (packet_type bytes) bytes) else None
