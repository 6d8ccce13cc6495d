-- Which 64 bytes lay out which packet (PSA, Architected Queuing Language): one clause a field, and one a
-- reserved part. Nothing is encoded or decoded here.
use Rattle.std.specs.Prelude.{◌≡◌, ◌<◌, ◌==◌, ◌&&◌, ℕ, List, [], ◌∷◌, length, slice_index, Bool, true, nat_le, nat_lt}
use Rattle.std.specs.List.{list_all}
use Rattle.aql_packet.specs.declared.ids.SignalHandle.{SignalHandle}
use Rattle.aql_packet.specs.declared.packet.Scope.{Scope}
use Rattle.aql_packet.specs.declared.packet.Scope.TheVariants as scopes
use Rattle.aql_packet.specs.declared.packet.Header.{Header}
use Rattle.aql_packet.specs.declared.packet.KernelDispatch.{KernelDispatch}
use Rattle.aql_packet.specs.declared.packet.AgentDispatch.{AgentDispatch}
use Rattle.aql_packet.specs.declared.packet.Barrier.{Barrier}
use Rattle.aql_packet.specs.declared.packet.Packet.{Packet}
use Rattle.aql_packet.specs.declared.packet.Packet.TheVariants.{Kernel, Agent, BarrierAnd, BarrierOr}
use Rattle.aql_packet.specs.Kinds.{kernel_type, barrier_and_type, agent_type, barrier_or_type}
use Rattle.aql_packet.specs.Numbers.{number_at, bits, bit_of}

-- 64 numbers below 256.
pub record Are64Bytes (bytes : List ℕ) : Type 0 where
  pub count : length bytes ≡ 64
  pub below : (place : ℕ) → slice_index bytes place < 256

-- The same, as a test.
abbrev pub are_64_bytes : List ℕ → Bool
are_64_bytes bytes = length bytes == 64 && list_all (λ byte. nat_lt byte 256) bytes

-- A fence scope's number.
abbrev pub scope_number : Scope → ℕ
scope_number scopes.None = 0
scope_number scopes.Agent = 1
scope_number scopes.System = 2

-- The four 64-bit numbers in bytes 16 to 47.
abbrev pub arguments_at : List ℕ → List ℕ
arguments_at bytes =
    number_at bytes 16 8 ∷ number_at bytes 24 8 ∷ number_at bytes 32 8 ∷ number_at bytes 40 8 ∷ []

-- The signal that the 64-bit number at a place names.
abbrev pub signal_at : List ℕ → ℕ → SignalHandle
signal_at bytes place = record { 0 = number_at bytes place 8 }

-- The five signals in bytes 8 to 47.
abbrev pub signals_at : List ℕ → List SignalHandle
signals_at bytes =
    signal_at bytes 8 ∷ signal_at bytes 16 ∷ signal_at bytes 24 ∷ signal_at bytes 32 ∷ signal_at bytes 40 ∷ []

-- The 16-bit header of a packet of a type, as a number.
pub record IsHeader (number type : ℕ) (header : Header) : Type 0 where
  pub packet_type : bits number 7 0 ≡ type
  pub barrier : bits number 8 8 ≡ bit_of header.barrier
  pub acquire : bits number 10 9 ≡ scope_number header.acquire
  pub release : bits number 12 11 ≡ scope_number header.release
  pub reserved : bits number 15 13 ≡ 0

-- A kernel dispatch packet.
pub record LaysKernel (bytes : List ℕ) (packet : KernelDispatch) : Type 0 where
  pub header : IsHeader (number_at bytes 0 2) kernel_type packet.header
  pub setup_dimensions : bits (number_at bytes 2 2) 1 0 ≡ packet.dimensions
  pub setup_reserved : bits (number_at bytes 2 2) 15 2 ≡ 0
  pub workgroup_size_x : number_at bytes 4 2 ≡ packet.workgroup_size_x
  pub workgroup_size_y : number_at bytes 6 2 ≡ packet.workgroup_size_y
  pub workgroup_size_z : number_at bytes 8 2 ≡ packet.workgroup_size_z
  pub reserved_10 : number_at bytes 10 2 ≡ 0
  pub grid_size_x : number_at bytes 12 4 ≡ packet.grid_size_x
  pub grid_size_y : number_at bytes 16 4 ≡ packet.grid_size_y
  pub grid_size_z : number_at bytes 20 4 ≡ packet.grid_size_z
  pub private_segment_size : number_at bytes 24 4 ≡ packet.private_segment_size
  pub group_segment_size : number_at bytes 28 4 ≡ packet.group_segment_size
  pub kernel_object : number_at bytes 32 8 ≡ packet.kernel_object.0
  pub kernarg_address : number_at bytes 40 8 ≡ packet.kernarg_address.0
  pub reserved_48 : number_at bytes 48 8 ≡ 0
  pub completion_signal : number_at bytes 56 8 ≡ packet.completion_signal.0

-- An agent dispatch packet.
pub record LaysAgent (bytes : List ℕ) (packet : AgentDispatch) : Type 0 where
  pub header : IsHeader (number_at bytes 0 2) agent_type packet.header
  pub function : number_at bytes 2 2 ≡ packet.function
  pub reserved_4 : number_at bytes 4 4 ≡ 0
  pub return_address : number_at bytes 8 8 ≡ packet.return_address.0
  pub arguments : arguments_at bytes ≡ packet.arguments
  pub reserved_48 : number_at bytes 48 8 ≡ 0
  pub completion_signal : number_at bytes 56 8 ≡ packet.completion_signal.0

-- A barrier packet of either type, which is 3 or 5.
pub record LaysBarrier (bytes : List ℕ) (type : ℕ) (packet : Barrier) : Type 0 where
  pub header : IsHeader (number_at bytes 0 2) type packet.header
  pub reserved_2 : number_at bytes 2 6 ≡ 0
  pub dependencies : signals_at bytes ≡ packet.dependencies
  pub reserved_48 : number_at bytes 48 8 ≡ 0
  pub completion_signal : number_at bytes 56 8 ≡ packet.completion_signal.0

-- The layout of a packet by its type.
abbrev pub Lays : List ℕ → Packet → Type 0
Lays bytes (Kernel packet) = LaysKernel bytes packet
Lays bytes (Agent packet) = LaysAgent bytes packet
Lays bytes (BarrierAnd packet) = LaysBarrier bytes barrier_and_type packet
Lays bytes (BarrierOr packet) = LaysBarrier bytes barrier_or_type packet

-- The bytes are 64 and lay the packet out.
pub record PacketOf (bytes : List ℕ) (packet : Packet) : Type 0 where
  pub are_bytes : Are64Bytes bytes
  pub layout : Lays bytes packet

-- Whether the packet has a spelling: the dimensions of a kernel dispatch fit the two bits that they have.
abbrev pub is_well_formed : Packet → Bool
is_well_formed (Kernel packet) = nat_le packet.dimensions 3
is_well_formed _ = true
