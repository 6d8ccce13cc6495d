-- Which packet each form of a line stands for, and the line that submits it (PSA, Architected Queuing Language; the forms are own).
use Rattle.std.specs.Prelude.{◌≡◌, ℕ, List, [], ◌∷◌, ◌++◌, codes}
use Rattle.std.specs.Option.{unwrap_or}
use Rattle.aql_packet.specs.Layout.{PacketOf}
use Rattle.aql_packet.specs.declared.ids.Address.{Address}
use Rattle.aql_packet.specs.declared.ids.KernelObject.{KernelObject}
use Rattle.aql_packet.specs.declared.ids.SignalHandle.{SignalHandle}
use Rattle.aql_packet.specs.declared.packet.Barrier.{Barrier}
use Rattle.aql_packet.specs.declared.packet.Packet.{Packet}
use Rattle.aql_packet.specs.declared.packet.Packet.TheVariants.{Kernel, Agent, BarrierAnd, BarrierOr}
use Rattle.assemble.specs.declared.operands.Sizes.{Sizes}
use Rattle.assemble.specs.declared.options.Options.{Options}
use Rattle.words.specs.Bytes.{text_of_bytes}

-- the null address
abbrev pub nowhere : Address
nowhere = record { 0 = 0 }

-- `dispatch`: a kernel over a grid, in work-groups of a size, with so many bytes of group memory
abbrev pub dispatch_packet : KernelObject → (grid group : Sizes) → ℕ → Options → Packet
dispatch_packet kernel grid group group_bytes said = Kernel (record {
  header = said.header;
  dimensions = grid.count;
  workgroup_size_x = group.x;
  workgroup_size_y = group.y;
  workgroup_size_z = group.z;
  grid_size_x = grid.x;
  grid_size_y = grid.y;
  grid_size_z = grid.z;
  private_segment_size = said.private_bytes;
  group_segment_size = group_bytes;
  kernel_object = kernel;
  kernarg_address = unwrap_or said.block nowhere;
  completion_signal = said.completion;
})

-- a call of an agent's function by its number
abbrev pub agent_packet : ℕ → List ℕ → Options → Packet
agent_packet function arguments said = Agent (record {
  header = said.header;
  function = function;
  return_address = said.result;
  arguments = arguments;
  completion_signal = said.completion;
})

-- `fill`: FILL, 0x8000, of so many bytes from an address on
abbrev pub fill_packet : Address → (length value : ℕ) → Options → Packet
fill_packet start length value said = agent_packet 32768 (start.0 ∷ length ∷ value ∷ 0 ∷ []) said

-- `copy`: COPY, 0x8001, of so many bytes
abbrev pub copy_packet : (from to : Address) → ℕ → Options → Packet
copy_packet from to length said = agent_packet 32769 (from.0 ∷ to.0 ∷ length ∷ 0 ∷ []) said

-- `add`: ADD64, 0x8002, of an amount to the number at an address
abbrev pub add_packet : ℕ → Address → Options → Packet
add_packet amount to said = agent_packet 32770 (to.0 ∷ amount ∷ 0 ∷ 0 ∷ []) said

-- a barrier packet on some signals
abbrev pub barrier_of : List SignalHandle → Options → Barrier
barrier_of dependencies said =
    record { header = said.header; dependencies = dependencies; completion_signal = said.completion }

-- `all-of`: barrier-AND
abbrev pub all_of_packet : List SignalHandle → Options → Packet
all_of_packet dependencies said = BarrierAnd (barrier_of dependencies said)

-- `any-of`: barrier-OR
abbrev pub any_of_packet : List SignalHandle → Options → Packet
any_of_packet dependencies said = BarrierOr (barrier_of dependencies said)

-- a line that submits a packet of these bytes to a queue, as a producer
abbrev pub submit_line : (queue producer bytes : List ℕ) → List ℕ
submit_line queue producer bytes =
    (codes "submit" ++ 32 ∷ []) ++ (queue ++ 32 ∷ []) ++ (producer ++ 32 ∷ []) ++ text_of_bytes bytes ++ 10 ∷ []

-- behind a text comes the line that submits a packet: its digits are those of the bytes that lay the packet out
abbrev pub Submits : (queue producer : List ℕ) → Packet → (before after : List ℕ) → Type 0
Submits queue producer packet before after =
    (bytes : List ℕ) × PacketOf bytes packet × (after ≡ before ++ submit_line queue producer bytes)
