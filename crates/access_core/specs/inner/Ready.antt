-- What is there before an audit is emptied, so that it takes no memory: what was told of packets when it was emptied last, and room for
-- those that were launched since (own).
use Rattle.std.specs.Prelude.{◌≡◌, ◌+◌, ◌<◌, ◌≤◌, ℕ, All, Some, List, filter, length, nat_le, false}
use Rattle.aql_packet.specs.Ids.{same_packet}
use Rattle.aql_packet.specs.declared.ids.PacketId.{PacketId}
use Rattle.aql_packet.specs.declared.ids.QueueId.{QueueId}
use Rattle.core_model.specs.History.{packet_in}
use Rattle.core_model.specs.declared.origin.Origin.{Origin}
use Rattle.core_model.specs.declared.origin.PacketOrigin.{PacketOrigin}
use Rattle.access_core.specs.declared.argument_blocks.ArgumentBlock.{ArgumentBlock}
use Rattle.access_core.specs.declared.fresh.Fresh.{Fresh}

-- the blocks of launches from a number on
abbrev pub later : ℕ → List ArgumentBlock → List ArgumentBlock
later from blocks = filter (λ (block : ArgumentBlock). nat_le from block.number) blocks

-- What a packet was given is told of it.
pub record IsTold (packets : List PacketOrigin) (block : ArgumentBlock) : Type 0 where
  pub told : PacketOrigin
  pub found : packet_in packets block.queue block.packet ≡ Some told
  pub client : told.client ≡ block.client
  pub rights : told.rights ≡ block.rights
  pub arguments : told.arguments ≡ block.bytes

-- it is, of a packet that was launched before a number
abbrev pub WasTold : ℕ → List PacketOrigin → ArgumentBlock → Type 0
WasTold told packets block = block.number < told → IsTold packets block

-- what a packet was given fits into the room for one
abbrev pub Fits : Fresh → ArgumentBlock → Type 0
Fits fresh block = (length block.rights ≤ fresh.rights.each) × (length block.bytes ≤ fresh.bytes.each)

-- there is room for so many packets
abbrev pub HasLists : Fresh → ℕ → Type 0
HasLists fresh count = (count ≤ fresh.rights.lists) × (count ≤ fresh.bytes.lists)

-- there is room for what a packet was given
abbrev pub HasRoomFor : Fresh → ArgumentBlock → Type 0
HasRoomFor fresh block = HasLists fresh 1 × Fits fresh block

-- Room for so many packets was taken at the most, and the others have as much as before.
pub record Spends (most : ℕ) (old new : Fresh) : Type 0 where
  pub rights_each : new.rights.each ≡ old.rights.each
  pub bytes_each : new.bytes.each ≡ old.bytes.each
  pub rights : old.rights.lists ≤ new.rights.lists + most
  pub bytes : old.bytes.lists ≤ new.bytes.lists + most

-- What was told of packets that were launched before a number is in the start, and for the others there is room.
pub record AreReady (fresh : Fresh) (told : ℕ) (start : Origin) (blocks : List ArgumentBlock) : Type 0 where
  pub before : told ≤ start.before
  pub were_told : All (WasTold told start.packets) blocks
  pub fit : All (Fits fresh) blocks
  pub room : HasLists fresh (length (later told blocks))

-- what is told of other packets stays
abbrev pub LeavesOthers : ArgumentBlock → List PacketOrigin → List PacketOrigin → Type 0
LeavesOthers block old new = (queue : QueueId) (id : PacketId) → same_packet block.queue block.packet queue id ≡ false → packet_in new queue id ≡ packet_in old queue id
