-- A packet that is asked to be launched.
use Rattle.aql_packet.specs.declared.ids.AgentHandle.{AgentHandle}
use Rattle.aql_packet.specs.declared.packet.Packet.{Packet}

-- a packet for an agent: what it needs follows from both (own)
pub record AskedPacket : Type 0 where
  pub agent : AgentHandle
  pub packet : Packet
