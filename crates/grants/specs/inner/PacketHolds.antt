-- The holds of one packet in the list, and which of them stand against a revocation.
use Rattle.std.specs.Prelude.{Bool, ◌&&◌, List}
use Rattle.std.specs.List.{list_any}
use Rattle.aql_packet.specs.declared.ids.ClientId.{ClientId}
use Rattle.aql_packet.specs.declared.ids.QueueId.{QueueId}
use Rattle.aql_packet.specs.declared.ids.PacketId.{PacketId}
use Rattle.policy.specs.declared.object.Object.{Object}
use Rattle.policy.specs.declared.rights.Rights.{Rights}
use Rattle.policy.specs.Rights.{has, all_rights}
use Rattle.grants.specs.declared.hold.Hold.{Hold}
use Rattle.grants.specs.Holders.{same_packet}
use Rattle.grants.specs.Holds.{is_on}

-- the hold is of the packet
abbrev pub is_of : QueueId → PacketId → Hold → Bool
is_of queue packet hold = same_packet hold.queue hold.packet queue packet

-- the hold of a packet on an object
abbrev pub hold_of : QueueId → PacketId → ClientId → Object × Rights → Hold
hold_of queue packet client rights =
    record { queue = queue; packet = packet; client = client; object = rights.0; rights = rights.1 }

-- two sets have a right in common
abbrev pub have_common_right : Rights → Rights → Bool
have_common_right a b = list_any (λ right. has a right && has b right) all_rights

-- the packet holds one of the client's rights on the object
abbrev pub holds_one : List Hold → ClientId → Object → Rights → QueueId → PacketId → Bool
holds_one holds client object rights queue packet = list_any (λ hold. is_on queue packet client object hold && have_common_right rights hold.rights) holds
