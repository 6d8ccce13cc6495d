-- Rights that packets hold, as a list.
use Rattle.std.specs.Prelude.{Bool, ◌&&◌, List}
use Rattle.std.specs.List.{list_any}
use Rattle.aql_packet.specs.declared.ids.ClientId.{ClientId}
use Rattle.aql_packet.specs.declared.ids.QueueId.{QueueId}
use Rattle.aql_packet.specs.declared.ids.PacketId.{PacketId}
use Rattle.policy.specs.declared.object.Object.{Object}
use Rattle.policy.specs.declared.rights.Right.{Right}
use Rattle.policy.specs.Rights.{has}
use Rattle.grants.specs.declared.hold.Hold.{Hold}
use Rattle.grants.specs.Pairs.{same_pair}
use Rattle.grants.specs.Holders.{same_packet}

-- the hold is of the packet, on the client's object
abbrev pub is_on : QueueId → PacketId → ClientId → Object → Hold → Bool
is_on queue packet client object hold = same_packet queue packet hold.queue hold.packet && same_pair client object hold.client hold.object

-- the hold is of the packet, and has the client's right on the object
abbrev pub is_hold : QueueId → PacketId → ClientId → Object → Right → Hold → Bool
is_hold queue packet client object right hold = is_on queue packet client object hold && has hold.rights right

-- the packet holds the client's right on the object
abbrev pub is_held : List Hold → QueueId → PacketId → ClientId → Object → Right → Bool
is_held holds queue packet client object right = list_any (is_hold queue packet client object right) holds
