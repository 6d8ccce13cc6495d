-- What of one table, and of one list of holds, another has too.
use Rattle.std.specs.Prelude.{◌≡◌, Bool, true, not, ◌||◌, List}
use Rattle.std.specs.List.{list_all}
use Rattle.aql_packet.specs.declared.ids.ClientId.{ClientId}
use Rattle.aql_packet.specs.declared.ids.QueueId.{QueueId}
use Rattle.aql_packet.specs.declared.ids.PacketId.{PacketId}
use Rattle.policy.specs.declared.object.Object.{Object}
use Rattle.policy.specs.declared.rights.Right.{Right}
use Rattle.policy.specs.Rights.{all_rights, each_right}
use Rattle.grants.specs.declared.hold.Hold.{Hold}
use Rattle.grants.specs.Cells.{Table, in_table}
use Rattle.grants.specs.Holds.{is_held}

-- at the clients and objects that pass the test, what is in force in the one is in force in the other
abbrev pub IsIncluded : (ClientId → Object → Bool) → Table → Table → Type 0
IsIncluded test table other = (client : ClientId) (object : Object) (right : Right) → test client object ≡ true
    → in_table table client object right ≡ true → in_table other client object right ≡ true

-- the same of one client and object, as a test
abbrev pub is_included : Table → Table → ClientId → Object → Bool
is_included table other client object = list_all (λ right. not (in_table table client object right) || in_table other client object right) all_rights

-- what is held by the one list is held by the other
abbrev pub AreHeldToo : List Hold → List Hold → Type 0
AreHeldToo list other = (queue : QueueId) (packet : PacketId) (client : ClientId) (object : Object) (right : Right)
    → is_held list queue packet client object right ≡ true → is_held other queue packet client object right ≡ true

-- the rights of one hold are held by a list
abbrev pub has_hold : List Hold → Hold → Bool
has_hold other hold = each_right hold.rights (is_held other hold.queue hold.packet hold.client hold.object)
