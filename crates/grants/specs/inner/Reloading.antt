-- Clients and objects by tests of their numbers, and holds that stand against a reload.
use Rattle.std.specs.Prelude.{ℕ, Bool, true, not, ◌&&◌, ◌==◌, nat_le, List}
use Rattle.std.specs.List.{list_any}
use Rattle.aql_packet.specs.declared.ids.ClientId.{ClientId}
use Rattle.aql_packet.specs.declared.ids.QueueId.{QueueId}
use Rattle.aql_packet.specs.declared.ids.PacketId.{PacketId}
use Rattle.policy.specs.declared.object.Kind.{Kind}
use Rattle.policy.specs.declared.object.Object.{Object}
use Rattle.policy.specs.declared.rows.PolicyRows.{PolicyRows}
use Rattle.policy.specs.Object.{kind_of, number_of, same_kind}
use Rattle.policy.specs.Rights.{each_right}
use Rattle.policy.specs.Rules.{rows_allow}
use Rattle.grants.specs.declared.hold.Hold.{Hold}
use Rattle.grants.specs.Holders.{same_packet}

-- the client's objects of a kind, up to a number
abbrev pub of_kind_up_to : ClientId → Kind → ℕ → ClientId → Object → Bool
of_kind_up_to client kind last client' object = (client'.0 == client.0) && (same_kind (kind_of object) kind && nat_le (number_of object) last)

-- the client's objects of a kind, and all of its objects
abbrev pub of_kind : ClientId → Kind → ClientId → Object → Bool
of_kind client kind client' object = (client'.0 == client.0) && same_kind (kind_of object) kind

abbrev pub of_client : ClientId → ClientId → Object → Bool
of_client client client' object = client'.0 == client.0

-- the objects of the clients up to a number, and of all
abbrev pub of_clients_up_to : ℕ → ClientId → Object → Bool
of_clients_up_to last client object = nat_le client.0 last

abbrev pub of_all : ClientId → Object → Bool
of_all client object = true

-- a hold has a right that rows don't allow
abbrev pub is_denied : PolicyRows → Hold → Bool
is_denied rows hold = not (each_right hold.rights (rows_allow rows hold.client hold.object))

-- a packet has a hold of such a right
abbrev pub has_denied : PolicyRows → List Hold → QueueId → PacketId → Bool
has_denied rows holds queue packet = list_any (λ hold. same_packet queue packet hold.queue hold.packet && is_denied rows hold) holds
