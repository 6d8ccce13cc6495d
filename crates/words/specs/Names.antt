-- The names that a policy declares (own).
use Rattle.std.specs.Prelude.{ℕ, List, [], unwrap_or}
use Rattle.aql_packet.specs.declared.ids.ClientId.{ClientId}
use Rattle.policy.specs.declared.object.Object.{Object}
use Rattle.policy.specs.Policy.{Declared, name_in, numbered}

-- the name of a client, or nothing where the policy has none of that number
abbrev pub name_of_client : Declared → ClientId → List ℕ
name_of_client policy client = unwrap_or (numbered policy.clients client.0) []

-- the name of an object, or nothing where the policy has none of that number
abbrev pub name_of_object : Declared → Object → List ℕ
name_of_object policy object = unwrap_or (name_in policy object) []
