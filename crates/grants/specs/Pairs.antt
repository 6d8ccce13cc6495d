-- Rights of a client, named by a list.
use Rattle.std.specs.Prelude.{Bool, List}
use Rattle.std.specs.List.{list_any}
use Rattle.aql_packet.specs.declared.ids.ClientId.{ClientId}
use Rattle.policy.specs.declared.object.Object.{Object}
use Rattle.policy.specs.declared.rights.Right.{Right}
use Rattle.policy.specs.declared.rights.Rights.{Rights}
pub use Rattle.policy.specs.Pairs.{same_pair, is_one_of}

-- the right is one of those that the list names, for this client
abbrev pub is_named : List (Object × Rights) → ClientId → ClientId → Object → Right → Bool
is_named rights named_client client object right = list_any (λ named. is_one_of client object right named_client named.0 named.1) rights
