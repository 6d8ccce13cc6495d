-- Rights of a client on an object, named by a call.
use Rattle.std.specs.Prelude.{Bool, ◌&&◌, ◌==◌}
use Rattle.aql_packet.specs.declared.ids.ClientId.{ClientId}
use Rattle.policy.specs.declared.object.Object.{Object}
use Rattle.policy.specs.declared.rights.Right.{Right}
use Rattle.policy.specs.declared.rights.Rights.{Rights}
use Rattle.policy.specs.Object.{same_object}
use Rattle.policy.specs.Rights.{has}

-- the client and the object are these
abbrev pub same_pair : ClientId → Object → ClientId → Object → Bool
same_pair client object client' object' = client.0 == client'.0 && same_object object object'

-- the right is one of some rights of a client on an object
abbrev pub is_one_of : ClientId → Object → Right → ClientId → Object → Rights → Bool
is_one_of client object right named_client named_object rights = same_pair client object named_client named_object && has rights right
