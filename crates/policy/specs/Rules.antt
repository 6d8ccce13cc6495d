-- The rules of a policy, by which rights are granted: how many clients and objects there are, and the allow and deny rows.
use Rattle.std.specs.Prelude.{ℕ, Bool, true, not, ◌&&◌, ◌==◌, nat_lt, nat_le}
use Rattle.std.specs.List.{list_any}
use Rattle.aql_packet.specs.declared.ids.ClientId.{ClientId}
use Rattle.policy.specs.declared.object.Kind.{Kind}
use Rattle.policy.specs.declared.object.Kind.TheVariants as kind
use Rattle.policy.specs.declared.object.Object.{Object}
use Rattle.policy.specs.declared.rights.Right.{Right}
use Rattle.policy.specs.declared.rights.Rights.{Rights}
use Rattle.policy.specs.declared.row.Grantee.{Grantee}
use Rattle.policy.specs.declared.row.Grantee.TheVariants as subject
use Rattle.policy.specs.declared.row.Target.{Target}
use Rattle.policy.specs.declared.row.Target.TheVariants as target
use Rattle.policy.specs.declared.row.RightsRow.{RightsRow}
use Rattle.policy.specs.declared.rows.PolicyRows.{PolicyRows}
use Rattle.policy.specs.Object.{kind_of, number_of, same_kind, same_object}
use Rattle.policy.specs.Rights.{has, each_right}

-- What tells of a policy who and what is declared, and what is allowed: its numbers of clients and of objects of each kind, and its
-- rows on rights. Grants keep no more of it.
pub record Rules : Type 0 where
  pub clients : ℕ
  pub agents : ℕ
  pub regions : ℕ
  pub signals : ℕ
  pub kernels : ℕ
  pub rows : PolicyRows

-- how many objects of a kind there are
abbrev pub count : Rules → Kind → ℕ
count rules kind.Agent = rules.agents
count rules kind.Region = rules.regions
count rules kind.Signal = rules.signals
count rules kind.Kernel = rules.kernels

-- the client is declared
abbrev pub knows_client : Rules → ClientId → Bool
knows_client rules client = nat_lt 0 client.0 && nat_le client.0 rules.clients

-- the object is declared
abbrev pub knows_object : Rules → Object → Bool
knows_object rules object = nat_lt 0 (number_of object) && nat_le (number_of object) (count rules (kind_of object))

-- a row is for the client
abbrev pub is_for : Grantee → ClientId → Bool
is_for subject.Any client = true
is_for (subject.One named) client = named.0 == client.0

-- a row is on the object
abbrev pub is_on : Target → Object → Bool
is_on (target.Any kind) object = same_kind kind (kind_of object)
is_on (target.One named) object = same_object named object

-- the row covers the client, the object and the right
abbrev pub covers_right : ClientId → Object → Right → RightsRow → Bool
covers_right client object right row = (is_for row.subject client && is_on row.target object) && has row.rights right

-- what rows allow: some allow row covers it, and no deny row does (own)
abbrev pub rows_allow : PolicyRows → ClientId → Object → Right → Bool
rows_allow rows client object right =
    list_any (covers_right client object right) rows.allows && not (list_any (covers_right client object right) rows.denies)

-- the right is allowed to the client on the object
abbrev pub is_allowed : Rules → ClientId → Object → Right → Bool
is_allowed rules client object right = rows_allow rules.rows client object right

-- each right of the set is allowed
abbrev pub are_allowed : Rules → ClientId → Object → Rights → Bool
are_allowed rules client object rights = each_right rights (is_allowed rules client object)
