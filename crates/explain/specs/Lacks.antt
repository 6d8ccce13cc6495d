-- What a client lacks, told from what was granted to it and from what the rows in force allow it, and from nothing of another client.
use Rattle.std.specs.Prelude.{Bool, List, fold, Option, Some, None, if◌then◌else◌}
use Rattle.aql_packet.specs.declared.ids.ClientId.{ClientId}
use Rattle.policy.specs.declared.object.Object.{Object}
use Rattle.policy.specs.declared.rights.Right.{Right}
use Rattle.policy.specs.declared.rows.PolicyRows.{PolicyRows}
use Rattle.policy.specs.Rules.{rows_allow}
use Rattle.core_model.specs.declared.entry.Entry.{Entry}
use Rattle.grants.specs.Ledger as ledger
use Rattle.core_model.specs.declared.origin.Origin.{Origin}
use Rattle.core_model.specs.Grants.{in_force, in_force_after}
use Rattle.core_model.specs.History.{History, beginning}
use Rattle.core_model.specs.Policies.{rows_at}
use Rattle.explain.specs.declared.lacks.Lack.{Lack}

-- whether a client's right on an object was in force, by what a history begins from and its first entries (own)
abbrev pub in_force_since : Origin → List Entry → ClientId → Object → Right → Bool
in_force_since start entries client object right =
    fold (λ before entry. in_force_after client object right before entry.event) (ledger.in_force start.grants client object right) entries

-- the right on an object, as one that the client lacks, with whether the rows allow it (own)
abbrev pub lacked : PolicyRows → ClientId → Object → Right → Lack
lacked rows client object right =
    record { client = client; object = object; right = right; is_allowed = rows_allow rows client object right }

-- the right that the client lacks, if it isn't in force (own)
abbrev pub lack_of : History → ClientId → Object → Right → Option Lack
lack_of history client object right =
    if in_force (beginning history) history.entries client object right then None
    else Some (lacked (rows_at (beginning history) history.entries) client object right)
