-- What the load grants: all that a policy allows (own).
use Rattle.std.specs.Prelude.{◌≡◌, ℕ, ◌<◌, ◌≤◌, true, List, [], ◌∷◌, ◌++◌, Err, ⊤}
use Rattle.aql_packet.specs.declared.ids.ClientId.{ClientId}
use Rattle.policy.specs.declared.object.Kind.{Kind}
use Rattle.policy.specs.declared.object.Object.{Object}
use Rattle.policy.specs.declared.rights.Right.{Right}
use Rattle.policy.specs.declared.rights.Rights.{Rights}
use Rattle.policy.specs.Object.{object_of}
use Rattle.policy.specs.Policy.{Declared, rules_of}
use Rattle.policy.specs.Rights.{has}
use Rattle.policy.specs.Rules.{count, knows_client, knows_object, rows_allow}
use Rattle.core_model.specs.declared.call.Call.TheVariants.{Grant}
use Rattle.core_model.specs.declared.entry.Entry.{Entry}
use Rattle.core_model.specs.declared.event.Event.{Event}
use Rattle.core_model.specs.declared.event.Event.TheVariants.{Call}
use Rattle.core_model.specs.declared.refusal.Refusal.{Refusal}
use Rattle.core_model.specs.Grants.{in_force}
use Rattle.core_model.specs.History.{History, beginning}
use Rattle.core_model.specs.Legal.{Meets}

-- an event grants a client on an object just what a policy's rows allow it there (own)
abbrev pub IsGrant : Declared → Event → Type 0
IsGrant policy (Call (Grant client on rights)) = (right : Right) → has rights right ≡ rows_allow policy.rows client on right
IsGrant policy _ = ⊥

-- each of these entries tells of such a grant (own)
abbrev pub AllGrant : Declared → List Entry → Type 0
AllGrant policy [] = ⊤
AllGrant policy (entry ∷ entries) = IsGrant policy entry.event × AllGrant policy entries

-- grants of just what the declared policy allows were entered, and all else stays (own)
pub record AddsGrants (old new : History) : Type 0 where
  pub more : List Entry
  pub grants : AllGrant old.origin.policy more
  pub history : new ≡ record old { entries = old.entries ++ more }

-- each right that the declared policy allows a client on an object is in force (own)
abbrev pub HasAllowed : History → ClientId → Object → Type 0
HasAllowed history client on =
    (right : Right) → rows_allow history.origin.policy.rows client on right ≡ true → in_force (beginning history) history.entries client on right ≡ true

-- so it is on the first objects of a kind, so many (own)
abbrev pub HasAllowedOn : History → ClientId → Kind → ℕ → Type 0
HasAllowedOn history client kind most = (number : ℕ) → 0 < number → number ≤ most → HasAllowed history client (object_of kind number)

-- on each declared object (own)
abbrev pub HasAllowedOnAll : History → ClientId → Type 0
HasAllowedOnAll history client = (on : Object) → knows_object (rules_of history.origin.policy) on ≡ true → HasAllowed history client on

-- of each declared client (own)
abbrev pub HasAllAllowed : History → Type 0
HasAllAllowed history = (client : ClientId) → knows_client (rules_of history.origin.policy) client ≡ true → HasAllowedOnAll history client

-- a grant of just what the declared policy allows a client on an object is refused, as the core refuses it (own)
pub record IsRefusedGrant (history : History) (why : Refusal) : Type 0 where
  pub client : ClientId
  pub on : Object
  pub rights : Rights
  pub allowed : (right : Right) → has rights right ≡ rows_allow history.origin.policy.rows client on right
  pub met : Meets (Call (Grant client on rights)) history history (Err why)
