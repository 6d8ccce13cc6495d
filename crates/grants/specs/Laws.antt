-- What any list of calls leaves: the rights that were granted and neither revoked nor denied since, and the holds that weren't released
-- since.
use Rattle.std.specs.Prelude.{◌≡◌, Bool, true, false, not, ◌&&◌, ◌||◌, List, [], ◌∷◌, map, fold, None, Ok}
use Rattle.aql_packet.specs.declared.ids.ClientId.{ClientId}
use Rattle.aql_packet.specs.declared.ids.QueueId.{QueueId}
use Rattle.aql_packet.specs.declared.ids.PacketId.{PacketId}
use Rattle.policy.specs.declared.object.Object.{Object}
use Rattle.policy.specs.declared.rights.Right.{Right}
use Rattle.policy.specs.declared.rights.Rights.{Rights}
use Rattle.policy.specs.declared.rows.PolicyRows.{PolicyRows}
use Rattle.policy.specs.Listing.{all_objects, listing_by}
use Rattle.policy.specs.Rules.{count, rows_allow}
use Rattle.grants.specs.Pairs.{is_one_of, is_named}
use Rattle.grants.specs.Holders.{same_packet}
use Rattle.grants.specs.Ledger.{Ledger, rules_in, in_force, holds, IsNew, PutsInForce, TakesOutOfForce, Holds, Releases, Reloads, grant_due, RevokeAnswers, are_in_force, IsBlockedBy, listing}

-- a call that was made; one that is refused leaves all as it was, and stands in no list
pub data Call : Type 0 where
  Grant : ClientId → Object → Rights → Call
  Revoke : ClientId → Object → Rights → Call
  Hold : ClientId → QueueId → PacketId → List (Object × Rights) → Call
  Release : QueueId → PacketId → Call
  -- who holds a right that these rows don't allow; it changes nothing
  FindBlocked : PolicyRows → Call
  Reload : PolicyRows → Call

-- a call may be made, and leads from the one to the other
abbrev pub LeadsTo : Ledger → Call → Ledger → Type 0
LeadsTo old (Grant client object rights) new = (grant_due old client object rights ≡ Ok tt) × PutsInForce old new client object rights
LeadsTo old (Revoke client object rights) new = RevokeAnswers old client object rights (Ok tt) × TakesOutOfForce old new client object rights
LeadsTo old (Hold client queue packet rights) new = (are_in_force old client rights ≡ true) × Holds old new client queue packet rights
LeadsTo old (Release queue packet) new = Releases old new queue packet
LeadsTo old (FindBlocked rows) new = new ≡ old
LeadsTo old (Reload rows) new = IsBlockedBy old rows None × Reloads old new rows

-- calls that are made one after another, each with what it leads to
abbrev pub AreMade : Ledger → List (Call × Ledger) → Type 0
AreMade old [] = Unit {0}
AreMade old (step ∷ steps) = LeadsTo old step.0 step.1 × AreMade step.1 steps

-- what they lead to
abbrev pub last_ledger : Ledger → List (Call × Ledger) → Ledger
last_ledger old [] = old
last_ledger old (step ∷ steps) = last_ledger step.1 steps

-- the client's right on the object was granted, and neither revoked nor denied by other rows since
abbrev pub in_force_after : ClientId → Object → Right → Bool → Call → Bool
in_force_after client object right before (Grant client' object' rights) = before || is_one_of client object right client' object' rights
in_force_after client object right before (Revoke client' object' rights) = before && not (is_one_of client object right client' object' rights)
in_force_after client object right before (Reload rows) = before && rows_allow rows client object right
in_force_after client object right before _ = before

-- the packet came to hold the right and wasn't released since
abbrev pub holds_after : QueueId → PacketId → ClientId → Object → Right → Bool → Call → Bool
holds_after queue packet client object right before (Hold client' queue' packet' rights) =
    before || (same_packet queue packet queue' packet' && is_named rights client' client object right)
holds_after queue packet client object right before (Release queue' packet') = before && not (same_packet queue packet queue' packet')
holds_after queue packet client object right before _ = before

-- the rows by which grants are allowed: those of the last reload
abbrev pub rows_after : PolicyRows → Call → PolicyRows
rows_after before (Reload rows) = rows
rows_after before _ = before

-- After any list of calls from the beginning:
pub record IsAfterCalls (first last : Ledger) (calls : List Call) : Type 0 where
  -- in force is what was granted, and neither revoked nor denied since
  pub given : (client : ClientId) (object : Object) (right : Right) → in_force last client object right ≡ fold (in_force_after client object right) false calls
  -- listed are the objects on which there are such rights, with these rights
  pub listed : (client : ClientId) → listing last client
      ≡ listing_by (λ object right. fold (in_force_after client object right) false calls) (all_objects (count (rules_in first)))
  -- a packet holds what it came to hold, until it is released
  pub held : (queue : QueueId) (packet : PacketId) (client : ClientId) (object : Object) (right : Right)
      → holds last queue packet client object right ≡ fold (holds_after queue packet client object right) false calls
  -- a right that a packet holds is in force
  pub held_is_in_force : (queue : QueueId) (packet : PacketId) (client : ClientId) (object : Object) (right : Right)
      → holds last queue packet client object right ≡ true → in_force last client object right ≡ true
  -- what is declared is what was at the beginning, and grants are allowed by the rows of the last reload
  pub rules : rules_in last ≡ record (rules_in first) { rows = fold rows_after (rules_in first).rows calls }

abbrev pub LawOfCalls : Type 0
LawOfCalls = (first : Ledger) (steps : List (Call × Ledger)) → IsNew first → AreMade first steps → IsAfterCalls first (last_ledger first steps) (map (λ step. step.0) steps)
