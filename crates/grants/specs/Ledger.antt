-- Grants as contracts see them: what is in force, and which packet holds what, by look-ups that hide how they are kept.
use Rattle.std.specs.Prelude.{◌≡◌, ◌+◌, ◌≤◌, Bool, true, false, not, ◌&&◌, ◌||◌, ℕ, List, length, Option, None, Some, Result, Ok, Err, if◌then◌else◌}
use Rattle.std.specs.List.{list_any, list_all}
use Rattle.aql_packet.specs.declared.ids.ClientId.{ClientId}
use Rattle.aql_packet.specs.declared.ids.QueueId.{QueueId}
use Rattle.aql_packet.specs.declared.ids.PacketId.{PacketId}
use Rattle.policy.specs.declared.object.Object.{Object}
use Rattle.policy.specs.declared.rights.Right.{Right}
use Rattle.policy.specs.declared.rights.Rights.{Rights}
use Rattle.policy.specs.declared.rows.PolicyRows.{PolicyRows}
use Rattle.policy.specs.Listing.{all_objects, listing_by}
use Rattle.policy.specs.Rights.{has, all_rights, each_right, rights_that}
use Rattle.grants.specs.declared.refusal.GrantRefusal.{GrantRefusal}
use Rattle.grants.specs.declared.refusal.GrantRefusal.TheVariants.{NotAllowed, Busy, UnknownObject, UnknownClient}
use Rattle.grants.specs.declared.hold.Hold.{Hold}
use Rattle.policy.specs.Rules.{Rules, count, knows_client, knows_object, are_allowed, rows_allow}
use Rattle.grants.specs.Pairs.{is_one_of, is_named}
use Rattle.grants.specs.Holders.{same_packet, IsFirstTo, IsUpTo}
use Rattle.grants.specs.Holds.{is_held}
use Rattle.grants.specs.Cells.{Table, in_table}

-- The table of rights, the list of holds, and the room for further ones. Clauses read them by the look-ups below.
pub record Ledger : Type 0 where
  pub table : Table
  pub list : List Hold
  -- how many further objects' rights can come to be held without taking memory
  pub room : ℕ

-- what the policy declares and allows
abbrev pub rules_in : Ledger → Rules
rules_in grants = grants.table.rules

-- how many places for holds there are, taken and free: as many as memory was taken for
abbrev pub places : Ledger → ℕ
places grants = length grants.list + grants.room

-- whether a client's right on an object is in force
abbrev pub in_force : Ledger → ClientId → Object → Right → Bool
in_force grants client object right = in_table grants.table client object right

-- whether a packet, of a queue of a client, holds a right on an object
abbrev pub holds : Ledger → QueueId → PacketId → ClientId → Object → Right → Bool
holds grants queue packet client object right = is_held grants.list queue packet client object right

-- the rights of the client on the object
abbrev pub rights_on : Ledger → ClientId → Object → Rights
rights_on grants client object = rights_that (in_force grants client object)

-- each right that the list names is in force for the client
abbrev pub are_in_force : Ledger → ClientId → List (Object × Rights) → Bool
are_in_force grants client rights = list_all (λ named. each_right named.1 (in_force grants client named.0)) rights

-- the packet, of a queue of the client, holds one of the rights on the object
abbrev pub is_holder : Ledger → ClientId → Object → Rights → QueueId → PacketId → Bool
is_holder grants client object rights queue packet = list_any (λ right. has rights right && holds grants queue packet client object right) all_rights

-- ---- changes

-- nothing is in force and nothing is held
pub record IsNew (grants : Ledger) : Type 0 where
  pub none_in_force : (client : ClientId) (object : Object) (right : Right) → in_force grants client object right ≡ false
  pub none_held : (queue : QueueId) (packet : PacketId) (client : ClientId) (object : Object) (right : Right) → holds grants queue packet client object right ≡ false

-- the same rights are in force
abbrev pub SameRights : Ledger → Ledger → Type 0
SameRights old new = (client : ClientId) (object : Object) (right : Right) → in_force new client object right ≡ in_force old client object right

-- the same rights are held
abbrev pub SameHolds : Ledger → Ledger → Type 0
SameHolds old new = (queue : QueueId) (packet : PacketId) (client : ClientId) (object : Object) (right : Right)
    → holds new queue packet client object right ≡ holds old queue packet client object right

-- the rights of the client on the object came into force, and nothing else changed
pub record PutsInForce (old new : Ledger) (client : ClientId) (object : Object) (rights : Rights) : Type 0 where
  pub given : (client' : ClientId) (object' : Object) (right : Right)
      → in_force new client' object' right ≡ (in_force old client' object' right || is_one_of client' object' right client object rights)
  pub same_rules : rules_in new ≡ rules_in old
  pub same_holds : SameHolds old new
  pub same_room : new.room ≡ old.room
  pub same_places : places new ≡ places old

-- the rights of the client on the object went out of force, and nothing else changed
pub record TakesOutOfForce (old new : Ledger) (client : ClientId) (object : Object) (rights : Rights) : Type 0 where
  pub taken : (client' : ClientId) (object' : Object) (right : Right)
      → in_force new client' object' right ≡ (in_force old client' object' right && not (is_one_of client' object' right client object rights))
  pub same_rules : rules_in new ≡ rules_in old
  pub same_holds : SameHolds old new
  pub same_room : new.room ≡ old.room
  pub same_places : places new ≡ places old

-- the packet holds, beside what it held, all rights that the list names; nothing else changed
pub record Holds (old new : Ledger) (client : ClientId) (queue : QueueId) (packet : PacketId) (rights : List (Object × Rights)) : Type 0 where
  pub held : (queue' : QueueId) (packet' : PacketId) (client' : ClientId) (object' : Object) (right : Right)
      → holds new queue' packet' client' object' right
      ≡ (holds old queue' packet' client' object' right || (same_packet queue' packet' queue packet && is_named rights client client' object' right))
  pub same_rules : rules_in new ≡ rules_in old
  pub same_rights : SameRights old new

-- the packet holds nothing, and nothing else changed; room is never lost, and none is got
pub record Releases (old new : Ledger) (queue : QueueId) (packet : PacketId) : Type 0 where
  pub released : (queue' : QueueId) (packet' : PacketId) (client' : ClientId) (object' : Object) (right : Right)
      → holds new queue' packet' client' object' right
      ≡ (holds old queue' packet' client' object' right && not (same_packet queue' packet' queue packet))
  pub same_rules : rules_in new ≡ rules_in old
  pub same_rights : SameRights old new
  pub room : old.room ≤ new.room
  pub same_places : places new ≡ places old

-- what these rows don't allow went out of force, and from then on they decide what is allowed; nothing else changed
pub record Reloads (old new : Ledger) (rows : PolicyRows) : Type 0 where
  pub kept : (client : ClientId) (object : Object) (right : Right)
      → in_force new client object right ≡ (in_force old client object right && rows_allow rows client object right)
  pub rules : rules_in new ≡ record (rules_in old) { rows = rows }
  pub same_holds : SameHolds old new
  pub same_room : new.room ≡ old.room
  pub same_places : places new ≡ places old

-- ---- answers

-- a grant is refused by the first of these that stands, and made where none does
abbrev pub grant_due : Ledger → ClientId → Object → Rights → Result (Unit {0}) GrantRefusal
grant_due grants client object rights =
    if not (knows_client (rules_in grants) client) then Err UnknownClient
    else if not (knows_object (rules_in grants) object) then Err UnknownObject
    else if not (are_allowed (rules_in grants) client object rights) then Err NotAllowed
    else Ok tt

-- a revocation's answer: a client or an object that isn't declared is told first, then the least of the packets that hold one of the
-- rights; the revocation is made where none does
abbrev pub RevokeAnswers : Ledger → ClientId → Object → Rights → Result (Unit {0}) GrantRefusal → Type 0
RevokeAnswers grants client object rights (Err UnknownClient) = knows_client (rules_in grants) client ≡ false
RevokeAnswers grants client object rights (Err UnknownObject) = (knows_client (rules_in grants) client ≡ true) × (knows_object (rules_in grants) object ≡ false)
RevokeAnswers grants client object rights (Err NotAllowed) = ⊥
RevokeAnswers grants client object rights (Err (Busy queue packet)) =
    (knows_client (rules_in grants) client ≡ true) × (knows_object (rules_in grants) object ≡ true)
    × IsFirstTo (is_holder grants client object rights) (Some (queue, packet))
RevokeAnswers grants client object rights (Ok x) =
    (knows_client (rules_in grants) client ≡ true) × (knows_object (rules_in grants) object ≡ true) × IsFirstTo (is_holder grants client object rights) None

-- the packet holds a right that these rows don't allow the client of its queue
pub record HoldsDenied (grants : Ledger) (rows : PolicyRows) (queue : QueueId) (packet : PacketId) : Type 0 where
  pub client : ClientId
  pub object : Object
  pub right : Right
  pub held : holds grants queue packet client object right ≡ true
  pub denied : rows_allow rows client object right ≡ false

-- the first packet that does, over all clients; none where these rows allow all that is held
abbrev pub IsBlockedBy : Ledger → PolicyRows → Option (QueueId × PacketId) → Type 0
IsBlockedBy grants rows None = (queue : QueueId) (packet : PacketId) (client : ClientId) (object : Object) (right : Right)
    → holds grants queue packet client object right ≡ true → rows_allow rows client object right ≡ true
IsBlockedBy grants rows (Some first) =
    HoldsDenied grants rows first.0 first.1 × ((queue : QueueId) (packet : PacketId) → HoldsDenied grants rows queue packet → IsUpTo first.0 first.1 queue packet)

-- these rows allow all that is in force
abbrev pub AllowsInForce : Ledger → PolicyRows → Type 0
AllowsInForce grants rows = (client : ClientId) (object : Object) (right : Right) → in_force grants client object right ≡ true → rows_allow rows client object right ≡ true

-- ---- the same grants

-- the copy has the same in force and held, and the same rules; only the room for further holds may be another
abbrev pub IsCopy : Ledger → Ledger → Type 0
IsCopy grants copy = copy ≡ record grants { room = copy.room }

-- two have the same in force, and the same packets hold the same
pub record SameGrants (grants other : Ledger) : Type 0 where
  pub in_force : SameRights grants other
  pub held : SameHolds grants other

-- ---- listing

-- the objects on which the client has a right in force, with its rights: agents, regions, signals, kernels, each by number
abbrev pub listing : Ledger → ClientId → List (Object × Rights)
listing grants client = listing_by (in_force grants client) (all_objects (count (rules_in grants)))
