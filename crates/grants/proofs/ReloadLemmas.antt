-- Clients and objects by their numbers, and holds of rights that rows don't allow.
use Rattle.std.proofs.Common.{[], ◌≡◌, ℕ, ◌+◌, ◌<◌, ◌≤◌, ◌==◌, Bool, true, false, not, ◌&&◌, ◌||◌, List, ◌∷◌, take, get_or, length, Option, Some, None, refl, sym, ap, subst, ◌∙◌, arith, true≢false}
use Rattle.std.proofs.lemmas.Bool.Decides.{nat_tests}
use Rattle.policy.specs.declared.object.Kind.{Kind}
use Rattle.policy.specs.declared.object.Kind.TheVariants as kind
use Rattle.policy.specs.declared.object.Object.TheVariants as object
use Rattle.policy.specs.declared.rights.Right.TheVariants.{Use, Read, Write, Wait, Change, Launch}
use Rattle.policy.specs.declared.rows.PolicyRows.{PolicyRows}
use Rattle.policy.specs.Object.{kind_of, number_of, same_kind, same_object}
use Rattle.policy.specs.Rules.{rows_allow}
use Rattle.grants.specs.Cells.{place_of}
use Rattle.grants.specs.Ledger.{IsBlockedBy}
use Rattle.grants.specs.declared.hold.Hold.{Hold}
use Rattle.grants.specs.inner.Reloading.{of_kind_up_to, of_kind, of_client, of_clients_up_to, of_all, is_denied, has_denied}
use Rattle.grants.proofs.Terms.{ClientId, IsFirstTo, Ledger, Object, PacketId, QueueId, Right, Rights, Rules, Table, both, count, each_right, each_right-has, has, has_right, in_table, is_held, is_hold, is_on, item_at}
use Rattle.grants.proofs.Terms.{knows_client, knows_object, leb-true, list_any_more, nat_le, nat_lt, object_of, same_packet, same_pair, same_pair_is, same_pair_itself}
use Rattle.grants.proofs.PlaceLemmas.{place-Some}
use Rattle.grants.proofs.LedgerLemmas.{ledger}

-- ---- what is in force is declared

pub known-at : (table : Table) (c : ClientId) (o : Object) (right : Right) → in_table table c o right ≡ true → (knows_client table.rules c ≡ true) × (knows_object table.rules o ≡ true)
known-at table c o right h = by_place (place_of table.rules c o) refl
  where
    by_place : (at : Option ℕ) → place_of table.rules c o ≡ at → (knows_client table.rules c ≡ true) × (knows_object table.rules o ≡ true)
    by_place None is = absurd (true≢false (sym h ∙ ap (λ at. has_right right (item_at table.cells at)) is))
    by_place (Some place) is = let p = place-Some table.rules c o place is in (p.client, p.object)

-- ---- tests of keys

past : (m n : ℕ) → nat_le m (n + 1) ≡ (nat_le m n || (m == n + 1))
past m n = grind (arith, nat_tests)

spread : (c k l e : Bool) → (c && (k && (l || e))) ≡ ((c && (k && l)) || (c && (k && e)))
spread true true l e = refl
spread true false l e = refl
spread false k l e = refl

-- the objects of a kind up to a number, and the next
pub next-of_kind : (client : ClientId) (of : Kind) (n : ℕ) (c : ClientId) (o : Object)
    → of_kind_up_to client of (n + 1) c o ≡ (of_kind_up_to client of n c o || same_pair c o client (object_of of (n + 1)))
next-of_kind client of n c o = ap (λ b. (c.0 == client.0) && (same_kind (kind_of o) of && b)) (past (number_of o) n) ∙ spread (c.0 == client.0) (same_kind (kind_of o) of) (nat_le (number_of o) n) (number_of o == n + 1)
    ∙ ap (λ b. of_kind_up_to client of n c o || ((c.0 == client.0) && b)) (sym (at of))
  where
    at : (of : Kind) → same_object o (object_of of (n + 1)) ≡ (same_kind (kind_of o) of && (number_of o == n + 1))
    at kind.Agent = refl
    at kind.Region = refl
    at kind.Signal = refl
    at kind.Kernel = refl

from_one : (n m : ℕ) → (nat_lt 0 n && nat_le n m) ≡ true → (nat_le n 0 ≡ false) × (n ≤ m)
from_one n m h = let parts = both (nat_lt 0 n) (nat_le n m) h in (grind (arith, nat_tests), leb-true n m parts.1)

and-false : (a : Bool) → false ≡ (a && false)
and-false true = refl
and-false false = refl

-- no declared object has the number 0
pub none-of_kind : (rules : Rules) (client : ClientId) (of : Kind) (c : ClientId) (o : Object) → knows_object rules o ≡ true → of_kind_up_to client of 0 c o ≡ false
none-of_kind rules client of c o known =
    ap (λ b. (c.0 == client.0) && (same_kind (kind_of o) of && b)) (from_one (number_of o) (count rules (kind_of o)) known).0
    ∙ ap (λ b. (c.0 == client.0) && b) (sym (and-false (same_kind (kind_of o) of))) ∙ sym (and-false (c.0 == client.0))

-- and none a number past the last
pub all-of_kind : (rules : Rules) (client : ClientId) (of : Kind) (n : ℕ) → count rules of ≤ n → (c : ClientId) (o : Object) → knows_object rules o ≡ true → of_kind client of c o ≡ of_kind_up_to client of n c o
all-of_kind rules client of n past c o known = ap (λ b. (c.0 == client.0) && b) (at o of known past)
  where
    within : (number last : ℕ) → (nat_lt 0 number && nat_le number last) ≡ true → last ≤ n → true ≡ nat_le number n
    within number last k le = let w = (from_one number last k).1 in grind (arith, nat_tests)

    at : (o : Object) (of : Kind) → knows_object rules o ≡ true → count rules of ≤ n → same_kind (kind_of o) of ≡ (same_kind (kind_of o) of && nat_le (number_of o) n)
    at (object.Agent h) kind.Agent k le = within h.0 rules.agents k le
    at (object.Agent h) kind.Region k le = refl
    at (object.Agent h) kind.Signal k le = refl
    at (object.Agent h) kind.Kernel k le = refl
    at (object.Region h) kind.Agent k le = refl
    at (object.Region h) kind.Region k le = within h.0 rules.regions k le
    at (object.Region h) kind.Signal k le = refl
    at (object.Region h) kind.Kernel k le = refl
    at (object.Signal h) kind.Agent k le = refl
    at (object.Signal h) kind.Region k le = refl
    at (object.Signal h) kind.Signal k le = within h.0 rules.signals k le
    at (object.Signal h) kind.Kernel k le = refl
    at (object.Kernel h) kind.Agent k le = refl
    at (object.Kernel h) kind.Region k le = refl
    at (object.Kernel h) kind.Signal k le = refl
    at (object.Kernel h) kind.Kernel k le = within h.0 rules.kernels k le

-- an object is of one of the four kinds
pub four-kinds : (client c : ClientId) (o : Object)
    → of_client client c o ≡ (((of_kind client kind.Agent c o || of_kind client kind.Region c o) || of_kind client kind.Signal c o) || of_kind client kind.Kernel c o)
four-kinds client c o = at o (c.0 == client.0)
  where
    at : (o : Object) (b : Bool) → b ≡ ((((b && same_kind (kind_of o) kind.Agent) || (b && same_kind (kind_of o) kind.Region)) || (b && same_kind (kind_of o) kind.Signal)) || (b && same_kind (kind_of o) kind.Kernel))
    at o false = refl
    at (object.Agent h) true = refl
    at (object.Region h) true = refl
    at (object.Signal h) true = refl
    at (object.Kernel h) true = refl

-- the clients up to a number, and the next
pub next-of_clients : (n : ℕ) (c : ClientId) (o : Object) → of_clients_up_to (n + 1) c o ≡ (of_clients_up_to n c o || of_client (record { 0 = n + 1 }) c o)
next-of_clients n c o = past c.0 n

pub none-of_clients : (rules : Rules) (c : ClientId) (o : Object) → knows_client rules c ≡ true → of_clients_up_to 0 c o ≡ false
none-of_clients rules c o known = (from_one c.0 rules.clients known).0

pub all-of_clients : (rules : Rules) (n : ℕ) → rules.clients ≤ n → (c : ClientId) (o : Object) → knows_client rules c ≡ true → of_all c o ≡ of_clients_up_to n c o
all-of_clients rules n past c o known = let w = (from_one c.0 rules.clients known).1 in grind (arith, nat_tests)

-- ---- holds

-- a set of which not each right passes has one that doesn't
record Fails (rights : Rights) (test : Right → Bool) : Type 0 where
  right : Right
  has_it : has rights right ≡ true
  fails : test right ≡ false

one-fails : (rights : Rights) (test : Right → Bool) → each_right rights test ≡ false → Fails rights test
one-fails rights test h =
    at Use (λ a. at Read (λ b. at Write (λ c. at Wait (λ d. at Change (λ e. at Launch (λ f. absurd (true≢false (sym (all a b c d e f) ∙ h))))))))
  where
    all : (not (has rights Use) || test Use) ≡ true → (not (has rights Read) || test Read) ≡ true → (not (has rights Write) || test Write) ≡ true → (not (has rights Wait) || test Wait) ≡ true
        → (not (has rights Change) || test Change) ≡ true → (not (has rights Launch) || test Launch) ≡ true → each_right rights test ≡ true
    all a b c d e f = rw (a, b, c, d, e, f) refl

    at : (right : Right) → ((not (has rights right) || test right) ≡ true → Fails rights test) → Fails rights test
    at right else_ = by_test (has rights right) (test right) refl refl
      where
        by_test : (a b : Bool) → has rights right ≡ a → test right ≡ b → Fails rights test
        by_test true false i f = record { right = right; has_it = i; fails = f }
        by_test true true i f = else_ (rw (i, f) refl)
        by_test false b i f = else_ (rw i refl)

module _ (rows : PolicyRows) where
  -- a packet has a denied hold where it holds a right that the rows don't allow
  pub denied-held : (holds : List Hold) (q : QueueId) (p : PacketId) (c : ClientId) (o : Object) (right : Right)
      → is_held holds q p c o right ≡ true → rows_allow rows c o right ≡ false → has_denied rows holds q p ≡ true
  denied-held [] q p c o right h d = absurd (true≢false (sym h))
  denied-held (x ∷ xs) q p c o right h d = by_test (is_hold q p c o right x) refl (λ i. denied-held xs q p c o right i d)
    where
      by_test : (b : Bool) → is_hold q p c o right x ≡ b → (is_held xs q p c o right ≡ true → has_denied rows xs q p ≡ true) → has_denied rows (x ∷ xs) q p ≡ true
      by_test true is more =
          let parts = both (is_on q p c o x) (has x.rights right) is in
          let on = both (same_packet q p x.queue x.packet) (same_pair c o x.client x.object) parts.0 in
          let these = same_pair_is c o x.client x.object on.1 in
          ap (λ b. (b && is_denied rows x) || has_denied rows xs q p) on.0
          ∙ ap (λ b. not b || has_denied rows xs q p) (not-each (each_right x.rights (rows_allow rows x.client x.object)) refl parts.1 ((λ i. rows_allow rows (sym these.0 i) (sym these.1 i) right) ∙ d))
        where
          not-each : (b : Bool) → each_right x.rights (rows_allow rows x.client x.object) ≡ b → has x.rights right ≡ true → rows_allow rows x.client x.object right ≡ false → each_right x.rights (rows_allow rows x.client x.object) ≡ false
          not-each true e i f = absurd (true≢false (sym (each_right-has x.rights (rows_allow rows x.client x.object) e right i) ∙ f))
          not-each false e i f = e
      by_test false is more = or-true (same_packet q p x.queue x.packet && is_denied rows x) (more (sym (ap (λ b. b || is_held xs q p c o right) is) ∙ h))
        where
          or-true : (a : Bool) {b : Bool} → b ≡ true → (a || b) ≡ true
          or-true true e = refl
          or-true false e = e

  -- and the other way round
  record Denied (holds : List Hold) (q : QueueId) (p : PacketId) : Type 0 where
    client : ClientId
    object : Object
    right : Right
    held : is_held holds q p client object right ≡ true
    denied : rows_allow rows client object right ≡ false

  in-rest : (x : Hold) (xs : List Hold) (q : QueueId) (p : PacketId) → Denied xs q p → Denied (x ∷ xs) q p
  in-rest x xs q p d = record { client = d.client; object = d.object; right = d.right; held = or-true (is_hold q p d.client d.object d.right x) d.held; denied = d.denied }
    where
      or-true : (a : Bool) {b : Bool} → b ≡ true → (a || b) ≡ true
      or-true true e = refl
      or-true false e = e

  not-true : (a : Bool) → not a ≡ true → a ≡ false
  not-true true h = sym h
  not-true false h = refl

  held-denied : (holds : List Hold) (q : QueueId) (p : PacketId) → has_denied rows holds q p ≡ true → Denied holds q p
  held-denied [] q p h = absurd (true≢false (sym h))
  held-denied (x ∷ xs) q p h = by_test (same_packet q p x.queue x.packet && is_denied rows x) refl (held-denied xs q p)
    where
      by_test : (b : Bool) → (same_packet q p x.queue x.packet && is_denied rows x) ≡ b → (has_denied rows xs q p ≡ true → Denied xs q p) → Denied (x ∷ xs) q p
      by_test true is more =
          let parts = both (same_packet q p x.queue x.packet) (is_denied rows x) is in
          let one = one-fails x.rights (rows_allow rows x.client x.object) (not-true (each_right x.rights (rows_allow rows x.client x.object)) parts.1) in
          record {
            client = x.client;
            object = x.object;
            right = one.right;
            held = ap (λ b. ((b && same_pair x.client x.object x.client x.object) && has x.rights one.right) || is_held xs q p x.client x.object one.right) parts.0
                ∙ ap (λ b. (b && has x.rights one.right) || is_held xs q p x.client x.object one.right) (same_pair_itself x.client x.object)
                ∙ ap (λ b. b || is_held xs q p x.client x.object one.right) one.has_it;
            denied = one.fails;
          }
      by_test false is more = in-rest x xs q p (more (sym (ap (λ b. b || has_denied rows xs q p) is) ∙ h))

  -- the first packet with a denied hold is the first that holds a right that the rows don't allow
  pub blocked-first : (table : Table) (list : List Hold) (room : ℕ) (now : Ledger) → ledger table list room ≡ now → (first : Option (QueueId × PacketId)) → IsFirstTo (has_denied rows list) first → IsBlockedBy now rows first
  blocked-first table list room now view first h = subst (λ g. IsBlockedBy g rows first) view (at first h)
    where
      at : (first : Option (QueueId × PacketId)) → IsFirstTo (has_denied rows list) first → IsBlockedBy (ledger table list room) rows first
      at None none = λ q p c o right held. by_test q p c o right held (rows_allow rows c o right) refl
        where
          by_test : (q : QueueId) (p : PacketId) (c : ClientId) (o : Object) (right : Right) → is_held list q p c o right ≡ true → (b : Bool) → rows_allow rows c o right ≡ b → rows_allow rows c o right ≡ true
          by_test q p c o right held true is = is
          by_test q p c o right held false is = absurd (true≢false (sym (denied-held list q p c o right held is) ∙ none q p))
      at (Some x) some =
          let d = held-denied list x.0 x.1 some.0 in
          (record { client = d.client; object = d.object; right = d.right; held = d.held; denied = d.denied }, λ q p e. some.1 q p (denied-held list q p e.client e.object e.right e.held e.denied))

-- one more hold, in a walk for the first denied
module _ (rows : PolicyRows) (holds : List Hold) (i : ℕ) (d : Hold) (within : i < length holds) where
  abbrev next : Hold
  next = get_or holds i d

  and-true' : (a : Bool) → (a && true) ≡ a
  and-true' true = refl
  and-true' false = refl

  no-more : (a b : Bool) → (a || (b && false)) ≡ a
  no-more true b = refl
  no-more false true = refl
  no-more false false = refl

  pub denied-more : is_denied rows next ≡ true → (q : QueueId) (p : PacketId)
      → has_denied rows (take (i + 1) holds) q p ≡ (has_denied rows (take i holds) q p || same_packet q p next.queue next.packet)
  denied-more is q p =
      list_any_more (λ hold. same_packet q p hold.queue hold.packet && is_denied rows hold) holds i d within
      ∙ ap (λ b. has_denied rows (take i holds) q p || (same_packet q p next.queue next.packet && b)) is
      ∙ ap (λ b. has_denied rows (take i holds) q p || b) (and-true' (same_packet q p next.queue next.packet))

  pub denied-same : is_denied rows next ≡ false → (q : QueueId) (p : PacketId) → has_denied rows (take (i + 1) holds) q p ≡ has_denied rows (take i holds) q p
  denied-same is q p =
      list_any_more (λ hold. same_packet q p hold.queue hold.packet && is_denied rows hold) holds i d within
      ∙ ap (λ b. has_denied rows (take i holds) q p || (same_packet q p next.queue next.packet && b)) is
      ∙ no-more (has_denied rows (take i holds) q p) (same_packet q p next.queue next.packet)
