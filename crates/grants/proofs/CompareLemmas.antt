-- Rights in force and holds, compared client by client, object by object and hold by hold.
use Rattle.std.proofs.Common.{[], ◌≡◌, ℕ, ◌+◌, ◌≤◌, ◌==◌, Bool, true, false, not, ◌&&◌, ◌||◌, List, ◌∷◌, refl, sym, ap, subst, ◌∙◌, true≢false}
use Rattle.std.specs.Bool.{Decides}
use Rattle.std.proofs.lemmas.Bool.Decides.{Decides-and, Decides-like}
use Rattle.std.specs.List.{list_all}
use Rattle.policy.specs.declared.object.Kind.{Kind}
use Rattle.policy.specs.declared.object.Kind.TheVariants as kind
use Rattle.policy.specs.declared.rights.Right.TheVariants.{Use, Read, Write, Wait, Change, Launch}
use Rattle.policy.specs.Object.{kind_of, number_of, same_kind}
use Rattle.grants.specs.Ledger.{SameGrants}
use Rattle.grants.specs.declared.hold.Hold.{Hold}
use Rattle.grants.specs.inner.Comparing.{IsIncluded, is_included, AreHeldToo, has_hold}
use Rattle.grants.specs.inner.Reloading.{of_kind_up_to, of_kind, of_client, of_clients_up_to, of_all}
use Rattle.grants.proofs.Terms.{ClientId, Ledger, Object, PacketId, QueueId, Right, Rights, Rules, Table, all_rights, both, count, each_right, each_right-has, has, in_table, is_held, is_hold, is_on}
use Rattle.grants.proofs.Terms.{knows_client, knows_object, object_of, same_packet, same_pair, same_pair_is, same_pair_itself}
use Rattle.policy.proofs.PairLemmas.{itself, same_number}
use Rattle.grants.proofs.LedgerLemmas.{ledger}
use Rattle.grants.proofs.ReloadLemmas.{known-at, next-of_kind, none-of_kind, all-of_kind, four-kinds, next-of_clients, none-of_clients, all-of_clients}

either : {P : Type 0} (a b : Bool) → (a || b) ≡ true → (a ≡ true → P) → (b ≡ true → P) → P
either true b is left right_so = left refl
either false b is left right_so = right_so is

-- ---- six rights

module _ (f g : Right → Bool) where
  implied : (a b : Bool) → (not a || b) ≡ true → a ≡ true → b ≡ true
  implied true b h e = h
  implied false b h e = absurd (true≢false (sym e))

  implies : (a b : Bool) → (a ≡ true → b ≡ true) → (not a || b) ≡ true
  implies true b h = h refl
  implies false b h = refl

  pub each-implied : list_all (λ right. not (f right) || g right) all_rights ≡ true → (right : Right) → f right ≡ true → g right ≡ true
  each-implied h right =
      let a = both _ _ h in let b = both _ _ a.1 in let c = both _ _ b.1 in let d = both _ _ c.1 in let e = both _ _ d.1 in let l = both _ _ e.1 in
      at right a.0 b.0 c.0 d.0 e.0 l.0
    where
      at : (right : Right) → (not (f Use) || g Use) ≡ true → (not (f Read) || g Read) ≡ true → (not (f Write) || g Write) ≡ true → (not (f Wait) || g Wait) ≡ true
          → (not (f Change) || g Change) ≡ true → (not (f Launch) || g Launch) ≡ true → f right ≡ true → g right ≡ true
      at Use a b c d e l = implied (f Use) (g Use) a
      at Read a b c d e l = implied (f Read) (g Read) b
      at Write a b c d e l = implied (f Write) (g Write) c
      at Wait a b c d e l = implied (f Wait) (g Wait) d
      at Change a b c d e l = implied (f Change) (g Change) e
      at Launch a b c d e l = implied (f Launch) (g Launch) l

  pub implied-each : ((right : Right) → f right ≡ true → g right ≡ true) → list_all (λ right. not (f right) || g right) all_rights ≡ true
  implied-each h =
      rw (
        implies (f Use) (g Use) (h Use),
        implies (f Read) (g Read) (h Read),
        implies (f Write) (g Write) (h Write),
        implies (f Wait) (g Wait) (h Wait),
        implies (f Change) (g Change) (h Change),
        implies (f Launch) (g Launch) (h Launch),
      ) refl

-- ---- tables

module _ (a b : Table) where
  -- a test that is the same for all that is declared
  included-as : (test test' : ClientId → Object → Bool) → ((c : ClientId) (o : Object) → knows_client a.rules c ≡ true → knows_object a.rules o ≡ true → test' c o ≡ test c o)
      → IsIncluded test a b → IsIncluded test' a b
  included-as test test' same h c o right t i = let known = known-at a c o right i in h c o right (sym (same c o known.0 known.1) ∙ t) i

  none-included : IsIncluded (λ c o. false) a b
  none-included c o right t i = absurd (true≢false (sym t))

  pub no-kind : (client : ClientId) (of : Kind) → IsIncluded (of_kind_up_to client of 0) a b
  no-kind client of = included-as (λ c o. false) (of_kind_up_to client of 0) (λ c o k l. none-of_kind a.rules client of c o l) none-included

  at-pair : (client : ClientId) (on : Object) → is_included a b client on ≡ true → IsIncluded (λ c o. same_pair c o client on) a b
  at-pair client on is c o right t i =
      let these = same_pair_is c o client on t in
      (λ j. in_table b (these.0 j) (these.1 j) right)
      ∙ each-implied (in_table a client on) (in_table b client on) is right ((λ j. in_table a (sym these.0 j) (sym these.1 j) right) ∙ i)

  pub next-kind : (client : ClientId) (of : Kind) (n : ℕ) → IsIncluded (of_kind_up_to client of n) a b → is_included a b client (object_of of (n + 1)) ≡ true → IsIncluded (of_kind_up_to client of (n + 1)) a b
  next-kind client of n h is c o right t i =
      either (of_kind_up_to client of n c o) (same_pair c o client (object_of of (n + 1))) (sym (next-of_kind client of n c o) ∙ t)
      (λ t'. h c o right t' i) (λ t'. at-pair client (object_of of (n + 1)) is c o right t' i)

  pub whole-kind : (client : ClientId) (of : Kind) (n : ℕ) → count a.rules of ≤ n → IsIncluded (of_kind_up_to client of n) a b → IsIncluded (of_kind client of) a b
  whole-kind client of n past h = included-as (of_kind_up_to client of n) (of_kind client of) (λ c o k l. all-of_kind a.rules client of n past c o l) h

  -- what is included of a kind is included of each of its objects
  pub one-of_kind : (client : ClientId) (of : Kind) (n : ℕ) → IsIncluded (of_kind client of) a b → is_included a b client (object_of of n) ≡ true
  one-of_kind client of n h = implied-each (in_table a client (object_of of n)) (in_table b client (object_of of n)) (λ right i. h client (object_of of n) right (ap (λ t. t && same_kind (kind_of (object_of of n)) of) (itself client.0) ∙ at of) i)
    where
      at : (of : Kind) → same_kind (kind_of (object_of of n)) of ≡ true
      at kind.Agent = refl
      at kind.Region = refl
      at kind.Signal = refl
      at kind.Kernel = refl

  pub by-kinds : (client : ClientId) → IsIncluded (of_kind client kind.Agent) a b → IsIncluded (of_kind client kind.Region) a b → IsIncluded (of_kind client kind.Signal) a b → IsIncluded (of_kind client kind.Kernel) a b
      → IsIncluded (of_client client) a b
  by-kinds client g r s k c o right t i =
      either ((of_kind client kind.Agent c o || of_kind client kind.Region c o) || of_kind client kind.Signal c o) (of_kind client kind.Kernel c o) (sym (four-kinds client c o) ∙ t)
      (λ t'. either (of_kind client kind.Agent c o || of_kind client kind.Region c o) (of_kind client kind.Signal c o) t'
      (λ t''. either (of_kind client kind.Agent c o) (of_kind client kind.Region c o) t'' (λ x. g c o right x i) (λ x. r c o right x i)) (λ x. s c o right x i)) (λ x. k c o right x i)

  pub kind-of_client : (client : ClientId) (of : Kind) → IsIncluded (of_client client) a b → IsIncluded (of_kind client of) a b
  kind-of_client client of h c o right t i = h c o right (both (c.0 == client.0) (same_kind (kind_of o) of) t).0 i

  pub no-clients : IsIncluded (of_clients_up_to 0) a b
  no-clients = included-as (λ c o. false) (of_clients_up_to 0) (λ c o k l. none-of_clients a.rules c o k) none-included

  pub next-client : (n : ℕ) → IsIncluded (of_clients_up_to n) a b → IsIncluded (of_client (record { 0 = n + 1 })) a b → IsIncluded (of_clients_up_to (n + 1)) a b
  next-client n h one c o right t i =
      either (of_clients_up_to n c o) (of_client (record { 0 = n + 1 }) c o) (sym (next-of_clients n c o) ∙ t) (λ t'. h c o right t' i) (λ t'. one c o right t' i)

  pub whole-table : (n : ℕ) → a.rules.clients ≤ n → IsIncluded (of_clients_up_to n) a b → IsIncluded of_all a b
  whole-table n past h = included-as (of_clients_up_to n) of_all (λ c o k l. all-of_clients a.rules n past c o k) h

  pub one-client : (client : ClientId) → IsIncluded of_all a b → IsIncluded (of_client client) a b
  one-client client h c o right t i = h c o right refl i

-- ---- holds

or-right : (a : Bool) {b : Bool} → b ≡ true → (a || b) ≡ true
or-right true e = refl
or-right false e = e

pub all-held : (other holds : List Hold) → list_all (has_hold other) holds ≡ true → AreHeldToo holds other
all-held other [] h q p c o right i = absurd (true≢false (sym i))
all-held other (x ∷ xs) h q p c o right i =
    let parts = both (has_hold other x) (list_all (has_hold other) xs) h in
    either (is_hold q p c o right x) (is_held xs q p c o right) i (here parts.0) (λ j. all-held other xs parts.1 q p c o right j)
  where
    here : has_hold other x ≡ true → is_hold q p c o right x ≡ true → is_held other q p c o right ≡ true
    here has_it is =
        let on = both (is_on q p c o x) (has x.rights right) is in
        let keys = both (same_packet q p x.queue x.packet) (same_pair c o x.client x.object) on.0 in
        let names = both (q.0 == x.queue.0) (p.0 == x.packet.0) keys.0 in
        let these = same_pair_is c o x.client x.object keys.1 in
        (λ j. is_held other (same_queue q x.queue names.0 j) (same_id p x.packet names.1 j) (these.0 j) (these.1 j) right)
        ∙ each_right-has x.rights (is_held other x.queue x.packet x.client x.object) has_it right on.1
      where
        same_queue : (m n : QueueId) → (m.0 == n.0) ≡ true → m ≡ n
        same_queue m n e = ap (λ k. record { 0 = k }) (same_number m.0 n.0 e)

        same_id : (m n : PacketId) → (m.0 == n.0) ≡ true → m ≡ n
        same_id m n e = ap (λ k. record { 0 = k }) (same_number m.0 n.0 e)

pub held-all : (other holds : List Hold) → AreHeldToo holds other → list_all (has_hold other) holds ≡ true
held-all other [] h = refl
held-all other (x ∷ xs) h =
    ap (λ b. b && list_all (has_hold other) xs) here ∙ held-all other xs (λ q p c o right i. h q p c o right (or-right (is_hold q p c o right x) i))
  where
    here : has_hold other x ≡ true
    here = implied-each (has x.rights) (is_held other x.queue x.packet x.client x.object) (λ right i. h x.queue x.packet x.client x.object right (first right i))
      where
        first : (right : Right) → has x.rights right ≡ true → is_held (x ∷ xs) x.queue x.packet x.client x.object right ≡ true
        first right i =
            ap (λ b. (((b && (x.packet.0 == x.packet.0)) && same_pair x.client x.object x.client x.object) && has x.rights right) || is_held xs x.queue x.packet x.client x.object right) (itself x.queue.0)
            ∙ ap (λ b. ((b && same_pair x.client x.object x.client x.object) && has x.rights right) || is_held xs x.queue x.packet x.client x.object right) (itself x.packet.0)
            ∙ ap (λ b. (b && has x.rights right) || is_held xs x.queue x.packet x.client x.object right) (same_pair_itself x.client x.object)
            ∙ ap (λ b. b || is_held xs x.queue x.packet x.client x.object right) i

-- ---- both

-- two tests that each have the other are the same
same-tests : (a b : Bool) → (a ≡ true → b ≡ true) → (b ≡ true → a ≡ true) → b ≡ a
same-tests true b f g = f refl
same-tests false true f g = sym (g refl)
same-tests false false f g = refl

module _ (t u : Table) (l m : List Hold) (i j : ℕ) (one other : Ledger) (view : ledger t l i ≡ one) (view' : ledger u m j ≡ other) where
  abbrev Included : Type 0
  Included = ((IsIncluded of_all t u × IsIncluded of_all u t) × AreHeldToo l m) × AreHeldToo m l

  all-included : Included → SameGrants (ledger t l i) (ledger u m j)
  all-included h = record {
    in_force = λ c o right. same-tests (in_table t c o right) (in_table u c o right) (h.0.0.0 c o right refl) (h.0.0.1 c o right refl);
    held = λ q p c o right. same-tests (is_held l q p c o right) (is_held m q p c o right) (h.0.1 q p c o right) (h.1 q p c o right);
  }

  included-all : SameGrants (ledger t l i) (ledger u m j) → Included
  included-all s = (
    ((λ c o right e is. s.in_force c o right ∙ is, λ c o right e is. sym (s.in_force c o right) ∙ is), λ q p c o right is. s.held q p c o right ∙ is),
    λ q p c o right is. sym (s.held q p c o right) ∙ is,
  )

  -- four tests, which together tell whether two are the same
  pub same-grants : (a b c d : Bool) → Decides a (IsIncluded of_all t u) → Decides b (IsIncluded of_all u t) → Decides c (AreHeldToo l m) → Decides d (AreHeldToo m l)
      → Decides (((a && b) && c) && d) (SameGrants one other)
  same-grants a b c d da db dc dd =
      subst (λ x. Decides (((a && b) && c) && d) (SameGrants x other)) view (subst (λ x. Decides (((a && b) && c) && d) (SameGrants (ledger t l i) x)) view'
      (Decides-like (((a && b) && c) && d) all-included included-all (Decides-and ((a && b) && c) d (Decides-and (a && b) c (Decides-and a b da db) dc) dd)))
