-- What a reload is owed, by the grants that are cached.
use Rattle.std.proofs.Common.{◌≡◌, ◌+◌, ◌-◌, ◌*◌, List, [], refl, sym, ◌∙◌, ap, subst, Bool, true, false, Option, Some, None, arith, ◌&&◌, ◌==◌, not, if◌then◌else◌}
use Rattle.std.proofs.lemmas.Bool.{and_from, eqb-true}
use Rattle.policy.specs.Declaring.{DeclaresAs}
use Rattle.policy.specs.Listing.{all_objects}
use Rattle.policy.specs.Policy.{Declared}
use Rattle.policy.specs.Rules.{count, rows_allow}
use Rattle.policy.specs.declared.rows.PolicyRows.{PolicyRows}
use Rattle.grants.specs.Cells.{Table, has_right, in_table, item_at, object_count, object_place}
use Rattle.grants.specs.Ledger as ledger
use Rattle.core_model.specs.History.{policy_in}
use Rattle.core_model.specs.declared.origin.Origin.{Origin}
use Rattle.core_model.specs.Holds.{holds_denied}
use Rattle.core_model.specs.Owed.{owed}
use Rattle.core_model.specs.declared.event.Event.TheVariants.{Reload}
use Rattle.core_model.proofs.Declared.{any-object, any-right}
use Rattle.core_model.proofs.Entered.{named-found}
use Rattle.grants.proofs.HoldLemmas.{first_same}
use Rattle.access_core.proofs.Calls.{due-by}
use Rattle.access_core.proofs.Least.{any-found, found-any, least-first, least-none, passes}
use Rattle.access_core.proofs.Standing.{GivesDenied, denied-has, has-denied}
use Rattle.access_core.proofs.Terms.{ClientId, History, InFlight, Inside, IsCached, IsFirstTo, Object, Opening, PacketId, QueueId, Right, Rules, Start, all, all_rights, and_parts, due, enters, first, flight, has_block, is_given}
use Rattle.access_core.proofs.Terms.{found-passes, held, held-flies, history_of, in_flight, in_force, is_full, is_packet, knows_client, knows_object, launch-whole, list_any, lists_denied, opening_in, owner, refuses, rules_of, same-state, start_of}
use Rattle.core_model.specs.declared.outcome.Outcome.TheVariants as outcome
use Rattle.core_model.specs.declared.refusal.Refusal.TheVariants as refusal

-- the policy in force declares what the one does with which the core was opened
pub declared-in : (o : Origin) (other : Declared) → (DeclaresAs o.policy other → DeclaresAs (policy_in o) other) × (DeclaresAs (policy_in o) other → DeclaresAs o.policy other)
declared-in o other = (
  λ d. record { clients = d.clients; agents = d.agents; regions = d.regions; signals = d.signals; kernels = d.kernels },
  λ d. record { clients = d.clients; agents = d.agents; regions = d.regions; signals = d.signals; kernels = d.kernels },
)

-- a right in force is on an object that is declared
known-cell : (table : Table) (client : ClientId) (on : Object) (right : Right) → in_table table client on right ≡ true → knows_object table.rules on ≡ true
known-cell table client on right is = by_tests (knows_client table.rules client) (knows_object table.rules on) refl is
  where
    by_tests : (c o : Bool) → knows_object table.rules on ≡ o → has_right right (item_at table.cells (if c && o then Some ((client.0 - 1) * object_count table.rules + object_place table.rules on) else None)) ≡ true → knows_object table.rules on ≡ true
    by_tests c true is now = is
    by_tests true false is now = absurd cc
    by_tests false false is now = absurd cc

module _ (a : Inside) (kept : IsCached a) where
  -- a right that a packet holds: it is in flight, the right is the owner's of its queue, in force, and on a declared object
  pub record Holding (queue : QueueId) (id : PacketId) (client : ClientId) (on : Object) (right : Right) : Type 0 where
    pub flying : InFlight
    pub found : in_flight (start_of a) a.audit.items queue id ≡ Some flying
    pub opening : Opening
    pub owner_is : owner (start_of a) a.audit.items queue ≡ Some opening
    pub client_is : opening.client ≡ client
    pub known : knows_object (rules_of (start_of a).policy) on ≡ true
    pub forced : ledger.in_force a.grants client on right ≡ true

  pub holding-now : (queue : QueueId) (id : PacketId) (client : ClientId) (on : Object) (right : Right) → is_given kept.blocks queue id client on right ≡ true → Holding queue id client on right
  holding-now queue id client on right has_it =
      let start = start_of a in
      let es = a.audit.items in
      let told : held start es queue id client on right ≡ true = sym (kept.held queue id client on right) ∙ has_it in
      let there = any-found (is_packet queue id) (flight start es) (held-flies start es kept.legal queue id client on right told) in
      let f = there.one in
      let whole = launch-whole start es kept.legal queue id f there.is in
      let named = named-found start es queue id f there.is in
      let same : held (first start es kept.legal) (all start es kept.legal) f.queue f.id client on right ≡ true =
      ap (λ (now : Start). now.held f.queue f.id client on right) (same-state start es kept.legal)
      ∙ (λ i. held start es (named.0 i) (named.1 i) client on right) ∙ told in
      let parts = and_parts (whole.launch.opening.client.0 == client.0) _ (sym (whole.held_is client on right) ∙ same) in
      let owner_is : whole.launch.opening.client ≡ client = ap (λ n. record { 0 = n }) (eqb-true _ _ parts.0) in
      let own : held (first start es kept.legal) (all start es kept.legal) f.queue f.id whole.launch.opening.client on right ≡ true =
      subst (λ c. held (first start es kept.legal) (all start es kept.legal) f.queue f.id c on right ≡ true) (sym owner_is) same in
      let granted : in_force start es whole.launch.opening.client on right ≡ true =
      sym (ap (λ (now : Start). now.in_force whole.launch.opening.client on right) (same-state start es kept.legal)) ∙ whole.holds on right own in
      let forced : ledger.in_force a.grants whole.launch.opening.client on right ≡ true = kept.granted whole.launch.opening.client on right ∙ granted in
      let declared : knows_object (ledger.rules_in a.grants) on ≡ true = known-cell a.grants.table whole.launch.opening.client on right forced in
      record {
        flying = f;
        found = there.is;
        opening = whole.launch.opening;
        owner_is = sym (ap (λ (now : Start). opening_in now.openings.queues queue) (same-state start es kept.legal)) ∙ subst (λ q. owner (first start es kept.legal) (all start es kept.legal) q ≡ Some whole.launch.opening) named.0 whole.owner_is;
        client_is = owner_is;
        known = ap (λ (rules : Rules). knows_object rules on) (sym kept.rules) ∙ declared;
        forced = subst (λ c. ledger.in_force a.grants c on right ≡ true) owner_is forced;
      }

  -- what a block lists is in force
  pub forced-now : (queue : QueueId) (id : PacketId) (client : ClientId) (on : Object) (right : Right) → is_given kept.blocks queue id client on right ≡ true → ledger.in_force a.grants client on right ≡ true
  forced-now queue id client on right given = (holding-now queue id client on right given).forced

  module _ (rows : PolicyRows) where
    abbrev blocks : InFlight → Bool
    blocks f = holds_denied (start_of a) a.audit.items rows f

    abbrev fs : List InFlight
    fs = flight (start_of a) a.audit.items

    -- one that holds a right that the rows don't allow is in flight, and told to
    record Blocking (queue : QueueId) (id : PacketId) : Type 0 where
      flying : InFlight
      found : in_flight (start_of a) a.audit.items queue id ≡ Some flying
      is : blocks flying ≡ true

    denied-blocks : (queue : QueueId) (id : PacketId) → GivesDenied rows kept.blocks queue id → Blocking queue id
    denied-blocks queue id d =
        let start = start_of a in
        let es = a.audit.items in
        let h = holding-now queue id d.client d.object d.right d.given in
        let named = named-found start es queue id h.flying h.found in
        let told : held start es h.flying.queue h.flying.id h.opening.client d.object d.right ≡ true =
        (λ i. held start es (named.0 i) (named.1 i) (h.client_is i) d.object d.right) ∙ sym (kept.held queue id d.client d.object d.right) ∙ d.given in
        let denied : rows_allow rows h.opening.client d.object d.right ≡ false = ap (λ c. rows_allow rows c d.object d.right) h.client_is ∙ d.denied in
        let test : Object → Right → Bool = λ on right. held start es h.flying.queue h.flying.id h.opening.client on right && not (rows_allow rows h.opening.client on right) in
        let one : test d.object d.right ≡ true = and_from _ _ told (ap not denied) in
        let some : list_any (λ on. list_any (test on) all_rights) (all_objects (count (rules_of start.policy))) ≡ true =
        any-object (count (rules_of start.policy)) (λ on. list_any (test on) all_rights) d.object h.known (any-right (test d.object) d.right one) in
        let owned : owner start es h.flying.queue ≡ Some h.opening = subst (λ q. owner start es q ≡ Some h.opening) (sym named.0) h.owner_is in
        record {
          flying = h.flying;
          found = h.found;
          is = ap (λ (o : Option Opening). elim o [
            | None ↦ false
            | Some opening ↦ list_any (λ on. list_any (λ right. held start es h.flying.queue h.flying.id opening.client on right && not (rows_allow rows opening.client on right)) all_rights) (all_objects (count (rules_of start.policy)))
          ]) owned ∙ some;
        }

    -- and one that is told to holds such a right
    blocks-denied : (f : InFlight) → blocks f ≡ true → GivesDenied rows kept.blocks f.queue f.id
    blocks-denied f is = by_owner (owner (start_of a) a.audit.items f.queue) is
      where
        by_owner : (o : Option Opening) → (elim o [
          | None ↦ false
          | Some opening ↦ list_any (λ on. list_any (λ right. held (start_of a) a.audit.items f.queue f.id opening.client on right && not (rows_allow rows opening.client on right)) all_rights) (all_objects (count (rules_of (start_of a).policy)))
        ]) ≡ true → GivesDenied rows kept.blocks f.queue f.id
        by_owner None is = absurd cc
        by_owner (Some opening) is =
            let test : Object → Right → Bool = λ on right. held (start_of a) a.audit.items f.queue f.id opening.client on right && not (rows_allow rows opening.client on right) in
            let objects : List Object = all_objects (count (rules_of (start_of a).policy)) in
            let on = any-found (λ on. list_any (test on) all_rights) objects is in
            let some : list_any (test on.one) all_rights ≡ true = found-passes (λ on. list_any (test on) all_rights) objects on.one on.is in
            let right = any-found (test on.one) all_rights some in
            let both = and_parts (held (start_of a) a.audit.items f.queue f.id opening.client on.one right.one) _ (found-passes (test on.one) all_rights right.one right.is) in
            record {
              client = opening.client;
              object = on.one;
              right = right.one;
              given = kept.held f.queue f.id opening.client on.one right.one ∙ both.0;
              denied = turned (rows_allow rows opening.client on.one right.one) both.1;
            }
          where
            turned : (b : Bool) → not b ≡ true → b ≡ false
            turned true is = absurd cc
            turned false is = refl

    -- by queue and id
    denied-passes : (queue : QueueId) (id : PacketId) → GivesDenied rows kept.blocks queue id → passes blocks fs queue id ≡ true
    denied-passes queue id d =
        let b = denied-blocks queue id d in
        found-any (is_packet queue id) (λ f. is_packet queue id f && blocks f) fs b.flying b.found
        (and_from _ _ (found-passes (is_packet queue id) fs b.flying b.found) b.is)

    passes-denied : (queue : QueueId) (id : PacketId) → passes blocks fs queue id ≡ true → GivesDenied rows kept.blocks queue id
    passes-denied queue id is =
        let there = any-found (λ f. is_packet queue id f && blocks f) fs is in
        let both = and_parts (is_packet queue id there.one) _ (found-passes (λ f. is_packet queue id f && blocks f) fs there.one there.is) in
        let numbers = and_parts (there.one.queue.0 == queue.0) (there.one.id.0 == id.0) both.0 in
        let same_queue : there.one.queue ≡ queue = ap (λ n. record { 0 = n }) (eqb-true _ _ numbers.0) in
        let same_id : there.one.id ≡ id = ap (λ n. record { 0 = n }) (eqb-true _ _ numbers.1) in
        subst (λ i. GivesDenied rows kept.blocks queue i) same_id (subst (λ q. GivesDenied rows kept.blocks q there.one.id) same_queue (blocks-denied there.one both.1))

    same_blocked : (queue : QueueId) (id : PacketId) → has_block (lists_denied rows) kept.blocks queue id ≡ passes blocks fs queue id
    same_blocked queue id = by_tests (has_block (lists_denied rows) kept.blocks queue id) (passes blocks fs queue id) refl refl
      where
        by_tests : (b c : Bool) → has_block (lists_denied rows) kept.blocks queue id ≡ b → passes blocks fs queue id ≡ c → b ≡ c
        by_tests true c is at = sym (denied-passes queue id (has-denied rows kept.blocks queue id is)) ∙ at
        by_tests false true is at = sym is ∙ denied-has rows kept.blocks queue id (passes-denied queue id at)
        by_tests false false is at = refl

    first-blocked : (o : Option (QueueId × PacketId)) → IsFirstTo (has_block (lists_denied rows) kept.blocks) o → IsFirstTo (passes blocks fs) o
    first-blocked o = first_same _ _ o (λ queue id. sym (same_blocked queue id))

    -- a reload that nothing stands against is owed its entry
    reload-owed : IsFirstTo (has_block (lists_denied rows) kept.blocks) None → owed (start_of a) a.audit.items (Reload rows) ≡ enters outcome.Accepted []
    unfolding owed
    reload-owed none = grind (arith, least-none blocks fs (first-blocked None none))

    pub reload-due : (old : History) → history_of a ≡ old → IsFirstTo (has_block (lists_denied rows) kept.blocks) None → (full : Bool) → is_full old ≡ full
        → due old (Reload rows) ≡ (if full then refuses refusal.AuditFull else enters outcome.Accepted [])
    reload-due old seen_as may full is = due-by a old seen_as (Reload rows) _ (reload-owed may)
        ∙ ap (λ b. if b then refuses refusal.AuditFull else enters outcome.Accepted []) is

    -- one that a packet stands against is refused, with the least of them
    pub reload-refused : (queue : QueueId) (id : PacketId) → IsFirstTo (has_block (lists_denied rows) kept.blocks) (Some (queue, id)) → owed (start_of a) a.audit.items (Reload rows) ≡ refuses (refusal.Busy queue id)
    unfolding owed
    reload-refused queue id blocked = grind (arith, least-first blocks fs queue id (first-blocked (Some (queue, id)) blocked))
