-- Who stands against a revocation or a reload, by the rights that argument blocks list.
use Rattle.std.proofs.Common.{arith, ◌≡◌, List, [], ◌∷◌, refl, sym, ◌∙◌, ap, Bool, true, false, ◌&&◌, ◌||◌, not}
use Rattle.std.proofs.lemmas.Bool.{and_from}
use Rattle.policy.proofs.PairLemmas.{same_pair_is, same_pair_itself}
use Rattle.policy.specs.Pairs.{is_one_of, same_pair}
use Rattle.policy.specs.Rights.{each_right}
use Rattle.policy.specs.Rules.{rows_allow}
use Rattle.policy.specs.declared.rows.PolicyRows.{PolicyRows}
use Rattle.core_model.proofs.Declared.{any-right}
use Rattle.access_core.proofs.Least.{any-found, found-any}
use Rattle.access_core.proofs.Terms.{ArgumentBlock, ClientId, Object, PacketId, QueueId, Right, Rights, all_rights, and_parts, found-passes, has, has_block, is_block, is_given}
use Rattle.access_core.proofs.Terms.{list_all, list_any, lists_denied, lists_right}

-- ---- rights that rows don't allow

-- not each of some passes where one of them fails
not-each : {X : Type 0} (of test : X → Bool) (xs : List X) → not (list_all (λ x. not (of x) || test x) xs) ≡ list_any (λ x. of x && not (test x)) xs
not-each of test [] = refl
not-each of test (x ∷ xs) = grind (arith, not-each of test xs)

-- a packet's blocks list a right that rows don't allow its client
pub record GivesDenied (rows : PolicyRows) (blocks : List ArgumentBlock) (queue : QueueId) (id : PacketId) : Type 0 where
  pub client : ClientId
  pub object : Object
  pub right : Right
  pub given : is_given blocks queue id client object right ≡ true
  pub denied : rows_allow rows client object right ≡ false

module _ (rows : PolicyRows) (blocks : List ArgumentBlock) (queue : QueueId) (id : PacketId) where
  abbrev fails : ClientId → Object × Rights → Right → Bool
  fails client named right = has named.1 right && not (rows_allow rows client named.0 right)

  abbrev denies : ClientId → Object × Rights → Bool
  denies client named = not (each_right named.1 (rows_allow rows client named.0))

  pub has-denied : has_block (lists_denied rows) blocks queue id ≡ true → GivesDenied rows blocks queue id
  has-denied is =
      let test : ArgumentBlock → Bool = λ block. is_block queue id block && lists_denied rows block in
      let there = any-found test blocks is in
      let parts = and_parts (is_block queue id there.one) _ (found-passes test blocks there.one there.is) in
      let client : ClientId = there.one.client in
      let named = any-found (denies client) there.one.rights parts.1 in
      let failing : list_any (fails client named.one) all_rights ≡ true =
      sym (not-each (has named.one.1) (rows_allow rows client named.one.0) all_rights) ∙ found-passes (denies client) there.one.rights named.one named.is in
      let right = any-found (fails client named.one) all_rights failing in
      let ends = and_parts (has named.one.1 right.one) _ (found-passes (fails client named.one) all_rights right.one right.is) in
      record {
        client = client;
        object = named.one.0;
        right = right.one;
        given = found-any test (lists_right queue id client named.one.0 right.one) blocks there.one there.is
            (and_from (is_block queue id there.one) _ parts.0 (found-any (denies client) (λ (n : Object × Rights). is_one_of client named.one.0 right.one client n.0 n.1) there.one.rights named.one named.is
            (and_from _ _ (same_pair_itself client named.one.0) ends.0)));
        denied = turned (rows_allow rows client named.one.0 right.one) ends.1;
      }
    where
      turned : (b : Bool) → not b ≡ true → b ≡ false
      turned true is = absurd cc
      turned false is = refl

  pub denied-has : GivesDenied rows blocks queue id → has_block (lists_denied rows) blocks queue id ≡ true
  denied-has d =
      let there = any-found (lists_right queue id d.client d.object d.right) blocks d.given in
      let parts = and_parts (is_block queue id there.one) _ (found-passes (lists_right queue id d.client d.object d.right) blocks there.one there.is) in
      let names : Object × Rights → Bool = λ named. is_one_of d.client d.object d.right there.one.client named.0 named.1 in
      let named = any-found names there.one.rights parts.1 in
      let ends = and_parts (same_pair d.client d.object there.one.client named.one.0) (has named.one.1 d.right) (found-passes names there.one.rights named.one named.is) in
      let these = same_pair_is d.client d.object there.one.client named.one.0 ends.0 in
      let denied : rows_allow rows there.one.client named.one.0 d.right ≡ false = (λ i. rows_allow rows (sym these.0 i) (sym these.1 i) d.right) ∙ d.denied in
      let some : list_any (fails there.one.client named.one) all_rights ≡ true = any-right (fails there.one.client named.one) d.right (and_from _ _ ends.1 (ap not denied)) in
      found-any (lists_right queue id d.client d.object d.right) (λ block. is_block queue id block && lists_denied rows block) blocks there.one there.is
      (and_from _ _ parts.0 (found-any names (denies there.one.client) there.one.rights named.one named.is
      (not-each (has named.one.1) (rows_allow rows there.one.client named.one.0) all_rights ∙ some)))
