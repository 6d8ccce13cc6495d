-- Where no packet need be looked at: a queue of another client, or without packets, lists nothing, and what is in force and allowed may be held.
use Rattle.std.proofs.Common.{arith, ◌≡◌, List, [], ◌∷◌, ◌++◌, refl, sym, ◌∙◌, ap, Bool, true, false, None, ◌&&◌, ◌==◌, All, find, length, nat_lt, if◌then◌else◌}
use Rattle.grants.specs.Ledger.{AllowsInForce}
use Rattle.policy.specs.declared.rows.PolicyRows.{PolicyRows}
use Rattle.access_core.specs.inner.ArgumentBlocks.{AreInForce, IsOfQueue}
use Rattle.access_core.proofs.Lying.{any-laid}
use Rattle.access_core.proofs.ReloadLemmas.{forced-now}
use Rattle.access_core.proofs.Standing.{has-denied}
use Rattle.access_core.proofs.Terms.{All-head, All-tail, ArgumentBlock, ClientId, Inside, IsCached, IsSound, Ledger, Object, PacketId, Queue, QueueId, Right, Rights, all_blocks, all_rights, has, has_block, is_listed, list_any, lists_denied, lists_one, lists_right, ltb-false, or_parts}

-- where all that is in force is allowed, nothing that is listed is denied
pub none-denied : (grants : Ledger) (rows : PolicyRows) (blocks : List ArgumentBlock) → AreInForce grants blocks → AllowsInForce grants rows → (queue : QueueId) (id : PacketId) → has_block (lists_denied rows) blocks queue id ≡ false
none-denied grants rows blocks forced allowed queue id = by_test (has_block (lists_denied rows) blocks queue id) refl
  where
    by_test : (b : Bool) → has_block (lists_denied rows) blocks queue id ≡ b → b ≡ false
    by_test false is = refl
    by_test true is =
        let d = has-denied rows blocks queue id is in
        let allows = allowed d.client d.object d.right (forced queue id d.client d.object d.right d.given) in
        let denies = d.denied in
        absurd cc

-- a queue without blocks lists nothing
pub none-listed : (test : ArgumentBlock → Bool) (queues : List Queue) → list_any (λ (q : Queue). nat_lt 0 (length q.blocks)) queues ≡ false → find test (all_blocks queues) ≡ None
none-listed test [] none = refl
none-listed test (q ∷ qs) none =
    let parts = or_parts (nat_lt 0 (length q.blocks)) (list_any (λ (q : Queue). nat_lt 0 (length q.blocks)) qs) none in
    ap (λ bs. find test (bs ++ all_blocks qs)) (empty q.blocks parts.0) ∙ none-listed test qs parts.1
  where
    empty : (bs : List ArgumentBlock) → nat_lt 0 (length bs) ≡ false → bs ≡ []
    empty [] is = refl
    empty (b ∷ bs) is = let less = ltb-false _ _ is in absurd (omega (arith, less))

-- a queue of another client lists none of a client's rights
pub none-of-client : (q : Queue) (client : ClientId) (on : Object) (rights : Rights) → IsSound q → (q.client.0 == client.0) ≡ false → find (lists_one client on rights) q.blocks ≡ None
none-of-client q client on rights sound other = each q.blocks sound.of_queue
  where
    nothing : (all : List Right) → list_any (λ right. has rights right && is_listed [] on right) all ≡ false
    nothing [] = refl
    nothing (r ∷ all) = grind (arith, nothing all)

    each : (bs : List ArgumentBlock) → All (IsOfQueue q.number q.client) bs → find (lists_one client on rights) bs ≡ None
    each [] own = refl
    each (b ∷ bs) own =
        let its = (All-head (IsOfQueue q.number q.client) b bs own).1 in
        let not_its : (b.client.0 == client.0) ≡ false = ap (λ (c : ClientId). c.0 == client.0) its ∙ other in
        let fails : lists_one client on rights b ≡ false =
        ap (λ (x : Bool). list_any (λ right. has rights right && is_listed (if x then b.rights else []) on right) all_rights) not_its ∙ nothing all_rights in
        rw fails (each bs (All-tail (IsOfQueue q.number q.client) b bs own))

module _ (a : Inside) (kept : IsCached a) where
  pub all-forced : AreInForce a.grants (all_blocks a.queues.items)
  all-forced queue id client on right given = forced-now a kept queue id client on right (sym (any-laid a kept (lists_right queue id client on right)) ∙ given)
