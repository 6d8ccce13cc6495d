-- What packets hold moves along with what is in flight.
use Rattle.std.proofs.Common.{◌≡◌, List, [], ◌∷◌, ◌++◌, refl, sym, subst, ◌∙◌, ap, Bool, true, false, Some, None, arith, ℕ, ◌&&◌, ◌||◌, ◌==◌, not, map}
use Rattle.std.proofs.Common.{filter, fold, if◌then◌else◌}
use Rattle.access_core.proofs.Terms.{is_given, lists_right}
use Rattle.access_core.proofs.Terms.{AreBlocksOf, ArgumentBlock, ClientId, Effect, Event, InFlight, Inside, IsCached, Ledger, Object, ObjectRight, Opening, Outcome}
use Rattle.access_core.proofs.Terms.{Packet, PacketId, QueueId, Right, Rights, arguments-more, arguments_of, as_rights, block_behind, block_of, entry_of, flight}
use Rattle.access_core.proofs.Terms.{fold-append, has, held, held-more, held_after, in_force_after, is_among, is_block, is_packet, launched_by, list_any, map-append}
use Rattle.access_core.proofs.Terms.{bit_of, set_of}
use Rattle.access_core.proofs.Terms.{name_of, owner, packet_of, releases, rights_at_launch, same_object, same_packet, start_of, with_entry}
use Rattle.core_model.specs.Holds.{arguments}
use Rattle.grants.specs.Pairs.{is_named}
use Rattle.core_model.specs.Policies.{rows_after}
use Rattle.policy.specs.declared.rows.PolicyRows.{PolicyRows}
use Rattle.access_core.proofs.CachedMore.{GrantsAfter}
use Rattle.access_core.proofs.HeldRights.{any-before}
use Rattle.grants.specs.Ledger as ledger

-- ---- an entry that launches and releases nothing

-- packets hold the same after it
pub held-still : (a : Inside) (kept : IsCached a) → (event : Event) (outcome : Outcome) (effects : List Effect) → launched_by event outcome ≡ None
    → ((queue : QueueId) (id : PacketId) → list_any (releases queue id) effects ≡ false)
    → (queue : QueueId) (id : PacketId) (client : ClientId) (on : Object) (right : Right)
    → is_given kept.blocks queue id client on right ≡ held (start_of a) (with_entry a.audit.items event outcome effects) queue id client on right
held-still a kept event outcome effects launches stays queue id client on right =
    kept.held queue id client on right
    ∙ sym (held-more (start_of a) a.audit.items (entry_of event outcome effects) queue id client on right
    ∙ (rw (launches, stays queue id) (same (held (start_of a) a.audit.items queue id client on right))))
  where
    same : (b : Bool) → ((b || false) && true) ≡ b
    same b = grind arith

-- ---- argument blocks

-- it leaves each block as it is
pub blocks-still : (a : Inside) (kept : IsCached a) → (event : Event) (outcome : Outcome) (effects : List Effect) → launched_by event outcome ≡ None
    → ((queue : QueueId) (id : PacketId) → list_any (releases queue id) effects ≡ false)
    → (queue : QueueId) (id : PacketId) → block_of kept.blocks queue id ≡ arguments (start_of a) (with_entry a.audit.items event outcome effects) queue id
blocks-still a kept event outcome effects launches stays queue id =
    kept.arguments queue id ∙ sym (arguments-more (start_of a) a.audit.items (entry_of event outcome effects) queue id ∙ (rw (stays queue id, launches) refl))

-- a packet's block isn't touched where another's is dropped, and is none where its own is
block-without_packet : (q : QueueId) (i : PacketId) (queue : QueueId) (id : PacketId) (found : List ℕ) (bs : List ArgumentBlock)
    → fold (block_behind queue id) (if same_packet queue id q i then [] else found) (filter (λ b. not (is_block q i b)) bs)
    ≡ (if same_packet queue id q i then [] else fold (block_behind queue id) found bs)
block-without_packet q i queue id found [] = refl
block-without_packet q i queue id found (b ∷ bs) = grind (arith, block-without_packet q i queue id (block_behind queue id found b) bs, block-without_packet q i queue id found bs)

blocks-dropped : (a : Inside) (kept : IsCached a) → (event : Event) (outcome : Outcome) (effects : List Effect) → launched_by event outcome ≡ None → (q : QueueId) (i : PacketId)
    → ((queue : QueueId) (id : PacketId) → list_any (releases queue id) effects ≡ same_packet queue id q i)
    → (queue : QueueId) (id : PacketId) → block_of (filter (λ b. not (is_block q i b)) kept.blocks) queue id ≡ arguments (start_of a) (with_entry a.audit.items event outcome effects) queue id
blocks-dropped a kept event outcome effects launches q i drops queue id =
    none (same_packet queue id q i)
    ∙ block-without_packet q i queue id [] kept.blocks
    ∙ ap (λ bytes. if same_packet queue id q i then [] else bytes) (kept.arguments queue id)
    ∙ sym (arguments-more (start_of a) a.audit.items (entry_of event outcome effects) queue id ∙ (rw (drops queue id, launches) refl))
  where
    none : (b : Bool) → fold (block_behind queue id) [] (filter (λ b. not (is_block q i b)) kept.blocks) ≡ fold (block_behind queue id) (if b then [] else []) (filter (λ b. not (is_block q i b)) kept.blocks)
    none true = refl
    none false = refl

-- the block of a packet that is launched
abbrev pub block_laid : QueueId → PacketId → ClientId → ℕ → List (Object × Rights) → List ℕ → ArgumentBlock
block_laid q i client number rights bytes = record { queue = q; packet = i; client = client; number = number; rights = rights; bytes = bytes }

-- a packet that is launched has its block behind the others
blocks-launched : (a : Inside) (kept : IsCached a) → (event : Event) (outcome : Outcome) (q : QueueId) (i : PacketId) (p : Packet) (c : ClientId) (n : ℕ) (rights : List (Object × Rights)) (bytes : List ℕ)
    → launched_by event outcome ≡ Some (record { queue = q; id = i; packet = p }) → bytes ≡ arguments_of (start_of a) a.audit.items p
    → (queue : QueueId) (id : PacketId) → block_of (kept.blocks ++ block_laid q i c n rights bytes ∷ []) queue id
    ≡ arguments (start_of a) (with_entry a.audit.items event outcome []) queue id
blocks-launched a kept event outcome q i p c n rights bytes launches is queue id =
    fold-append (block_behind queue id) [] kept.blocks (block_laid q i c n rights bytes ∷ [])
    ∙ (λ j. if same_packet q i queue id then is j else kept.arguments queue id j)
    ∙ sym (arguments-more (start_of a) a.audit.items (entry_of event outcome []) queue id ∙ (rw launches refl))

-- what is told of each item is told of those that are left
pub map-left : {X N : Type 0} (name : X → N) (stays : N → Bool) (xs : List X) → map name (filter (λ x. stays (name x)) xs) ≡ filter stays (map name xs)
map-left name stays [] = refl
map-left name stays (x ∷ xs) = grind (arith, map-left name stays xs)

-- where a packet leaves flight, its block goes with it
blocks-left : (q : QueueId) (i : PacketId) (fs : List InFlight) (bs : List ArgumentBlock) → AreBlocksOf fs bs
    → AreBlocksOf (filter (λ f. not (is_packet q i f)) fs) (filter (λ b. not (is_block q i b)) bs)
blocks-left q i fs bs are = map-left packet_of stays bs ∙ ap (filter stays) are ∙ sym (map-left name_of stays fs)
  where
    stays : QueueId × PacketId → Bool
    stays named = not (named.0.0 == q.0 && named.1.0 == i.0)

-- and where one is launched, its block comes behind the others
blocks-with : (q : QueueId) (i : PacketId) (p : Packet) (c : ClientId) (n : ℕ) (rights : List (Object × Rights)) (bytes : List ℕ) (fs : List InFlight) (bs : List ArgumentBlock) → AreBlocksOf fs bs
    → AreBlocksOf (fs ++ record { queue = q; id = i; packet = p } ∷ []) (bs ++ block_laid q i c n rights bytes ∷ [])
blocks-with q i p c n rights bytes fs bs are = grind (
  arith,
  map-append packet_of bs (block_laid q i c n rights bytes ∷ []),
  map-append name_of fs (record { queue = q; id = i; packet = p } ∷ []),
)

-- ---- the rights that blocks list

-- of those that are left where a packet's are dropped, none lists a right of that packet
any-left : (test : ArgumentBlock → Bool) (q : QueueId) (i : PacketId) (queue : QueueId) (id : PacketId) (bs : List ArgumentBlock)
    → list_any (λ b. is_block queue id b && test b) (filter (λ b. not (is_block q i b)) bs) ≡ (list_any (λ b. is_block queue id b && test b) bs && not (same_packet queue id q i))
any-left test q i queue id [] = refl
any-left test q i queue id (b ∷ bs) = grind (arith, any-left test q i queue id bs)

-- the one behind the others is asked last
any-behind : (test : ArgumentBlock → Bool) (b : ArgumentBlock) (bs : List ArgumentBlock) → list_any test (bs ++ b ∷ []) ≡ (list_any test bs || test b)
any-behind test b [] = or-none (test b)
  where
    or-none : (x : Bool) → (x || false) ≡ (false || x)
    or-none x = grind arith
any-behind test b (x ∷ xs) = grind (arith, any-behind test b xs)

pub turned-name : (q : QueueId) (i : PacketId) (queue : QueueId) (id : PacketId) → same_packet q i queue id ≡ same_packet queue id q i
turned-name q i queue id = grind arith

-- the rules with the same rows are the same
pub rows-still : (grants : Ledger) {rows : PolicyRows} → (ledger.rules_in grants).rows ≡ rows → ledger.rules_in grants ≡ record (ledger.rules_in grants) { rows = rows }
rows-still grants same = λ i. record (ledger.rules_in grants) { rows = same i }

-- so a call that doesn't touch the grants leaves them as the history says
pub grants-still : (a : Inside) (kept : IsCached a) → (event : Event) (outcome : Outcome) (effects : List Effect) → launched_by event outcome ≡ None
    → ((queue : QueueId) (id : PacketId) → list_any (releases queue id) effects ≡ false)
    → ((client : ClientId) (on : Object) (right : Right) (b : Bool) → in_force_after client on right b event ≡ b)
    → ((rows : PolicyRows) → rows_after rows event ≡ rows)
    → flight (start_of a) (with_entry a.audit.items event outcome effects) ≡ flight (start_of a) a.audit.items → GrantsAfter a a.grants kept.blocks event outcome effects
grants-still a kept event outcome effects launches stays same unchanged flying = record {
  granted = λ client on right. sym (same client on right _);
  rules = rows-still a.grants (sym (unchanged (ledger.rules_in a.grants).rows));
  held = held-still a kept event outcome effects launches stays;
  unheld = kept.unheld;
  blocks_are = rw flying kept.blocks_are;
  arguments = blocks-still a kept event outcome effects launches stays;
}

-- ---- a packet that is launched

or-false : (b : Bool) → (b || false) ≡ b
or-false b = grind arith

same_turned : (a b : ℕ) → (a == b) ≡ (b == a)
same_turned a b = grind arith

names-held : (client c : ClientId) (on : Object) (right : Right) (hs : List ObjectRight)
    → is_named (map as_rights hs) client c on right ≡ (client.0 == c.0 && list_any (λ h. same_object on h.0 && has (as_rights h).1 right) hs)
names-held client c on right hs =
    ap (λ b. list_any (λ (named : Object × Rights). (b && same_object on named.0) && has named.1 right) (map as_rights hs)) (same_turned c.0 client.0)
    ∙ mapped hs ∙ any-before (λ (h : ObjectRight). same_object on h.0 && has (as_rights h).1 right) (client.0 == c.0) hs
  where
    turned : (a b d : Bool) → ((a && b) && d) ≡ (a && (b && d))
    turned a b d = grind arith

    mapped : (hs : List ObjectRight) → list_any (λ (named : Object × Rights). (client.0 == c.0 && same_object on named.0) && has named.1 right) (map as_rights hs)
        ≡ list_any (λ (h : ObjectRight). client.0 == c.0 && (same_object on h.0 && has (as_rights h).1 right)) hs
    mapped [] = refl
    mapped (h ∷ hs) = grind (arith, mapped hs)

-- one right as a set has just that right
set-has : (one right : Right) → has (set_of one) right ≡ (bit_of one == bit_of right)
set-has one right = grind arith

among-set : (on : Object) (right : Right) (hs : List ObjectRight) → list_any (λ h. same_object on h.0 && has (as_rights h).1 right) hs ≡ is_among hs on right
among-set on right [] = refl
among-set on right (h ∷ hs) = λ i. (same_object on h.0 && set-has h.1 right i) || among-set on right hs i

-- ---- the grants of a call

-- a packet that leaves flight has no argument block after it, and holds nothing
pub grants-released : (a : Inside) (kept : IsCached a) → (event : Event) (outcome : Outcome) (effects : List Effect) → launched_by event outcome ≡ None
    → ((client : ClientId) (on : Object) (right : Right) (b : Bool) → in_force_after client on right b event ≡ b)
    → ((rows : PolicyRows) → rows_after rows event ≡ rows)
    → (q : QueueId) (i : PacketId)
    → ((queue : QueueId) (id : PacketId) → list_any (releases queue id) effects ≡ same_packet queue id q i)
    → flight (start_of a) (with_entry a.audit.items event outcome effects) ≡ filter (λ f. not (is_packet q i f)) (flight (start_of a) a.audit.items)
    → GrantsAfter a a.grants (filter (λ b. not (is_block q i b)) kept.blocks) event outcome effects
grants-released a kept event outcome effects launches same unchanged q i drops flying = record {
  granted = λ client on right. sym (same client on right _);
  rules = rows-still a.grants (sym (unchanged (ledger.rules_in a.grants).rows));
  held = λ queue id client on right.
      any-left (λ b. is_named b.rights b.client client on right) q i queue id kept.blocks
      ∙ ap (λ b. b && not (same_packet queue id q i)) (kept.held queue id client on right)
      ∙ sym (held-more (start_of a) a.audit.items (entry_of event outcome effects) queue id client on right
      ∙ (rw (launches, drops queue id) (plain (held (start_of a) a.audit.items queue id client on right) (same_packet queue id q i))));
  unheld = kept.unheld;
  blocks_are = rw flying (blocks-left q i (flight (start_of a) a.audit.items) kept.blocks kept.blocks_are);
  arguments = blocks-dropped a kept event outcome effects launches q i drops;
}
  where
    plain : (b c : Bool) → ((b || false) && not c) ≡ (b && not c)
    plain b c = grind arith

-- a packet that is launched has a block with what its launch gives it
pub grants-launched : (a : Inside) (kept : IsCached a) → (event : Event) (outcome : Outcome)
    → ((client : ClientId) (on : Object) (right : Right) (b : Bool) → in_force_after client on right b event ≡ b)
    → ((rows : PolicyRows) → rows_after rows event ≡ rows)
    → (opening : Opening) (q : QueueId) (i : PacketId) (p : Packet) (n : ℕ) (rights : List (Object × Rights)) (bytes : List ℕ)
    → launched_by event outcome ≡ Some (record { queue = q; id = i; packet = p })
    → flight (start_of a) (with_entry a.audit.items event outcome []) ≡ flight (start_of a) a.audit.items ++ record { queue = q; id = i; packet = p } ∷ []
    → rights ≡ map as_rights (rights_at_launch (start_of a) a.audit.items opening p)
    → owner (start_of a) a.audit.items q ≡ Some opening
    → bytes ≡ arguments_of (start_of a) a.audit.items p → GrantsAfter a a.grants (kept.blocks ++ block_laid q i opening.client n rights bytes ∷ []) event outcome []
grants-launched a kept event outcome still unchanged opening q i p n rights bytes launches flying are is block_is = record {
  granted = λ client on right. sym (still client on right _);
  rules = rows-still a.grants (sym (unchanged (ledger.rules_in a.grants).rows));
  held = λ queue id client on right.
      any-behind (lists_right queue id client on right) (block_laid q i opening.client n rights bytes) kept.blocks
      ∙ (λ j. kept.held queue id client on right j || (turned-name q i queue id j && is_named (are j) opening.client client on right))
      ∙ by_packet queue id client on right (same_packet queue id q i) refl
      ∙ sym (held-more (start_of a) a.audit.items (entry_of event outcome []) queue id client on right);
  unheld = kept.unheld;
  blocks_are = rw flying (blocks-with q i p opening.client n rights bytes (flight (start_of a) a.audit.items) kept.blocks kept.blocks_are);
  arguments = blocks-launched a kept event outcome q i p opening.client n rights bytes launches block_is;
}
  where
    hs : List ObjectRight
    hs = rights_at_launch (start_of a) a.audit.items opening p

    by_packet : (queue : QueueId) (id : PacketId) (client : ClientId) (on : Object) (right : Right) (b : Bool) → same_packet queue id q i ≡ b
        → (held (start_of a) a.audit.items queue id client on right || (same_packet queue id q i && is_named (map as_rights hs) opening.client client on right))
        ≡ held_after (start_of a) queue id client on right a.audit.items (held (start_of a) a.audit.items queue id client on right) (entry_of event outcome [])
    by_packet queue id client on right true here =
        let queue_is : q ≡ queue = grind arith in
        let turned : same_packet q i queue id ≡ true = grind arith in
        let owned : owner (start_of a) a.audit.items queue ≡ Some opening = subst (λ n. owner (start_of a) a.audit.items n ≡ Some opening) queue_is is in
        let given : is_named (map as_rights hs) opening.client client on right ≡ (opening.client.0 == client.0 && is_among hs on right) =
        names-held opening.client client on right hs ∙ ap (λ b. opening.client.0 == client.0 && b) (among-set on right hs) in
        rw (launches, owned, turned, here, given) (plain (held (start_of a) a.audit.items queue id client on right) (opening.client.0 == client.0 && is_among hs on right))
      where
        plain : (b c : Bool) → (b || (true && c)) ≡ ((b || (true && c)) && true)
        plain b c = grind arith
    by_packet queue id client on right false other =
        let turned : same_packet q i queue id ≡ false = grind arith in
        rw (launches, turned, other) (plain (held (start_of a) a.audit.items queue id client on right))
      where
        plain : (b : Bool) → (b || false) ≡ ((b || false) && true)
        plain b = grind arith
