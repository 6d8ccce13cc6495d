-- Tests of rights that packets hold, taken right by right or packet by packet.
use Rattle.std.proofs.Common.{arith, ◌≡◌, List, [], ◌∷◌, refl, sym, ◌∙◌, ap, Bool, true, false, Some, ◌&&◌, ◌||◌, ◌==◌, if◌then◌else◌}
use Rattle.access_core.proofs.Terms.{ArgumentBlock, ClientId, Entry, InFlight, IsLegal, Object, PacketId, QueueId, Right, Rights, Start, all_rights, flight, has, held, held-flies, holds_one_of}
use Rattle.access_core.specs.inner.ArgumentBlocks.{names_one}
use Rattle.access_core.proofs.Terms.{has_block, is_block, is_given, is_listed, is_named, is_packet, list_any, lists_one, lists_right, rights_for, same_object, set_of}

-- ---- tests of lists

pub any-none : {X : Type 0} (a : X → Bool) (xs : List X) → list_any (λ x. a x && false) xs ≡ false
any-none a [] = refl
any-none a (x ∷ xs) = grind (arith, any-none a xs)

-- what doesn't look at the item stands before the test
any-constant : {X : Type 0} (a d : X → Bool) (c : Bool) (xs : List X) → list_any (λ x. a x && (c && d x)) xs ≡ (c && list_any (λ x. a x && d x) xs)
any-constant a d c [] = grind arith
any-constant a d c (x ∷ xs) = grind (arith, any-constant a d c xs)

pub any-before : {X : Type 0} (d : X → Bool) (c : Bool) (xs : List X) → list_any (λ x. c && d x) xs ≡ (c && list_any d xs)
any-before d c [] = grind arith
any-before d c (x ∷ xs) = grind (arith, any-before d c xs)

any-or : {X : Type 0} (p q : X → Bool) (xs : List X) → list_any (λ x. p x || q x) xs ≡ (list_any p xs || list_any q xs)
any-or p q [] = refl
any-or p q (x ∷ xs) = grind (arith, any-or p q xs)

-- a test of one list within a test of another may be turned round
any-swap : {X Y : Type 0} (a : Y → Bool) (b : X → Y → Bool) (xs : List X) (ys : List Y)
    → list_any (λ y. a y && list_any (λ x. b x y) xs) ys ≡ list_any (λ x. list_any (λ y. a y && b x y) ys) xs
any-swap a b [] ys = any-none a ys
any-swap a b (x ∷ xs) ys =
    spread ys ∙ any-or (λ y. a y && b x y) (λ y. a y && list_any (λ z. b z y) xs) ys
    ∙ ap (λ rest. list_any (λ y. a y && b x y) ys || rest) (any-swap a b xs ys)
  where
    spread : (ys : List _) → list_any (λ y. a y && (b x y || list_any (λ z. b z y) xs)) ys ≡ list_any (λ y. (a y && b x y) || (a y && list_any (λ z. b z y) xs)) ys
    spread [] = refl
    spread (y ∷ ys) = grind arith

-- ---- one right as a set

-- a set and the set of one right meet where that right is in it
pub one-right : (test : Right → Bool) (one : Right) → list_any (λ r. test r && has (set_of one) r) all_rights ≡ test one
one-right test one = grind arith

-- ---- what packets hold, of one of some rights

-- what is asked of all packets of one queue and id is asked once, if there is one
module _ (queue : QueueId) (id : PacketId) (test : QueueId → PacketId → Bool) where
  pub any-packet : (fs : List InFlight) → list_any (λ f. is_packet queue id f && test f.queue f.id) fs ≡ (list_any (is_packet queue id) fs && test queue id)
  any-packet [] = refl
  any-packet (f ∷ fs) = grind (arith, any-packet fs)

-- ---- what blocks list, of one of some rights

module _ (client : ClientId) (on : Object) (right : Right) where
  -- what is named for a client is listed for it alone
  listed-by : (b : Bool) (rights : List (Object × Rights))
      → list_any (λ (named : Object × Rights). (b && same_object on named.0) && has named.1 right) rights ≡ is_listed (if b then rights else []) on right
  listed-by true rights = refl
  listed-by false [] = refl
  listed-by false (one ∷ rights) = listed-by false rights

  pub named-listed : (block : ArgumentBlock) → is_named block.rights block.client client on right ≡ is_listed (rights_for client (Some block)) on right
  named-listed block = listed-by (client.0 == block.client.0) block.rights ∙ ap (λ b. is_listed (if b then block.rights else []) on right) (same-turned client block.client)
    where
      same-turned : (c d : ClientId) → (c.0 == d.0) ≡ (d.0 == c.0)
      same-turned c d = grind arith

-- a packet has a block that lists one of them where its blocks list one, right by right
pub lists-each : (client : ClientId) (on : Object) (rights : Rights) (queue : QueueId) (id : PacketId) (blocks : List ArgumentBlock)
    → has_block (lists_one client on rights) blocks queue id ≡ list_any (λ r. has rights r && is_given blocks queue id client on r) all_rights
lists-each client on rights queue id blocks =
    (λ i. list_any (λ block. is_block queue id block && list_any (λ r. has rights r && sym (named-listed client on r block) i) all_rights) blocks)
    ∙ (λ i. list_any (λ block. sym (any-constant (has rights) (λ r. is_named block.rights block.client client on r) (is_block queue id block) all_rights) i) blocks)
    ∙ sym (any-swap (has rights) (λ block r. lists_right queue id client on r block) blocks all_rights)

-- where a list names one of some rights on an object, an item of it is on the object and has one of them
pub lists-named : (on : Object) (rights : Rights) (given : List (Object × Rights))
    → list_any (λ r. has rights r && is_listed given on r) all_rights ≡ names_one on rights given
lists-named on rights given =
    any-swap (has rights) (λ (named : Object × Rights) r. same_object on named.0 && has named.1 r) given all_rights
    ∙ (λ i. list_any (λ (named : Object × Rights). any-constant (has rights) (has named.1) (same_object on named.0) all_rights i) given)

-- so a packet has one where it holds one of them by the history, and is in flight
pub holder-history : (start : Start) (es : List Entry) → IsLegal start es → (client : ClientId) (on : Object) (rights : Rights) (blocks : List ArgumentBlock)
    → ((queue : QueueId) (id : PacketId) (c : ClientId) (o : Object) (r : Right) → is_given blocks queue id c o r ≡ held start es queue id c o r)
    → (queue : QueueId) (id : PacketId) → has_block (lists_one client on rights) blocks queue id
    ≡ list_any (λ f. is_packet queue id f && holds_one_of start es client on rights f) (flight start es)
holder-history start es legal client on rights blocks kept queue id =
    lists-each client on rights queue id blocks
    ∙ (λ i. list_any (λ r. has rights r && kept queue id client on r i) all_rights)
    ∙ sym (any-packet queue id (λ q i. list_any (λ r. has rights r && held start es q i client on r) all_rights) (flight start es)
    ∙ flies (list_any (is_packet queue id) (flight start es)) refl)
  where
    none : (all : List Right) → ((r : Right) → held start es queue id client on r ≡ false) → list_any (λ r. has rights r && held start es queue id client on r) all ≡ false
    none [] each = refl
    none (r ∷ all) each = grind (arith, each r, none all each)

    lands : (r : Right) → list_any (is_packet queue id) (flight start es) ≡ false → (b : Bool) → held start es queue id client on r ≡ b → held start es queue id client on r ≡ false
    lands r out true has_it = let there = held-flies start es legal queue id client on r has_it in absurd cc
    lands r out false has_it = has_it

    flies : (b : Bool) → list_any (is_packet queue id) (flight start es) ≡ b
        → (b && list_any (λ r. has rights r && held start es queue id client on r) all_rights) ≡ list_any (λ r. has rights r && held start es queue id client on r) all_rights
    flies true is = refl
    flies false is = sym (none all_rights (λ r. lands r is _ refl))
