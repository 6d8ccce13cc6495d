-- The blocks that lie in queues are those of the packets in flight.
use Rattle.std.proofs.Common.{◌≡◌, ℕ, zero, suc, ◌+◌, ◌<◌, ◌≤◌, ◌&&◌, ◌||◌, ◌⊎◌, inl, inr, Bool, true, false, List, [], ◌∷◌, ◌++◌, length, filter, get_or, refl, sym, ◌∙◌, ap, subst, Option, Some, None, arith, All, if◌then◌else◌}
use Rattle.std.specs.List.{Contains}
use Rattle.std.proofs.lemmas.List.Elements.{All-contains, All-contains_itself, Contains-append_cases, Contains-append_left, Contains-append_right}
use Rattle.std.proofs.lemmas.List.Folds.{list_any_at}
use Rattle.access_core.specs.inner.ArgumentBlocks.{blocks_in, is_of}
use Rattle.access_core.specs.inner.CachedQueue.{AreLaid}
use Rattle.access_core.specs.inner.Origins.{AreInOrder}
use Rattle.grants.proofs.HoldLemmas.{first_same}
use Rattle.access_core.proofs.Laid.{blocks-count}
use Rattle.access_core.proofs.Numbered.{none-above}
use Rattle.access_core.proofs.Terms.{All-filter, All-weaker, ArgumentBlock, AscendFrom, Inside, IsCached, IsFirstTo, PacketId, Queue, QueueId, all_blocks, has_block, has_number, is_block, list_any, queue_in}

-- ---- what lies in lists

-- one that lies behind another lies there, or is it
pub contains-cases : {X : Type 0} (y : X) (xs : List X) (x : X) → Contains (y ∷ xs) x → (y ≡ x) ⊎ Contains xs x
contains-cases y xs x there = by_place there.0 there.1 there.2
  where
    by_place : (k : ℕ) → k < length (y ∷ xs) → get_or (y ∷ xs) k x ≡ x → (y ≡ x) ⊎ Contains xs x
    by_place zero less is = inl is
    by_place (suc k) less is = inr (k, omega (arith, less), is)

pub contains-head : {X : Type 0} (x : X) (xs : List X) → Contains (x ∷ xs) x
contains-head x xs = (0, omega arith, refl)

contains-behind : {X : Type 0} (y : X) (xs : List X) (x : X) → Contains xs x → Contains (y ∷ xs) x
contains-behind y xs x there = Contains-append_right (y ∷ []) xs x there

-- what is left of a list lies in it, and what passes is left
contains-whole : {X : Type 0} (test : X → Bool) (xs : List X) (x : X) → Contains (filter test xs) x → Contains xs x
contains-whole test xs x there = All-contains (Contains xs) (filter test xs) x (All-filter test (Contains xs) xs (All-contains_itself xs)) there

contains-left : {X : Type 0} (test : X → Bool) (xs : List X) (x : X) → Contains xs x → test x ≡ true → Contains (filter test xs) x
contains-left test [] x there is = let below = there.1 in absurd (omega (arith, below))
contains-left test (y ∷ xs) x there is = by_case (λ rest. contains-left test xs x rest is) (contains-cases y xs x there)
  where
    behind : (b : Bool) → Contains (filter test xs) x → Contains (if b then y ∷ filter test xs else filter test xs) x
    behind true rest = contains-behind y (filter test xs) x rest
    behind false rest = rest

    by_case : (Contains xs x → Contains (filter test xs) x) → (y ≡ x) ⊎ Contains xs x → Contains (filter test (y ∷ xs)) x
    by_case more (inl same) =
        let passes : test y ≡ true = ap test same ∙ is in
        subst (λ b. Contains (if b then y ∷ filter test xs else filter test xs) x) (sym passes) (subst (λ z. Contains (z ∷ filter test xs) x) (sym same) (contains-head x (filter test xs)))
    by_case more (inr rest) = behind (test y) (more rest)

-- one of a list that passes
pub record Passing {X : Type 0} (test : X → Bool) (xs : List X) : Type 0 where
  pub one : X
  pub there : Contains xs one
  pub passes : test one ≡ true

pub any-one : {X : Type 0} (test : X → Bool) (xs : List X) → list_any test xs ≡ true → Passing test xs
any-one test [] any = absurd cc
any-one test (x ∷ xs) any = first (any-one test xs) (test x) refl any
  where
    first : (list_any test xs ≡ true → Passing test xs) → (b : Bool) → test x ≡ b → (b || list_any test xs) ≡ true → Passing test (x ∷ xs)
    first more true is any = record { one = x; there = contains-head x xs; passes = is }
    first more false is any =
        let later = more any in
        record { one = later.one; there = contains-behind x xs later.one later.there; passes = later.passes }

pub one-any : {X : Type 0} (test : X → Bool) (xs : List X) (x : X) → Contains xs x → test x ≡ true → list_any test xs ≡ true
one-any test xs x there is = list_any_at test xs there.0 x there.1 (ap test there.2 ∙ is)

-- two lists in which the same lies pass a test alike
pub any-alike : {X : Type 0} (test : X → Bool) (xs ys : List X) → ((x : X) → Contains xs x → Contains ys x) → ((x : X) → Contains ys x → Contains xs x) → list_any test xs ≡ list_any test ys
any-alike test xs ys there back = by_tests (list_any test xs) (list_any test ys) refl refl
  where
    by_tests : (b c : Bool) → list_any test xs ≡ b → list_any test ys ≡ c → b ≡ c
    by_tests true c is at = let one = any-one test xs is in sym (one-any test ys one.one (there one.one one.there) one.passes) ∙ at
    by_tests false true is at = let one = any-one test ys at in sym is ∙ one-any test xs one.one (back one.one one.there) one.passes
    by_tests false false is at = refl

-- and what holds of each of the one holds of each of the other
pub all-alike : {X : Type 0} (P : X → Type 0) (xs ys : List X) → ((x : X) → Contains ys x → Contains xs x) → All P xs → All P ys
all-alike P xs ys back all = All-weaker (Contains ys) P (λ x there. All-contains P xs x all (back x there)) ys (All-contains_itself ys)

-- ---- what lies in queues

-- The queue in which a block lies.
record LiesIn (queues : List Queue) (block : ArgumentBlock) : Type 0 where
  q : Queue
  found : queue_in queues q.number ≡ Some q
  there : Contains q.blocks block

number-itself : (q : Queue) → has_number q.number q ≡ true
number-itself q = grind arith

lies-in : (below : ℕ) (queues : List Queue) → AscendFrom below queues → (block : ArgumentBlock) → Contains (all_blocks queues) block → LiesIn queues block
lies-in below [] ascending block there = let less = there.1 in absurd (omega (arith, less))
lies-in below (x ∷ xs) ascending block there = by_case (lies-in x.number.0 xs ascending.1 block) (Contains-append_cases x.blocks (all_blocks xs) block there)
  where
    by_case : (Contains (all_blocks xs) block → LiesIn xs block) → Contains x.blocks block ⊎ Contains (all_blocks xs) block → LiesIn (x ∷ xs) block
    by_case more (inl here) = record { q = x; found = rw (number-itself x) refl; there = here }
    by_case more (inr behind) =
        let later = more behind in
        record { q = later.q; found = by_test later.q.number later.q (has_number later.q.number x) refl later.found; there = later.there }
      where
        same : (n : QueueId) → has_number n x ≡ true → n.0 ≤ x.number.0
        same n is = grind arith

        by_test : (n : QueueId) (q : Queue) (b : Bool) → has_number n x ≡ b → queue_in xs n ≡ Some q → (if b then Some x else queue_in xs n) ≡ Some q
        by_test n q false is found = found
        by_test n q true is found = let none : queue_in xs n ≡ None = none-above xs n x.number.0 ascending.1 (same n is) in absurd cc

lies-there : (queues : List Queue) (n : QueueId) (q : Queue) (block : ArgumentBlock) → queue_in queues n ≡ Some q → Contains q.blocks block → Contains (all_blocks queues) block
lies-there [] n q block found there = absurd cc
lies-there (x ∷ xs) n q block found there = by_test (λ behind. lies-there xs n q block behind there) (has_number n x) found
  where
    by_test : (queue_in xs n ≡ Some q → Contains (all_blocks xs) block) → (b : Bool) → (if b then Some x else queue_in xs n) ≡ Some q → Contains (x.blocks ++ all_blocks xs) block
    by_test more true found = let same : x ≡ q = cc in Contains-append_left x.blocks (all_blocks xs) block (subst (λ (y : Queue). Contains y.blocks block) (sym same) there)
    by_test more false found = Contains-append_right x.blocks (all_blocks xs) block (more found)

module _ (queues : List Queue) (n : ℕ) (blocks : List ArgumentBlock) (laid : AreLaid queues n blocks) (ascending : AscendFrom 0 queues) where
  pub is-among : (block : ArgumentBlock) → Contains (all_blocks queues) block → Contains blocks block
  is-among block there =
      let at = lies-in 0 queues ascending block there in
      let of : Contains (filter (is_of at.q.number) blocks) block = subst (λ bs. Contains bs block) (ap blocks_in (sym at.found) ∙ laid.in_queues at.q.number) at.there in
      contains-whole (is_of at.q.number) blocks block of

  pub is-there : (block : ArgumentBlock) → Contains blocks block → Contains (all_blocks queues) block
  is-there block there = by_queue (queue_in queues block.queue) refl
    where
      itself : is_of block.queue block ≡ true
      itself = grind arith

      its : Contains (blocks_in (queue_in queues block.queue)) block
      its = subst (λ bs. Contains bs block) (sym (laid.in_queues block.queue)) (contains-left (is_of block.queue) blocks block there itself)

      by_queue : (o : Option Queue) → queue_in queues block.queue ≡ o → Contains (all_blocks queues) block
      by_queue None none = let empty : Contains (blocks_in None) block = subst (λ o. Contains (blocks_in o) block) none its in let less = empty.1 in absurd (omega (arith, less))
      by_queue (Some q) found = lies-there queues block.queue q block found (subst (λ o. Contains (blocks_in o) block) found its)

module _ (a : Inside) (kept : IsCached a) where
  -- a test is passed in the queues where it is among the blocks in order
  pub any-laid : (test : ArgumentBlock → Bool) → list_any test (all_blocks a.queues.items) ≡ list_any test kept.blocks
  any-laid test = any-alike test (all_blocks a.queues.items) kept.blocks (is-among _ _ kept.blocks kept.laid kept.ascending) (is-there _ _ kept.blocks kept.laid kept.ascending)

  pub all-laid : (P : ArgumentBlock → Type 0) → All P kept.blocks → All P (all_blocks a.queues.items)
  all-laid P all = all-alike P kept.blocks (all_blocks a.queues.items) (is-among _ _ kept.blocks kept.laid kept.ascending) all

  pub same-named : (test : ArgumentBlock → Bool) (queue : QueueId) (id : PacketId) → has_block test (all_blocks a.queues.items) queue id ≡ has_block test kept.blocks queue id
  same-named test queue id = any-laid (λ block. is_block queue id block && test block)

  pub are-in_order : AreInOrder a.queues.items a.in_flight_count kept.blocks
  are-in_order = record {
    lie = is-among _ _ kept.blocks kept.laid kept.ascending;
    lie_there = is-there _ _ kept.blocks kept.laid kept.ascending;
    in_order = kept.laid.in_order;
    are_all = blocks-count a kept;
  }

  -- so the first of the ones is the first of the others
  pub first-laid : (test : ArgumentBlock → Bool) (queues : List Queue) (o : Option (QueueId × PacketId)) → queues ≡ a.queues.items → IsFirstTo (has_block test (all_blocks queues)) o → IsFirstTo (has_block test kept.blocks) o
  first-laid test queues o same first =
      first_same _ _ o (λ queue id. sym (same-named test queue id)) (subst (λ qs. IsFirstTo (has_block test (all_blocks qs)) o) same first)
