-- The first block that passes, queue by queue, is of the least packet that has one.
use Rattle.std.proofs.Common.{◌≡◌, ℕ, ◌+◌, ◌<◌, ◌&&◌, ◌||◌, ◌⊎◌, inl, inr, Bool, true, false, List, [], ◌∷◌, ◌++◌, drop, length, find, get_or, refl, sym, ◌∙◌, ap, option_map, Some, None, arith, All, if◌then◌else◌}
use Rattle.std.proofs.lemmas.Bool.{and_parts}
use Rattle.std.proofs.lemmas.List.{drop_more}
use Rattle.std.proofs.lemmas.List.Elements.{All-append, All-contains}
use Rattle.std.proofs.lemmas.List.Folds.{find-append}
use Rattle.std.specs.Option.{option_or}
use Rattle.std.specs.List.{Contains}
use Rattle.grants.proofs.HoldLemmas.{first_same}
use Rattle.access_core.specs.inner.ArgumentBlocks.{Ascend, IsOfQueue, by_packet}
use Rattle.access_core.proofs.Lying.{any-one, contains-cases}
use Rattle.access_core.proofs.Terms.{All-cons, All-head, All-nil, All-tail, All-weaker, ArgumentBlock, AscendFrom, ClientId, IsFirstTo, IsSound, IsUpTo, PacketId, Queue, QueueId, all_blocks, has_block, is_block, packet_of}

-- one block's packet comes up to another's
abbrev IsBefore : ArgumentBlock → ArgumentBlock → Type 0
IsBefore b c = IsUpTo b.queue b.packet c.queue c.packet

-- each comes up to those behind it
abbrev AreSorted : List ArgumentBlock → Type 0
AreSorted [] = Unit {0}
AreSorted (b ∷ bs) = All (IsBefore b) bs × AreSorted bs

module _ (test : ArgumentBlock → Bool) where
  fails : (b : ArgumentBlock) (bs : List ArgumentBlock) → test b ≡ false → (queue : QueueId) (id : PacketId) → has_block test (b ∷ bs) queue id ≡ has_block test bs queue id
  fails b bs is queue id = ap (λ x. (is_block queue id b && x) || has_block test bs queue id) is ∙ none (is_block queue id b) (has_block test bs queue id)
    where
      none : (x y : Bool) → ((x && false) || y) ≡ y
      none x y = grind arith

  -- what names a block's packet comes where it does
  named : (b c : ArgumentBlock) (queue : QueueId) (id : PacketId) → IsBefore b c → is_block queue id c ≡ true → IsUpTo b.queue b.packet queue id
  named b c queue id before is = grind arith

  itself : (b : ArgumentBlock) (queue : QueueId) (id : PacketId) → is_block queue id b ≡ true → IsUpTo b.queue b.packet queue id
  itself b queue id is = grind arith

  block-itself : (b : ArgumentBlock) → is_block b.queue b.packet b ≡ true
  block-itself b = grind arith

  pub first-sorted : (bs : List ArgumentBlock) → AreSorted bs → IsFirstTo (has_block test bs) (option_map packet_of (find test bs))
  first-sorted [] sorted = λ queue id. refl
  first-sorted (b ∷ bs) sorted = by_test (first-sorted bs sorted.1) (test b) refl
    where
      up : (queue : QueueId) (id : PacketId) → has_block test (b ∷ bs) queue id ≡ true → IsUpTo b.queue b.packet queue id
      up queue id is =
          let one = any-one (λ c. is_block queue id c && test c) (b ∷ bs) is in
          by_case one.one (and_parts (is_block queue id one.one) (test one.one) one.passes).0 (contains-cases b bs one.one one.there)
        where
          by_case : (c : ArgumentBlock) → is_block queue id c ≡ true → (b ≡ c) ⊎ Contains bs c → IsUpTo b.queue b.packet queue id
          by_case c named_is (inl same) = itself b queue id (ap (is_block queue id) same ∙ named_is)
          by_case c named_is (inr there) = named b c queue id (All-contains (IsBefore b) bs c sorted.0 there) named_is

      by_test : IsFirstTo (has_block test bs) (option_map packet_of (find test bs)) → (x : Bool) → test b ≡ x
          → IsFirstTo (has_block test (b ∷ bs)) (option_map packet_of (if x then Some b else find test bs))
      by_test more true is = ((λ i. (block-itself b i && is i) || has_block test bs b.queue b.packet), up)
      by_test more false is = first_same (has_block test bs) (has_block test (b ∷ bs)) (option_map packet_of (find test bs)) (fails b bs is) more

-- ---- the blocks of queues are sorted

sorted-append : (bs cs : List ArgumentBlock) → AreSorted bs → AreSorted cs → All (λ b. All (IsBefore b) cs) bs → AreSorted (bs ++ cs)
sorted-append [] cs sorted later across = later
sorted-append (b ∷ bs) cs sorted later across = (
  All-append (IsBefore b) bs cs sorted.0 (All-head (λ b. All (IsBefore b) cs) b bs across),
  sorted-append bs cs sorted.1 later (All-tail (λ b. All (IsBefore b) cs) b bs across),
)

-- those of one queue by id
one-sorted : (number : QueueId) (client : ClientId) (bs : List ArgumentBlock) → Ascend by_packet bs → All (IsOfQueue number client) bs → AreSorted bs
one-sorted number client [] rises own = tt
one-sorted number client (b ∷ bs) rises own = (
  by_each bs rises.0 (All-tail (IsOfQueue number client) b bs own),
  one-sorted number client bs rises.1 (All-tail (IsOfQueue number client) b bs own),
)
  where
    here : b.queue ≡ number
    here = (All-head (IsOfQueue number client) b bs own).0

    by_each : (cs : List ArgumentBlock) → All (λ c. by_packet b < by_packet c) cs → All (IsOfQueue number client) cs → All (IsBefore b) cs
    by_each [] less own = All-nil (IsBefore b)
    by_each (c ∷ cs) less own =
        let there : c.queue ≡ number = (All-head (IsOfQueue number client) c cs own).0 in
        let below = All-head (λ c. by_packet b < by_packet c) c cs less in
        All-cons (IsBefore b) c cs (inr (ap (λ (n : QueueId). n.0) (here ∙ sym there), omega (arith, below)))
        (by_each cs (All-tail (λ c. by_packet b < by_packet c) c cs less) (All-tail (IsOfQueue number client) c cs own))

-- those of later queues have later numbers
above-all : (below : ℕ) (queues : List Queue) → AscendFrom below queues → All IsSound queues → All (λ (b : ArgumentBlock). below < b.queue.0) (all_blocks queues)
above-all below [] ascending sound = All-nil (λ (b : ArgumentBlock). below < b.queue.0)
above-all below (q ∷ qs) ascending sound =
    let here = ascending.0 in
    All-append (λ (b : ArgumentBlock). below < b.queue.0) q.blocks (all_blocks qs)
    (All-weaker (IsOfQueue q.number q.client) (λ (b : ArgumentBlock). below < b.queue.0) (λ b own. let number = ap (λ (n : QueueId). n.0) own.0 in omega (arith, here, number)) q.blocks (All-head IsSound q qs sound).of_queue)
    (All-weaker (λ (b : ArgumentBlock). q.number.0 < b.queue.0) (λ (b : ArgumentBlock). below < b.queue.0) (λ b above. omega (arith, here, above)) (all_blocks qs) (above-all q.number.0 qs ascending.1 (All-tail IsSound q qs sound)))

pub all-sorted : (below : ℕ) (queues : List Queue) → AscendFrom below queues → All IsSound queues → AreSorted (all_blocks queues)
all-sorted below [] ascending sound = tt
all-sorted below (q ∷ qs) ascending sound =
    let first = All-head IsSound q qs sound in
    let later = All-tail IsSound q qs sound in
    sorted-append q.blocks (all_blocks qs) (one-sorted q.number q.client q.blocks first.rising first.of_queue) (all-sorted q.number.0 qs ascending.1 later)
    (All-weaker (IsOfQueue q.number q.client) (λ (b : ArgumentBlock). All (IsBefore b) (all_blocks qs))
    (λ b own. All-weaker (λ (c : ArgumentBlock). q.number.0 < c.queue.0) (IsBefore b) (λ c above. let number = ap (λ (n : QueueId). n.0) own.0 in inl (omega (arith, number, above))) (all_blocks qs) (above-all q.number.0 qs ascending.1 later))
    q.blocks first.of_queue)

-- so the first is the least
pub least-found : (test : ArgumentBlock → Bool) (queues : List Queue) → AscendFrom 0 queues → All IsSound queues → IsFirstTo (has_block test (all_blocks queues)) (option_map packet_of (find test (all_blocks queues)))
least-found test queues ascending sound = first-sorted test (all_blocks queues) (all-sorted 0 queues ascending sound)

-- ---- a walk over queues

drop-at : {X : Type 0} (xs : List X) (i : ℕ) (x : X) → i < length xs → get_or xs i x ≡ x → drop i xs ≡ x ∷ drop (i + 1) xs
drop-at xs i x less is = drop_more xs i x less ∙ ap (λ y. y ∷ drop (i + 1) xs) is

module _ (test : ArgumentBlock → Bool) (queues : List Queue) (i : ℕ) (q : Queue) (less : i < length queues) (is : get_or queues i q ≡ q)
    (so_far : find test (all_blocks (drop i queues)) ≡ find test (all_blocks queues)) where
  walk : find test (all_blocks (drop i queues)) ≡ option_or (find test q.blocks) (find test (all_blocks (drop (i + 1) queues)))
  walk = ap (λ qs. find test (all_blocks qs)) (drop-at queues i q less is) ∙ find-append test q.blocks (all_blocks (drop (i + 1) queues))

  -- one that the next queue has is the first
  pub walk-found : (b : ArgumentBlock) → find test q.blocks ≡ Some b → Some b ≡ find test (all_blocks queues)
  walk-found b found = sym (sym so_far ∙ walk ∙ ap (λ o. option_or o (find test (all_blocks (drop (i + 1) queues)))) found)

  -- where it has none, those behind it are looked at
  pub walk-on : find test q.blocks ≡ None → find test (all_blocks (drop (i + 1) queues)) ≡ find test (all_blocks queues)
  walk-on none = sym (walk ∙ ap (λ o. option_or o (find test (all_blocks (drop (i + 1) queues)))) none) ∙ so_far
