-- No more packets are in flight than all queues have places for.
use Rattle.std.proofs.Common.{◌≡◌, ℕ, ◌+◌, ◌*◌, ◌≤◌, ◌||◌, ◌⊎◌, inl, inr, Bool, true, false, not, List, [], ◌∷◌, length, filter, refl, sym, ◌∙◌, ap, subst, Option, Some, None, arith, All, if◌then◌else◌}
use Rattle.std.specs.List.{Contains, list_any}
use Rattle.std.proofs.lemmas.Bool.{eq-eqb}
use Rattle.std.proofs.lemmas.List.Elements.{All-contains, All-contains_itself, Contains-append_cases}
use Rattle.core_model.specs.declared.limits.TheConstants.{ALL_IN_FLIGHT, MOST_IN_FLIGHT, QUEUES}
use Rattle.packet_processor.specs.declared.places.Place.{Place}
use Rattle.access_core.specs.inner.ArgumentBlocks.{IsOfQueue, blocks_in, is_of}
use Rattle.access_core.specs.inner.CachedQueue.{AreLaid, IsSound}
use Rattle.access_core.specs.inner.Numbers.{queue_in}
use Rattle.access_core.proofs.Laid.{blocks-count}
use Rattle.access_core.proofs.Lying.{are-in_order}
use Rattle.access_core.proofs.ReadyLemmas.{filter-fewer}
use Rattle.access_core.proofs.ChangedQueue.{sound-at}
use Rattle.access_core.proofs.Terms.{length-map, All-filter, All-head, All-tail, All-weaker, ArgumentBlock, Inside, IsCached, Queue, QueueId, all_blocks}

-- a list is parted by a test
parted : {X : Type 0} (test : X → Bool) (xs : List X) → length xs ≡ length (filter test xs) + length (filter (λ x. not (test x)) xs)
parted test [] = refl
parted test (x ∷ xs) = by_test (test x) (parted test xs)
  where
    by_test : (b : Bool) → length xs ≡ length (filter test xs) + length (filter (λ x. not (test x)) xs)
        → length (x ∷ xs) ≡ length (if b then x ∷ filter test xs else filter test xs) + length (if not b then x ∷ filter (λ x. not (test x)) xs else filter (λ x. not (test x)) xs)
    by_test true is = omega (arith, is)
    by_test false is = omega (arith, is)

-- whether a block is of a packet of one of some queues
abbrev is_of_one : List Queue → ArgumentBlock → Bool
is_of_one qs b = list_any (λ (q : Queue). is_of q.number b) qs

few-blocks : (qs : List Queue) (bs : List ArgumentBlock) → All (λ (b : ArgumentBlock). is_of_one qs b ≡ true) bs → ((queue : QueueId) → length (filter (is_of queue) bs) ≤ MOST_IN_FLIGHT)
    → length bs ≤ MOST_IN_FLIGHT * length qs
few-blocks [] [] lie few = omega arith
few-blocks [] (b ∷ bs) lie few = let no = All-head (λ (b : ArgumentBlock). is_of_one [] b ≡ true) b bs lie in absurd cc
few-blocks (q ∷ qs) bs lie few =
    let whole = parted (is_of q.number) bs in
    let own = few q.number in
    let rest = few-blocks qs (filter (λ b. not (is_of q.number b)) bs) others fewer in
    omega (arith, whole, own, rest)
  where
    fewer : (queue : QueueId) → length (filter (is_of queue) (filter (λ b. not (is_of q.number b)) bs)) ≤ MOST_IN_FLIGHT
    fewer queue = let less = filter-fewer (is_of queue) (λ b. not (is_of q.number b)) bs in let all = few queue in omega (arith, less, all)

    others : All (λ (b : ArgumentBlock). is_of_one qs b ≡ true) (filter (λ b. not (is_of q.number b)) bs)
    others = kept bs lie
      where
        kept : (xs : List ArgumentBlock) → All (λ (b : ArgumentBlock). is_of_one (q ∷ qs) b ≡ true) xs → All (λ (b : ArgumentBlock). is_of_one qs b ≡ true) (filter (λ b. not (is_of q.number b)) xs)
        kept [] all = grind arith
        kept (x ∷ xs) all = grind (arith, kept xs (All-tail (λ (b : ArgumentBlock). is_of_one (q ∷ qs) b ≡ true) x xs all), All-head (λ (b : ArgumentBlock). is_of_one (q ∷ qs) b ≡ true) x xs all)

-- a block that lies in queues is of one of them
of-one-there : (qs : List Queue) (b : ArgumentBlock) → All IsSound qs → Contains (all_blocks qs) b → is_of_one qs b ≡ true
of-one-there [] b sound there = let none = there.1 in absurd (omega (arith, none))
of-one-there (q ∷ qs) b sound there = by_place (of-one-there qs b (All-tail IsSound q qs sound)) (Contains-append_cases q.blocks (all_blocks qs) b there)
  where
    by_place : (Contains (all_blocks qs) b → is_of_one qs b ≡ true) → Contains q.blocks b ⊎ Contains (all_blocks qs) b → is_of_one (q ∷ qs) b ≡ true
    by_place more (inl here) =
        let its : IsOfQueue q.number q.client b = All-contains (IsOfQueue q.number q.client) q.blocks b (All-head IsSound q qs sound).of_queue here in
        ap (λ (x : Bool). x || is_of_one qs b) (eq-eqb _ _ (ap (λ (k : QueueId). k.0) its.0))
    by_place more (inr behind) = ap (λ (x : Bool). is_of q.number b || x) (more behind) ∙ either (is_of q.number b)
      where
        either : (x : Bool) → (x || true) ≡ true
        either true = refl
        either false = refl

module _ (a : Inside) (kept : IsCached a) where
  few-of : (queue : QueueId) → length (filter (is_of queue) kept.blocks) ≤ MOST_IN_FLIGHT
  few-of queue = subst (λ bs. length bs ≤ MOST_IN_FLIGHT) (kept.laid.in_queues queue) (by_queue (queue_in a.queues.items queue) refl)
    where
      by_queue : (o : Option Queue) → queue_in a.queues.items queue ≡ o → length (blocks_in o) ≤ MOST_IN_FLIGHT
      by_queue None none = omega arith
      by_queue (Some q) found =
          let sound = sound-at a.queues.items queue q kept.sound found in
          let as_many = sym (length-map q.blocks (λ (b : ArgumentBlock). b.packet)) ∙ ap length sound.given ∙ length-map q.places (λ (p : Place). p.id) in
          let free = sound.free in
          omega (arith, as_many, free)

  pub few-in-flight : a.in_flight_count ≤ ALL_IN_FLIGHT
  few-in-flight =
      let lie = All-weaker (λ (b : ArgumentBlock). Contains kept.blocks b) (λ (b : ArgumentBlock). is_of_one a.queues.items b ≡ true)
      (λ b there. of-one-there a.queues.items b kept.sound ((are-in_order a kept).lie_there b there)) kept.blocks (All-contains_itself kept.blocks) in
      let most = few-blocks a.queues.items kept.blocks lie few-of in
      let count = blocks-count a kept in
      let queues = kept.few_queues in
      omega (arith, most, count, queues)
