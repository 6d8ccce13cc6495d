-- Blocks in the order of launches: the next is the one with the lowest number of those that aren't told yet.
use Rattle.std.proofs.Common.{◌≡◌, ℕ, ◌+◌, ◌<◌, ◌≤◌, ◌⊎◌, inl, inr, Bool, true, false, List, [], ◌∷◌, ◌++◌, length, length-append, filter, fold, refl, sym, ◌∙◌, ap, subst, Option, Some, None, arith, All, nat_le, nat_lt, if◌then◌else◌}
use Rattle.std.specs.List.{Contains, filter_map}
use Rattle.std.specs.Prelude.{option_to_list}
use Rattle.std.specs.List.{cons_option}
use Rattle.std.proofs.lemmas.List.{append_assoc}
use Rattle.std.proofs.lemmas.List.Elements.{All-contains, Contains-append_left, Contains-push}
use Rattle.core_model.specs.declared.origin.PacketOrigin.{PacketOrigin}
use Rattle.access_core.specs.inner.ArgumentBlocks.{Ascend, by_number}
use Rattle.access_core.specs.inner.Origins.{AreInOrder, packet_origin, sooner}
use Rattle.access_core.specs.inner.Ready.{later}
use Rattle.access_core.proofs.Ascending.{filter-every, filter-none}
use Rattle.access_core.proofs.Lying.{all-alike, contains-cases}
use Rattle.access_core.proofs.Terms.{All-head, All-nil, All-push, All-tail, All-weaker, ArgumentBlock, Queue, all_blocks, append-nil, ltb-false, ltb-true}

-- ---- the soonest of a list

-- This is the block with the lowest number of those that aren't below one; none where none is.
abbrev pub IsSoonest : ℕ → List ArgumentBlock → Option ArgumentBlock → Type 0
IsSoonest from bs None = All (λ (b : ArgumentBlock). b.number < from) bs
IsSoonest from bs (Some one) = Contains bs one × (from ≤ one.number) × All (λ (b : ArgumentBlock). (b.number < from) ⊎ (one.number ≤ b.number)) bs

module _ (from : ℕ) where
  abbrev Past : ArgumentBlock → Type 0
  Past b = b.number < from

  abbrev NotBefore : ArgumentBlock → ArgumentBlock → Type 0
  NotBefore one b = (b.number < from) ⊎ (one.number ≤ b.number)

  -- one block more
  step : (done : List ArgumentBlock) (b : ArgumentBlock) (o : Option ArgumentBlock) → IsSoonest from done o → IsSoonest from (done ++ b ∷ []) (sooner from o b)
  step done b None is = by_test (nat_lt b.number from) refl
    where
      by_test : (x : Bool) → nat_lt b.number from ≡ x → IsSoonest from (done ++ b ∷ []) (if x then None else Some b)
      by_test true past = All-push Past done b is (ltb-true _ _ past)
      by_test false late = (
        Contains-push done b,
        ltb-false _ _ late,
        All-push (NotBefore b) done b (All-weaker Past (NotBefore b) (λ c past. inl past) done is) (inr (omega arith)),
      )
  step done b (Some one) is = by_test (nat_lt b.number from) refl
    where
      by_order : (x : Bool) → from ≤ b.number → nat_le one.number b.number ≡ x → IsSoonest from (done ++ b ∷ []) (if x then Some one else Some b)
      by_order true late before = (
        Contains-append_left done (b ∷ []) one is.0,
        is.1,
        All-push (NotBefore one) done b is.2 (inr (ordered before)),
      )
        where
          ordered : nat_le one.number b.number ≡ true → one.number ≤ b.number
          ordered before = grind arith
      by_order false late behind = (
        Contains-push done b,
        late,
        All-push (NotBefore b) done b (All-weaker (NotBefore one) (NotBefore b) later done is.2) (inr (omega arith)),
      )
        where
          below : b.number < one.number
          below = grind arith

          later : (c : ArgumentBlock) → NotBefore one c → NotBefore b c
          later c (inl past) = inl past
          later c (inr up) = let less = below in inr (omega (arith, up, less))

      by_test : (x : Bool) → nat_lt b.number from ≡ x → IsSoonest from (done ++ b ∷ []) (if x then Some one else if nat_le one.number b.number then Some one else Some b)
      by_test true past = (Contains-append_left done (b ∷ []) one is.0, is.1, All-push (NotBefore one) done b is.2 (inl (ltb-true _ _ past)))
      by_test false late = by_order (nat_le one.number b.number) (ltb-false _ _ late) refl

  steps : (done bs : List ArgumentBlock) (o : Option ArgumentBlock) → IsSoonest from done o → IsSoonest from (done ++ bs) (fold (sooner from) o bs)
  steps done [] o is = subst (λ ds. IsSoonest from ds o) (sym (append-nil done)) is
  steps done (b ∷ bs) o is =
      subst (λ ds. IsSoonest from ds (fold (sooner from) o (b ∷ bs))) (append_assoc done (b ∷ []) bs)
      (steps (done ++ b ∷ []) bs (sooner from o b) (step done b o is))

  pub soonest-is : (bs : List ArgumentBlock) → IsSoonest from bs (fold (sooner from) None bs)
  soonest-is bs = steps [] bs None (All-nil Past)

-- ---- those that aren't told yet

le-false : (m n : ℕ) → n < m → nat_le m n ≡ false
le-false m n less = grind arith

le-true : (m n : ℕ) → m ≤ n → nat_le m n ≡ true
le-true m n less = grind arith

pub later-all : (bs : List ArgumentBlock) → later 0 bs ≡ bs
later-all bs = filter-every (λ (b : ArgumentBlock). nat_le 0 b.number) bs (λ k d less. le-true 0 _ (omega arith))

pub later-none : (from : ℕ) (bs : List ArgumentBlock) → All (λ (b : ArgumentBlock). b.number < from) bs → later from bs ≡ []
later-none from bs past = filter-none (λ (b : ArgumentBlock). nat_le from b.number) bs (All-weaker (λ (b : ArgumentBlock). b.number < from) (λ (b : ArgumentBlock). nat_le from b.number ≡ false) (λ b less. le-false from b.number less) bs past)

-- the soonest is the first of them
later-one : (from : ℕ) (bs : List ArgumentBlock) (one : ArgumentBlock) → Ascend by_number bs → Contains bs one → from ≤ one.number
    → All (NotBefore from one) bs → later from bs ≡ one ∷ later (one.number + 1) bs
later-one from [] one rises there late all = let less = there.1 in absurd (omega (arith, less))
later-one from (x ∷ xs) one rises there late all = by_case (λ behind. later-one from xs one rises.1 behind late (All-tail (NotBefore from one) x xs all)) (contains-cases x xs one there)
  where
    by_case : (Contains xs one → later from xs ≡ one ∷ later (one.number + 1) xs) → (x ≡ one) ⊎ Contains xs one → later from (x ∷ xs) ≡ one ∷ later (one.number + 1) (x ∷ xs)
    by_case more (inl same) =
        let number = ap (λ (b : ArgumentBlock). b.number) same in
        let first : nat_le from x.number ≡ true = le-true from x.number (omega (arith, number, late)) in
        let gone : nat_le (one.number + 1) x.number ≡ false = le-false (one.number + 1) x.number (omega (arith, number)) in
        let up : All (λ (b : ArgumentBlock). by_number x < by_number b) xs = rises.0 in
        let all_later = filter-every (λ (b : ArgumentBlock). nat_le from b.number) xs
        (All-weaker (λ (b : ArgumentBlock). by_number x < by_number b) (λ (b : ArgumentBlock). nat_le from b.number ≡ true) (λ b above. le-true from b.number (omega (arith, above, number, late))) xs up) in
        let all_behind = filter-every (λ (b : ArgumentBlock). nat_le (one.number + 1) b.number) xs
        (All-weaker (λ (b : ArgumentBlock). by_number x < by_number b) (λ (b : ArgumentBlock). nat_le (one.number + 1) b.number ≡ true) (λ b above. le-true (one.number + 1) b.number (omega (arith, above, number))) xs up) in
        rw (first, gone, all_later, all_behind) (ap (λ b. b ∷ xs) same)
    by_case more (inr behind) =
        let above = All-contains (λ (b : ArgumentBlock). by_number x < by_number b) xs one rises.0 behind in
        let past : x.number < from = not_late (All-head (NotBefore from one) x xs all) above in
        let first : nat_le from x.number ≡ false = le-false from x.number past in
        let gone : nat_le (one.number + 1) x.number ≡ false = le-false (one.number + 1) x.number (omega (arith, above)) in
        rw (first, gone) (more behind)
      where
        not_late : NotBefore from one x → x.number < one.number → x.number < from
        not_late (inl past) above = past
        not_late (inr up) above = absurd (omega (arith, up, above))

module _ (queues : List Queue) (count : ℕ) (blocks : List ArgumentBlock) (are : AreInOrder queues count blocks) (from : ℕ) where
  -- where none is found, none is left
  pub none-left : fold (sooner from) None (all_blocks queues) ≡ None → later from blocks ≡ []
  none-left none =
      later-none from blocks (all-alike (λ (b : ArgumentBlock). b.number < from) (all_blocks queues) blocks are.lie_there
      (subst (IsSoonest from (all_blocks queues)) none (soonest-is from (all_blocks queues))))

  -- one that is found is the next
  pub next-left : (one : ArgumentBlock) → fold (sooner from) None (all_blocks queues) ≡ Some one → later from blocks ≡ one ∷ later (one.number + 1) blocks
  next-left one found =
      let is : IsSoonest from (all_blocks queues) (Some one) = subst (IsSoonest from (all_blocks queues)) found (soonest-is from (all_blocks queues)) in
      later-one from blocks one are.in_order (are.lie one is.0) is.1
      (all-alike (λ (b : ArgumentBlock). (b.number < from) ⊎ (one.number ≤ b.number)) (all_blocks queues) blocks are.lie_there is.2)

-- it lies in the queues
pub found-there : (queues : List Queue) (from : ℕ) (one : ArgumentBlock) → fold (sooner from) None (all_blocks queues) ≡ Some one → Contains (all_blocks queues) one
found-there queues from one found =
    let is : IsSoonest from (all_blocks queues) (Some one) = subst (IsSoonest from (all_blocks queues)) found (soonest-is from (all_blocks queues)) in
    is.0

-- ---- what is told so far

-- These origins are told, and of those whose number isn't below one they aren't yet.
pub record AreTold (queues : List Queue) (blocks : List ArgumentBlock) (origins : List PacketOrigin) (from turns : ℕ) : Type 0 where
  pub so_far : origins ++ filter_map (packet_origin queues) (later from blocks) ≡ filter_map (packet_origin queues) blocks
  pub left : turns + length (later from blocks) ≡ length blocks
  pub few : length origins ≤ turns

pub told-none : (queues : List Queue) (blocks : List ArgumentBlock) → AreTold queues blocks [] 0 0
told-none queues blocks = record { so_far = ap (filter_map (packet_origin queues)) (later-all blocks); left = let all = ap length (later-all blocks) in omega (arith, all); few = omega arith }

one_told : (o : Option PacketOrigin) (more : List PacketOrigin) → option_to_list o ++ more ≡ cons_option o more
one_told None more = refl
one_told (Some p) more = refl

one-more : (o : Option PacketOrigin) → length (option_to_list o) ≤ 1
one-more None = omega arith
one-more (Some p) = omega arith

pub told-next : (queues : List Queue) (count : ℕ) (blocks : List ArgumentBlock) → AreInOrder queues count blocks → (origins new : List PacketOrigin) (from turns : ℕ) (one : ArgumentBlock)
    → fold (sooner from) None (all_blocks queues) ≡ Some one → new ≡ origins ++ option_to_list (packet_origin queues one) → AreTold queues blocks origins from turns
    → AreTold queues blocks new (one.number + 1) (turns + 1)
told-next queues count blocks are origins new from turns one found is was =
    let next = next-left queues count blocks are from one found in
    let shorter = ap length next in
    let before = was.left in
    record {
      so_far = ap (λ told. told ++ filter_map (packet_origin queues) (later (one.number + 1) blocks)) is
          ∙ append_assoc origins (option_to_list (packet_origin queues one)) (filter_map (packet_origin queues) (later (one.number + 1) blocks))
          ∙ ap (λ more. origins ++ more) (one_told (packet_origin queues one) (filter_map (packet_origin queues) (later (one.number + 1) blocks)) ∙ ap (filter_map (packet_origin queues)) (sym next))
          ∙ was.so_far;
      left = omega (arith, shorter, before);
      few =
          let longer = ap length is ∙ length-append origins (option_to_list (packet_origin queues one)) in
          let most = one-more (packet_origin queues one) in
          let fewer = was.few in
          omega (arith, longer, most, fewer);
    }

-- as many turns as there are blocks tell all
pub told-all : (queues : List Queue) (count : ℕ) (blocks : List ArgumentBlock) → AreInOrder queues count blocks → (origins : List PacketOrigin) (from turns : ℕ) → count ≤ turns
    → AreTold queues blocks origins from turns → origins ≡ filter_map (packet_origin queues) blocks
told-all queues count blocks are origins from turns enough was =
    let before = was.left in
    let all = are.are_all in
    let none : length (later from blocks) ≡ 0 = omega (arith, before, all, enough) in
    sym (append-nil origins) ∙ ap (λ more. origins ++ more) (sym (ap (filter_map (packet_origin queues)) (empty (later from blocks) none))) ∙ was.so_far
  where
    empty : (bs : List ArgumentBlock) → length bs ≡ 0 → bs ≡ []
    empty [] is = refl
    empty (b ∷ bs) is = absurd (omega (arith, is))

-- and none is found while some are left
pub none-found : (queues : List Queue) (count : ℕ) (blocks : List ArgumentBlock) → AreInOrder queues count blocks → (origins : List PacketOrigin) (from turns : ℕ) → turns < count
    → fold (sooner from) None (all_blocks queues) ≡ None → AreTold queues blocks origins from turns → ⊥
none-found queues count blocks are origins from turns less none was =
    let empty = ap length (none-left queues count blocks are from none) in
    let before = was.left in
    let all = are.are_all in
    omega (arith, empty, before, all, less)

-- it isn't before the number
pub found-late : (queues : List Queue) (from : ℕ) (one : ArgumentBlock) → fold (sooner from) None (all_blocks queues) ≡ Some one → from ≤ one.number
found-late queues from one found =
    let is : IsSoonest from (all_blocks queues) (Some one) = subst (IsSoonest from (all_blocks queues)) found (soonest-is from (all_blocks queues)) in
    is.1
