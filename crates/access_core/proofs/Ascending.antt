-- Blocks whose ids or numbers ascend: one more behind them, one taken out, and where one of them lies.
use Rattle.std.proofs.Common.{◌≡◌, ℕ, zero, suc, ◌+◌, ◌<◌, ◌==◌, Bool, true, false, not, List, [], ◌∷◌, ◌++◌, length, filter, find, refl, sym, ◌∙◌, ap, subst, option_map, Some, arith, slice_get, All, if◌then◌else◌}
use Rattle.std.specs.List.{remove}
use Rattle.std.proofs.lemmas.Bool.{eq-eqb}
use Rattle.access_core.specs.inner.ArgumentBlocks.{AreOfPlaces, Ascend}
use Rattle.access_core.specs.inner.QueueChanges.{without_block}
use Rattle.access_core.proofs.Terms.{All-cons, All-filter, All-head, All-nil, All-push, All-tail, All-weaker, ArgumentBlock, PacketId, Place, is_place_of, without_packet}

-- what holds of each holds of one that lies there
pub all-at : {X : Type 0} (P : X → Type 0) (xs : List X) (i : ℕ) (x : X) → All P xs → slice_get xs i ≡ Some x → P x
all-at P [] i x all at = absurd cc
all-at P (y ∷ ys) zero x all at = let same : y ≡ x = cc in subst P same (All-head P y ys all)
all-at P (y ∷ ys) (suc i) x all at = all-at P ys i x (All-tail P y ys all) at

-- where each passes, all are left
pub filter-every : {X : Type 0} (test : X → Bool) (xs : List X) → All (λ x. test x ≡ true) xs → filter test xs ≡ xs
filter-every test [] all = refl
filter-every test (x ∷ xs) all = grind (arith, All-head (λ x. test x ≡ true) x xs all, filter-every test xs (All-tail (λ x. test x ≡ true) x xs all))

-- and where none does, none
pub filter-none : {X : Type 0} (test : X → Bool) (xs : List X) → All (λ x. test x ≡ false) xs → filter test xs ≡ []
filter-none test [] all = refl
filter-none test (x ∷ xs) all = grind (arith, All-head (λ x. test x ≡ false) x xs all, filter-none test xs (All-tail (λ x. test x ≡ false) x xs all))

module _ (key : ArgumentBlock → ℕ) where
  -- one behind them that is above all
  pub ascend-with : (bs : List ArgumentBlock) (b : ArgumentBlock) → Ascend key bs → All (λ c. key c < key b) bs → Ascend key (bs ++ b ∷ [])
  ascend-with [] b rises below = (All-nil (λ c. key b < key c), tt)
  ascend-with (x ∷ xs) b rises below = (
    All-push (λ c. key x < key c) xs b rises.0 (All-head (λ c. key c < key b) x xs below),
    ascend-with xs b rises.1 (All-tail (λ c. key c < key b) x xs below),
  )

  -- some of them taken out
  pub ascend-some : (test : ArgumentBlock → Bool) (bs : List ArgumentBlock) → Ascend key bs → Ascend key (filter test bs)
  ascend-some test [] rises = tt
  ascend-some test (x ∷ xs) rises = by_test (ascend-some test xs rises.1) (test x)
    where
      by_test : Ascend key (filter test xs) → (b : Bool) → Ascend key (if b then x ∷ filter test xs else filter test xs)
      by_test rest true = (All-filter test (λ c. key x < key c) xs rises.0, rest)
      by_test rest false = rest

  -- one taken out where it lies
  pub out-at : (bs : List ArgumentBlock) (i : ℕ) (one : ArgumentBlock) (n : ℕ) → Ascend key bs → slice_get bs i ≡ Some one → key one ≡ n → remove bs i ≡ filter (λ b. not (key b == n)) bs
  out-at [] i one n rises at is = absurd cc
  out-at (x ∷ xs) zero one n rises at is =
      let here : x ≡ one = cc in
      let same : key x ≡ n = ap key here ∙ is in
      let test : (key x == n) ≡ true = eq-eqb _ _ same in
      let others = filter-every (λ b. not (key b == n)) xs (All-weaker (λ c. key x < key c) (λ c. not (key c == n) ≡ true) (λ c above. other (key c) n (omega (arith, above, same))) xs rises.0) in
      rw test (sym others)
    where
      other : (m k : ℕ) → k < m → not (m == k) ≡ true
      other m k above = grind arith
  out-at (x ∷ xs) (suc i) one n rises at is =
      let above = all-at (λ c. key x < key c) xs i one rises.0 at in
      let test : (key x == n) ≡ false = other (key x) n (omega (arith, above, is)) in
      rw test (ap (λ ys. x ∷ ys) (out-at xs i one n rises.1 at is))
    where
      other : (m k : ℕ) → m < k → (m == k) ≡ false
      other m k below = grind arith

  -- and one found where it lies
  pub found-at : (bs : List ArgumentBlock) (i : ℕ) (one : ArgumentBlock) (n : ℕ) → Ascend key bs → slice_get bs i ≡ Some one → key one ≡ n → find (λ b. key b == n) bs ≡ Some one
  found-at [] i one n rises at is = absurd cc
  found-at (x ∷ xs) zero one n rises at is =
      let here : x ≡ one = cc in
      let test : (key x == n) ≡ true = eq-eqb _ _ (ap key here ∙ is) in
      rw test (ap Some here)
  found-at (x ∷ xs) (suc i) one n rises at is =
      let above = all-at (λ c. key x < key c) xs i one rises.0 at in
      let test : (key x == n) ≡ false = other (key x) n (omega (arith, above, is)) in
      rw test (found-at xs i one n rises.1 at is)
    where
      other : (m k : ℕ) → m < k → (m == k) ≡ false
      other m k below = grind arith

-- ---- blocks of places

-- The block that lies at the place of a packet.
pub record IsBlockAt (bs : List ArgumentBlock) (i : ℕ) (id : PacketId) : Type 0 where
  pub block : ArgumentBlock
  pub at : slice_get bs i ≡ Some block
  pub within : i < length bs
  pub packet_is : block.packet ≡ id

pub block-at : (ps : List Place) (bs : List ArgumentBlock) (i : ℕ) (id : PacketId) → AreOfPlaces ps bs → option_map (λ (p : Place). p.id) (slice_get ps i) ≡ Some id → IsBlockAt bs i id
block-at [] [] i id are found = absurd cc
block-at [] (b ∷ bs) i id are found = absurd cc
block-at (p ∷ ps) [] i id are found = absurd cc
block-at (p ∷ ps) (b ∷ bs) zero id are found =
    let head : b.packet ≡ p.id = cc in
    let named : p.id ≡ id = cc in
    record { block = b; at = refl; within = omega arith; packet_is = head ∙ named }
block-at (p ∷ ps) (b ∷ bs) (suc i) id are found =
    let rest : AreOfPlaces ps bs = cc in
    let there = block-at ps bs i id rest found in
    record { block = there.block; at = there.at; within = let less = there.within in omega (arith, less); packet_is = there.packet_is }

-- there are as many
pub as-many : (ps : List Place) (bs : List ArgumentBlock) → AreOfPlaces ps bs → length bs ≡ length ps
as-many [] [] are = refl
as-many [] (b ∷ bs) are = absurd cc
as-many (p ∷ ps) [] are = absurd cc
as-many (p ∷ ps) (b ∷ bs) are = let rest : AreOfPlaces ps bs = cc in let same = as-many ps bs rest in omega (arith, same)

-- ids of both are below the same
pub ids-below : (n : ℕ) (ps : List Place) (bs : List ArgumentBlock) → AreOfPlaces ps bs → All (λ (p : Place). p.id.0 < n) ps → All (λ (b : ArgumentBlock). b.packet.0 < n) bs
ids-below n [] [] are below = All-nil (λ (b : ArgumentBlock). b.packet.0 < n)
ids-below n [] (b ∷ bs) are below = absurd cc
ids-below n (p ∷ ps) [] are below = absurd cc
ids-below n (p ∷ ps) (b ∷ bs) are below =
    let head : b.packet ≡ p.id = cc in
    let rest : AreOfPlaces ps bs = cc in
    let first : b.packet.0 < n = subst (λ (id : PacketId). id.0 < n) (sym head) (All-head (λ (p : Place). p.id.0 < n) p ps below) in
    All-cons (λ (b : ArgumentBlock). b.packet.0 < n) b bs first (ids-below n ps bs rest (All-tail (λ (p : Place). p.id.0 < n) p ps below))

-- a packet leaves, and its block with it
pub of-left : (id : PacketId) (ps : List Place) (bs : List ArgumentBlock) → AreOfPlaces ps bs → AreOfPlaces (without_packet id ps) (without_block (Some id) bs)
of-left id [] [] are = refl
of-left id [] (b ∷ bs) are = absurd cc
of-left id (p ∷ ps) [] are = absurd cc
of-left id (p ∷ ps) (b ∷ bs) are =
    let head : b.packet ≡ p.id = cc in
    let rest : AreOfPlaces ps bs = cc in
    let named : (b.packet.0 == id.0) ≡ is_place_of id p = ap (λ (n : PacketId). n.0 == id.0) head in
    by_test head (of-left id ps bs rest) (is_place_of id p) named
  where
    by_test : b.packet ≡ p.id → AreOfPlaces (without_packet id ps) (without_block (Some id) bs) → (x : Bool) → (b.packet.0 == id.0) ≡ x
        → AreOfPlaces (if not x then p ∷ without_packet id ps else without_packet id ps) (without_block (Some id) (b ∷ bs))
    by_test head rest true is = rw is rest
    by_test head rest false is = rw is (λ i. head i ∷ rest i)
