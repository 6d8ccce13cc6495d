-- Where the words of a ring lie, and what a store in one does to the others.
use Rattle.std.proofs.Common.{◌≡◌, ◌≢◌, ℕ, zero, suc, ◌+◌, ◌*◌, ◌%◌, ◌<◌, ◌≤◌, List, [], ◌∷◌, ◌++◌, add-one, length, get_or, set, refl, ap, arith, get_or-set_other}
use Rattle.std.proofs.Math.Nat.{add-mod_right}
use Rattle.ring_core.specs.Machine.{word_place, free_slots}

pub place_in : (size id k : ℕ) → 0 < size → k < 8 → word_place size id k < 2 + 8 * size
unfolding word_place
place_in size id k pos lt = omega arith

pub place_high : (size id k : ℕ) → 2 ≤ word_place size id k
unfolding word_place
place_high size id k = omega arith

-- two places are one only for one slot and one word
pub place_differs : (size i j k l : ℕ) → k < 8 → l < 8 → (i % size ≡ j % size → k ≢ l) → word_place size i k ≢ word_place size j l
unfolding word_place
place_differs size i j k l hk hl apart same =
    let e : i % size ≡ j % size = omega (arith, same, hk, hl) in
    let f : k ≡ l = omega (arith, same, hk, hl) in
    apart e f

-- the slot of an id comes round again
pub place_round : (size id k : ℕ) → word_place size (id + size) k ≡ word_place size id k
unfolding word_place
place_round size id k = ap (λ r. 2 + 8 * r + k) (add-mod_right id size)

-- a store in a slot leaves the two indices
pub low_kept : (words : List ℕ) (size id k w place : ℕ) → place < 2 → get_or (set words (word_place size id k) w) place 0 ≡ get_or words place 0
low_kept words size id k w place low =
    let ne : place ≢ word_place size id k = omega (arith, place_high size id k) in
    get_or-set_other words (word_place size id k) place w 0 ne

-- a store in an index leaves the slots
pub slots_kept : (words : List ℕ) (size id k w place : ℕ) → place < 2 → get_or (set words place w) (word_place size id k) 0 ≡ get_or words (word_place size id k) 0
slots_kept words size id k w place low =
    let ne : word_place size id k ≢ place = omega (arith, place_high size id k) in
    get_or-set_other words place (word_place size id k) w 0 ne

-- so many free slots have 8 words each, the first of each 1
pub free_length : (n : ℕ) → length (free_slots n) ≡ 8 * n
free_length zero = refl
free_length (suc n) = omega (arith, free_length n)

pub free_more : (n : ℕ) → free_slots (n + 1) ≡ free_slots n ++ (1 ∷ 0 ∷ 0 ∷ 0 ∷ 0 ∷ 0 ∷ 0 ∷ 0 ∷ [])
free_more n = rw add-one (more n)
  where
    more : (n : ℕ) → free_slots (suc n) ≡ free_slots n ++ (1 ∷ 0 ∷ 0 ∷ 0 ∷ 0 ∷ 0 ∷ 0 ∷ 0 ∷ [])
    more zero = refl
    more (suc n) = ap (λ (ws : List ℕ). 1 ∷ 0 ∷ 0 ∷ 0 ∷ 0 ∷ 0 ∷ 0 ∷ 0 ∷ ws) (more n)

free_header : (n i : ℕ) → i < n → get_or (free_slots n) (8 * i) 0 ≡ 1
free_header zero i lt = absurd (omega arith)
free_header (suc n) zero lt = refl
free_header (suc n) (suc i) lt =
    let e : 8 * suc i ≡ suc (suc (suc (suc (suc (suc (suc (suc (8 * i)))))))) = omega arith in
    rw e (free_header n i (omega arith))

pub free_word : (size id : ℕ) → 0 < size → get_or (0 ∷ 0 ∷ free_slots size) (word_place size id 0) 0 ≡ 1
unfolding word_place
free_word size id pos =
    let lt : id % size < size = omega arith in
    let e : 2 + 8 * (id % size) + 0 ≡ suc (suc (8 * (id % size))) = omega arith in
    rw e (free_header size (id % size) lt)
