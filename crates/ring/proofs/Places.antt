-- Where the words of a ring lie among those of its table: what is seen of them, and what a store in one does to the others.
use Rattle.std.proofs.Common.{◌≡◌, ◌≢◌, ℕ, zero, suc, ◌+◌, ◌-◌, ◌*◌, ◌<◌, ◌≤◌, true, List, [], ◌∷◌, ◌++◌, length, get_or, set, take, drop, replicate, refl, ap, ◌∙◌, sym, arith, length-set, get_or-set_same, get_or-set_other}
use Rattle.std.specs.Prelude.{slice_index, slice_set}
use Rattle.aql_packet.specs.Ring.{is_ring_size}
use Rattle.ring_core.specs.Machine.{word_place, free_slots}
use Rattle.ring_core.proofs.Places.{place_high, place_in, free_length, free_more}
use Rattle.ring_core.proofs.Sizes.{ring_size_bounds}
use Rattle.ring.specs.Places.{table_count, table_place, words_seen}
use Rattle.ring.proofs.Filling.{place_from}

-- ---- lists from a place on

pub drop_at : (k n : ℕ) (xs : List ℕ) → get_or (drop k xs) n 0 ≡ get_or xs (k + n) 0
drop_at zero n xs = let e : n ≡ 0 + n = omega arith in ap (λ i. get_or xs i 0) e
drop_at (suc k) n [] = refl
drop_at (suc k) n (x ∷ xs) = let e : suc (k + n) ≡ suc k + n = omega arith in drop_at k n xs ∙ ap (λ i. get_or (x ∷ xs) i 0) e

drop_set : (k n w : ℕ) (xs : List ℕ) → drop k (set xs (k + n) w) ≡ set (drop k xs) n w
drop_set zero n w xs = let e : 0 + n ≡ n = omega arith in ap (λ i. set xs i w) e
drop_set (suc k) n w [] = refl
drop_set (suc k) n w (x ∷ xs) = let e : suc k + n ≡ suc (k + n) = omega arith in ap (λ i. drop (suc k) (set (x ∷ xs) i w)) e ∙ drop_set k n w xs

-- a store before the place leaves what lies from it on
drop_low : (k i w : ℕ) (xs : List ℕ) → i < k → drop k (set xs i w) ≡ drop k xs
drop_low zero i w xs lt = absurd (omega (arith, lt))
drop_low (suc k) i w [] lt = refl
drop_low (suc k) zero w (x ∷ xs) lt = refl
drop_low (suc k) (suc i) w (x ∷ xs) lt = drop_low k i w xs (omega (arith, lt))

take_one : (k : ℕ) (xs : List ℕ) → k < length xs → take 1 (drop k xs) ≡ get_or xs k 0 ∷ []
take_one zero [] lt = absurd (omega (arith, lt))
take_one zero (x ∷ xs) lt = refl
take_one (suc k) [] lt = absurd (omega (arith, lt))
take_one (suc k) (x ∷ xs) lt = take_one k xs (omega (arith, lt))

drop_length : (k : ℕ) (xs : List ℕ) → length (drop k xs) ≡ length xs - k
drop_length zero xs = omega arith
drop_length (suc k) [] = omega arith
drop_length (suc k) (x ∷ xs) = let h : length (drop k xs) ≡ length xs - k = drop_length k xs in omega (arith, h)

one_at_most : (xs : List ℕ) → (length (take 1 xs) ≤ 1) × (length (take 1 xs) ≤ length xs)
one_at_most [] = (omega arith, omega arith)
one_at_most (x ∷ xs) = (omega arith, omega arith)

both_lengths : (xs ys : List ℕ) → length (xs ++ ys) ≡ length xs + length ys
both_lengths [] ys = omega arith
both_lengths (x ∷ xs) ys = let h : length (xs ++ ys) ≡ length xs + length ys = both_lengths xs ys in omega (arith, h)

-- ---- the words seen

-- where both indices are seen, the table has both
pub wide : (words : List ℕ) → 2 ≤ length (words_seen words) → 32 < length words
wide words least =
    let w : List ℕ = take 1 (drop 16 words) in
    let r : List ℕ = take 1 (drop 32 words) in
    let s : List ℕ = drop 48 words in
    let a : length (w ++ r ++ s) ≡ length (w ++ r) + length s = both_lengths (w ++ r) s in
    let b : length (w ++ r) ≡ length w + length r = both_lengths w r in
    let c : length w ≤ 1 = (one_at_most (drop 16 words)).0 in
    let d : length r ≤ length (drop 32 words) = (one_at_most (drop 32 words)).1 in
    let e : length (drop 32 words) ≡ length words - 32 = drop_length 32 words in
    let f : length s ≡ length words - 48 = drop_length 48 words in
    omega (arith, least, a, b, c, d, e, f)

pub seen_is : (words : List ℕ) → 32 < length words → words_seen words ≡ get_or words 16 0 ∷ get_or words 32 0 ∷ drop 48 words
seen_is words lt = λ i. take_one 16 words (omega (arith, lt)) i ++ take_one 32 words lt i ++ drop 48 words

-- the word at a place of the machine is that at the table's place
pub seen_at : (words : List ℕ) (place : ℕ) → 32 < length words → slice_index (words_seen words) place ≡ slice_index words (table_place place)
seen_at words zero lt = ap (λ (ws : List ℕ). get_or ws 0 0) (seen_is words lt)
seen_at words (suc zero) lt = ap (λ (ws : List ℕ). get_or ws 1 0) (seen_is words lt)
seen_at words (suc (suc n)) lt = ap (λ (ws : List ℕ). get_or ws (suc (suc n)) 0) (seen_is words lt) ∙ drop_at 48 n words

-- a store at the table's place of a place is, on the words seen, that at the place
pub seen_set : (words : List ℕ) (place w : ℕ) → 32 < length words → words_seen (slice_set words (table_place place) w) ≡ slice_set (words_seen words) place w
seen_set words zero w lt =
    let n : length (set words 16 w) ≡ length words = length-set words 16 w in
    seen_is (set words 16 w) (omega (arith, lt, n))
    ∙ (λ i. get_or-set_same words 16 w 0 (omega (arith, lt)) i ∷ get_or-set_other words 16 32 w 0 (λ e. absurd (omega (arith, e))) i ∷ drop_low 48 16 w words (omega arith) i)
    ∙ sym (ap (λ (ws : List ℕ). set ws 0 w) (seen_is words lt))
seen_set words (suc zero) w lt =
    let n : length (set words 32 w) ≡ length words = length-set words 32 w in
    seen_is (set words 32 w) (omega (arith, lt, n))
    ∙ (λ i. get_or-set_other words 32 16 w 0 (λ e. absurd (omega (arith, e))) i ∷ get_or-set_same words 32 w 0 lt i ∷ drop_low 48 32 w words (omega arith) i)
    ∙ sym (ap (λ (ws : List ℕ). set ws 1 w) (seen_is words lt))
seen_set words (suc (suc k)) w lt =
    let n : length (set words (48 + k) w) ≡ length words = length-set words (48 + k) w in
    seen_is (set words (48 + k) w) (omega (arith, lt, n))
    ∙ (λ i. get_or-set_other words (48 + k) 16 w 0 (λ e. absurd (omega (arith, e))) i ∷ get_or-set_other words (48 + k) 32 w 0 (λ e. absurd (omega (arith, e))) i ∷ drop_set 48 k w words i)
    ∙ sym (ap (λ (ws : List ℕ). set ws (suc (suc k)) w) (seen_is words lt))

-- and it leaves every other word of the table, the gaps among them
pub gaps_kept : (words : List ℕ) (place w other : ℕ) → other ≢ table_place place → slice_index (slice_set words (table_place place) w) other ≡ slice_index words other
gaps_kept words place w other ne = get_or-set_other words (table_place place) other w 0 ne

-- ---- the places of slots

pub table_high : (place : ℕ) → place ≢ 0 → place ≢ 1 → table_place place ≡ place + 46
table_high zero a b = absurd (a refl)
table_high (suc zero) a b = absurd (b refl)
table_high (suc (suc n)) a b = omega arith

pub table_slot : (n : ℕ) → table_place (2 + n) ≡ 48 + n
table_slot n = let e : 2 + n ≡ suc (suc n) = omega arith in ap table_place e

pub table_in : (place n : ℕ) → place < 2 + n → table_place place < 48 + n
table_in zero n lt = omega arith
table_in (suc zero) n lt = omega arith
table_in (suc (suc k)) n lt = omega (arith, lt)

-- word k of a slot lies k behind its header
pub table_from : (size id k : ℕ) → table_place (word_place size id 0) + k ≡ table_place (word_place size id k)
table_from size id k =
    let a : 2 ≤ word_place size id 0 = place_high size id 0 in
    let b : 2 ≤ word_place size id k = place_high size id k in
    let e : word_place size id 0 + k ≡ word_place size id k = place_from size id k in
    let f : table_place (word_place size id 0) ≡ word_place size id 0 + 46 = table_high (word_place size id 0) (λ z. absurd (omega (arith, a, z))) (λ z. absurd (omega (arith, a, z))) in
    let g : table_place (word_place size id k) ≡ word_place size id k + 46 = table_high (word_place size id k) (λ z. absurd (omega (arith, b, z))) (λ z. absurd (omega (arith, b, z))) in
    omega (arith, e, f, g)

pub slot_in : (size id : ℕ) → is_ring_size size ≡ true → (word_place size id 0 < 32770) × (table_place (word_place size id 0) < 32816)
slot_in size id fits =
    let b = ring_size_bounds size fits in
    let few : size ≤ 4096 = b.1 in
    let lt : word_place size id 0 < 2 + 8 * size = place_in size id 0 b.0 (omega arith) in
    (omega (arith, few, lt), (let in_ : table_place (word_place size id 0) < 48 + 8 * size = table_in (word_place size id 0) (8 * size) lt in omega (arith, few, in_)))

-- ---- the opening

pub opening_count : (size : ℕ) → length (replicate 48 0 ++ free_slots size) ≡ table_count size
opening_count size = let n : length (free_slots size) ≡ 8 * size = free_length size in omega (arith, n)

pub opening_more : (n : ℕ) → replicate 48 0 ++ free_slots (n + 1) ≡ (replicate 48 0 ++ free_slots n) ++ (1 ∷ 0 ∷ 0 ∷ 0 ∷ 0 ∷ 0 ∷ 0 ∷ 0 ∷ [])
opening_more n = ap (λ (ws : List ℕ). replicate 48 0 ++ ws) (free_more n)
