-- Numbers put one after the other into zeros, and read again.
use Rattle.std.proofs.Common.{◌≡◌, ℕ, zero, suc, ◌+◌, ◌-◌, ◌^◌, ◌<◌, ◌≤◌, List, [], ◌∷◌, ◌++◌, length, take, drop, replicate, slice_index, Bool, true, false, cond, ◌&&◌, ◌||◌, ◌==◌, nat_le, Option, Some, None, refl, sym, ap, ◌∙◌, arith, inl, inr, ◌⊎◌}
use Rattle.std.proofs.lemmas.List.{drop_at, get_or_append_left, get_or-append-add, get_or-drop, get_or-replicate, get_or-take, get_or_past, length-append, length-drop, length-replicate, length-take-le}
use Rattle.std.proofs.lemmas.Bool.{cases_lt, eqb-true, leb-true}
use Rattle.byteorder.specs.Endian.{little_bytes}
use Rattle.byteorder.specs.Numbers.{length-bytes_low_first, little_number-reads_back}
use Rattle.aql_packet.specs.Numbers.{number_at, written}
use Rattle.aql_packet.proofs.NumberLemmas.{number_at-drop}

-- A number put at a place.
pub record Put : Type 0 where
  pub place : ℕ
  pub size : ℕ
  pub number : ℕ

abbrev pub put : ℕ → ℕ → ℕ → Put
put place size number = record { place = place; size = size; number = number }

-- 64 zeros after these, the newest first.
abbrev pub after : List Put → List ℕ
after [] = replicate 64 0
after (newest ∷ earlier) = written (after earlier) newest.place newest.size newest.number

-- Each number fits its bytes.
abbrev pub AllFit : List Put → Type 0
AllFit [] = Unit {0}
AllFit (newest ∷ earlier) = (newest.number < 256 ^ newest.size) × AllFit earlier

-- Each lies in the 64 bytes.
abbrev pub all_in : List Put → Bool
all_in [] = true
all_in (newest ∷ earlier) = nat_le (newest.place + newest.size) 64 && all_in earlier

-- The number last put at a place, where no other was put into a part of its bytes.
abbrev pub last_put : List Put → ℕ → ℕ → Option ℕ
last_put [] place size = Some 0
last_put (newest ∷ earlier) place size =
    cond (newest.place == place && newest.size == size)
    (Some newest.number)
    (cond (nat_le (place + size) newest.place || nat_le (newest.place + newest.size) place) (last_put earlier place size) None)

length-written : (bytes : List ℕ) (place size number : ℕ) → place + size ≤ length bytes → length (written bytes place size number) ≡ length bytes
unfolding written
length-written bytes place size number room =
    let front = length-take-le place bytes (omega arith) in
    let middle = length-bytes_low_first 0 size number in
    let back = length-drop (place + size) bytes in
    let inner = length-append (little_bytes size number) (drop (place + size) bytes) in
    let whole = length-append (take place bytes) (little_bytes size number ++ drop (place + size) bytes) in
    omega (arith, front, middle, back, inner, whole)

-- What is written is read.
number_at-written : (bytes : List ℕ) (place size number : ℕ) → place + size ≤ length bytes → number < 256 ^ size → number_at (written bytes place size number) place size ≡ number
unfolding written
number_at-written bytes place size number room fits =
    let front = length-take-le place bytes (omega arith) in
    sym (number_at-drop (take place bytes ++ (little_bytes size number ++ drop (place + size) bytes)) place size)
    ∙ rw (drop_at (take place bytes) (little_bytes size number ++ drop (place + size) bytes) place front) (little_number-reads_back size number (drop (place + size) bytes) fits)

-- A byte before a write, or after it, stays.
index-written : (bytes : List ℕ) (place size number at : ℕ) → place + size ≤ length bytes → (at < place) ⊎ (place + size ≤ at) → slice_index (written bytes place size number) at ≡ slice_index bytes at
unfolding written
index-written bytes place size number at room (inl before) =
    let front = length-take-le place bytes (omega arith) in
    get_or_append_left (take place bytes) (little_bytes size number ++ drop (place + size) bytes) 0 at (omega (arith, front, before)) ∙ get_or-take place bytes at 0 before
index-written bytes place size number at room (inr past) =
    let front = length-take-le place bytes (omega arith) in
    let middle = length-bytes_low_first 0 size number in
    let one : length (take place bytes) + (size + (at - (place + size))) ≡ at = omega (arith, front, past) in
    let two : length (little_bytes size number) + (at - (place + size)) ≡ size + (at - (place + size)) = omega (arith, middle) in
    let three : place + size + (at - (place + size)) ≡ at = omega (arith, past) in
    ap (λ (i : ℕ). slice_index (take place bytes ++ (little_bytes size number ++ drop (place + size) bytes)) i) (sym one)
    ∙ get_or-append-add (take place bytes) (little_bytes size number ++ drop (place + size) bytes) (size + (at - (place + size))) 0
    ∙ ap (λ (i : ℕ). slice_index (little_bytes size number ++ drop (place + size) bytes) i) (sym two)
    ∙ get_or-append-add (little_bytes size number) (drop (place + size) bytes) (at - (place + size)) 0
    ∙ rw get_or-drop (ap (λ (i : ℕ). slice_index bytes i) three)

-- Numbers of the same bytes are the same.
number_at-same : (one two : List ℕ) (place size : ℕ) → ((at : ℕ) → place ≤ at → at < place + size → slice_index one at ≡ slice_index two at) → number_at one place size ≡ number_at two place size
unfolding number_at
number_at-same one two place zero same = refl
number_at-same one two place (suc size) same =
    rw (same place (omega arith) (omega arith), number_at-same one two (suc place) size (λ at low high. same at (omega (arith, low)) (omega (arith, high)))) refl

-- Each byte of zeros is zero.
index-zeros : (at : ℕ) → slice_index (replicate 64 0) at ≡ 0
index-zeros at = elim (cases_lt at 64) [
  | inl inside ↦ get_or-replicate 64 at 0 0 inside
  | inr past ↦ get_or_past (replicate 64 0) at 0 (omega (arith, length-replicate {A = ℕ} 64 0, past))
]

-- A number of zeros is zero.
number_at-zeros : (place size : ℕ) → number_at (replicate 64 0) place size ≡ 0
unfolding number_at
number_at-zeros place zero = refl
number_at-zeros place (suc size) = rw (index-zeros place, number_at-zeros (suc place) size) refl

-- ---- a number read after many were put

both_hold : (first second : Bool) → (first && second) ≡ true → (first ≡ true) × (second ≡ true)
both_hold true second holds = (refl, holds)
both_hold false second holds = absurd cc

one_holds : (first second : Bool) → (first || second) ≡ true → (first ≡ true) ⊎ (second ≡ true)
one_holds true second holds = inl refl
one_holds false second holds = inr holds

length-after : (puts : List Put) → all_in puts ≡ true → length (after puts) ≡ 64
length-after [] inside = refl
length-after (newest ∷ earlier) inside =
    let both = both_hold (nat_le (newest.place + newest.size) 64) (all_in earlier) inside in
    let before = length-after earlier both.1 in
    length-written (after earlier) newest.place newest.size newest.number (omega (arith, before, leb-true (newest.place + newest.size) 64 both.0)) ∙ before

-- There is room for the newest.
has_room : (newest : Put) (earlier : List Put) → all_in (newest ∷ earlier) ≡ true → newest.place + newest.size ≤ length (after earlier)
has_room newest earlier inside =
    let both = both_hold (nat_le (newest.place + newest.size) 64) (all_in earlier) inside in
    omega (arith, length-after earlier both.1, leb-true (newest.place + newest.size) 64 both.0)

-- The number at a place after a put there, or elsewhere.
reads_newest : (newest : Put) (earlier : List Put) (place size number : ℕ) → AllFit (newest ∷ earlier) → all_in (newest ∷ earlier) ≡ true
    → (newest.place == place && newest.size == size) ≡ true → newest.number ≡ number → number_at (after (newest ∷ earlier)) place size ≡ number
reads_newest newest earlier place size number fit inside here is =
    let both = both_hold (newest.place == place) (newest.size == size) here in
    let same_place : newest.place ≡ place = eqb-true newest.place place both.0 in
    let same_size : newest.size ≡ size = eqb-true newest.size size both.1 in
    rw (← same_place, ← same_size) (number_at-written (after earlier) newest.place newest.size newest.number (has_room newest earlier inside) fit.0 ∙ is)

apart : (newest : Put) (place size : ℕ) → (nat_le (place + size) newest.place || nat_le (newest.place + newest.size) place) ≡ true
    → (at : ℕ) → place ≤ at → at < place + size → (at < newest.place) ⊎ (newest.place + newest.size ≤ at)
apart newest place size beside at low high = elim (one_holds (nat_le (place + size) newest.place) (nat_le (newest.place + newest.size) place) beside) [
  | inl before ↦ inl (omega (arith, leb-true (place + size) newest.place before, high))
  | inr past ↦ inr (omega (arith, leb-true (newest.place + newest.size) place past, low))
]

reads_earlier : (newest : Put) (earlier : List Put) (place size : ℕ) → all_in (newest ∷ earlier) ≡ true
    → (nat_le (place + size) newest.place || nat_le (newest.place + newest.size) place) ≡ true
    → number_at (after (newest ∷ earlier)) place size ≡ number_at (after earlier) place size
reads_earlier newest earlier place size inside beside =
    number_at-same (after (newest ∷ earlier)) (after earlier) place size (λ at low high.
    index-written (after earlier) newest.place newest.size newest.number at (has_room newest earlier inside) (apart newest place size beside at low high))

-- One choice after the other.
chosen : (here beside : Bool) (one two : Option ℕ) (number : ℕ) → cond here one (cond beside two None) ≡ Some number
    → ((here ≡ true) × (one ≡ Some number)) ⊎ ((beside ≡ true) × (two ≡ Some number))
chosen true beside one two number found = inl (refl, found)
chosen false true one two number found = inr (refl, found)
chosen false false one two number found = absurd cc

some_is : (one two : ℕ) → Some one ≡ Some two → one ≡ two
some_is one two same = cc

-- What the number at a place is after many puts.
pub reads_back : (puts : List Put) (place size number : ℕ) → AllFit puts → all_in puts ≡ true → last_put puts place size ≡ Some number → number_at (after puts) place size ≡ number
reads_back [] place size number fit inside found = number_at-zeros place size ∙ some_is 0 number found
reads_back (newest ∷ earlier) place size number fit inside found =
    let here = newest.place == place && newest.size == size in
    let beside = nat_le (place + size) newest.place || nat_le (newest.place + newest.size) place in
    elim (chosen here beside (Some newest.number) (last_put earlier place size) number found) [
      | inl at ↦ reads_newest newest earlier place size number fit inside at.0 (some_is newest.number number at.1)
      | inr off ↦ reads_earlier newest earlier place size inside off.0 ∙ reads_back earlier place size number fit.1 (both_hold (nat_le (newest.place + newest.size) 64) (all_in earlier) inside).1 off.1
    ]
