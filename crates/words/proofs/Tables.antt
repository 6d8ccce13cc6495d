-- A table that has the value of each byte as a digit, and the byte of two digits.
use Rattle.std.proofs.Common.{◌≡◌, ℕ, zero, suc, ◌+◌, ◌*◌, ◌<◌, ◌≤◌, Bool, true, false, ◌&&◌, List, [], ◌∷◌, length, Option, Some, None, refl, sym, ap, ◌∙◌, arith}
use Rattle.std.specs.Prelude.{◌==◌, nat_lt, option_and_then, option_map, slice_index_or, if◌then◌else◌}
use Rattle.std.proofs.lemmas.Bool.Decides.{nat_tests}
use Rattle.words.specs.Bytes.{byte_of}
use Rattle.words.specs.Numbers.{digit_of}

-- what an entry of the table tells
abbrev pub told : ℕ → Option ℕ
told value = if nat_lt value 16 then Some value else None

abbrev pub same : Option ℕ → Option ℕ → Bool
same None None = true
same (Some a) (Some b) = a == b
same None (Some b) = false
same (Some a) None = false

pub same_is : (a b : Option ℕ) → same a b ≡ true → a ≡ b
same_is None None e = refl
same_is (Some a) (Some b) e = let is : a ≡ b = grind (arith, nat_tests, e) in ap Some is
same_is None (Some b) e = cc
same_is (Some a) None e = cc

-- a value is that of a digit, or 256
abbrev is_value : ℕ → Bool
is_value value = if nat_lt value 16 then true else value == 256

-- each entry, from that of a byte on, tells its byte's value
abbrev pub is_table : ℕ → List ℕ → Bool
is_table byte [] = true
is_table byte (value ∷ values) = (same (told value) (digit_of byte) && is_value value) && is_table (byte + 1) values

pub both : (a b : Bool) → (a && b) ≡ true → (a ≡ true) × (b ≡ true)
both true true e = (refl, refl)
both true false e = cc
both false b e = cc

-- what an entry tells of its byte
record IsEntry (byte value : ℕ) : Type 0 where
  tells : told value ≡ digit_of byte
  value_is : is_value value ≡ true

entry : (table : List ℕ) (first place d : ℕ) → is_table first table ≡ true → place < length table → IsEntry (first + place) (slice_index_or table place d)
entry [] first place d is lt = absurd (omega (arith, lt))
entry (value ∷ values) first zero d is lt =
    let here : first + 0 ≡ first = omega arith in
    let one = both (same (told value) (digit_of first) && is_value value) (is_table (first + 1) values) is in
    let two = both (same (told value) (digit_of first)) (is_value value) one.0 in
    record { tells = same_is (told value) (digit_of first) two.0 ∙ ap digit_of (sym here); value_is = two.1 }
entry (value ∷ values) first (suc place) d is lt =
    let there : (first + 1) + place ≡ first + suc place = omega arith in
    let one = both (same (told value) (digit_of first) && is_value value) (is_table (first + 1) values) is in
    let later : IsEntry ((first + 1) + place) (slice_index_or values place d) = entry values (first + 1) place d one.1 (omega (arith, lt)) in
    record { tells = later.tells ∙ ap digit_of there; value_is = later.value_is }

at_byte : (table : List ℕ) (byte d : ℕ) → is_table 0 table ≡ true → length table ≡ 256 → byte < 256 → IsEntry byte (slice_index_or table byte d)
at_byte table byte d is whole lt =
    let at : 0 + byte ≡ byte = omega arith in
    let found : IsEntry (0 + byte) (slice_index_or table byte d) = entry table 0 byte d is (omega (arith, whole, lt)) in
    record { tells = found.tells ∙ ap digit_of at; value_is = found.value_is }

pub digit_some : (table : List ℕ) (byte d : ℕ) → is_table 0 table ≡ true → length table ≡ 256 → byte < 256 → slice_index_or table byte d < 16 → digit_of byte ≡ Some (slice_index_or table byte d)
digit_some table byte d is whole lt small =
    let low : nat_lt (slice_index_or table byte d) 16 ≡ true = grind (arith, nat_tests, small) in
    sym (told_some (slice_index_or table byte d) low ∙ (at_byte table byte d is whole lt).tells)
  where
    told_some : (value : ℕ) → nat_lt value 16 ≡ true → Some value ≡ told value
    told_some value low = rw low refl

pub digit_none : (table : List ℕ) (byte d : ℕ) → is_table 0 table ≡ true → length table ≡ 256 → byte < 256 → 16 ≤ slice_index_or table byte d → digit_of byte ≡ None
digit_none table byte d is whole lt large =
    let high : nat_lt (slice_index_or table byte d) 16 ≡ false = grind (arith, nat_tests, large) in
    sym (told_none (slice_index_or table byte d) high ∙ (at_byte table byte d is whole lt).tells)
  where
    told_none : (value : ℕ) → nat_lt value 16 ≡ false → None ≡ told value
    told_none value high = rw high refl

value_far : (value : ℕ) → is_value value ≡ true → 16 ≤ value → value ≡ 256
value_far value is large =
    let high : nat_lt value 16 ≡ false = grind (arith, nat_tests, large) in
    let equal : (value == 256) ≡ true = sym (far value high) ∙ is in grind (arith, nat_tests, equal)
  where
    far : (value : ℕ) → nat_lt value 16 ≡ false → is_value value ≡ (value == 256)
    far value high = rw high refl

pub digit_far : (table : List ℕ) (byte d : ℕ) → is_table 0 table ≡ true → length table ≡ 256 → byte < 256 → 16 ≤ slice_index_or table byte d → slice_index_or table byte d ≡ 256
digit_far table byte d is whole lt large = value_far (slice_index_or table byte d) (at_byte table byte d is whole lt).value_is large

value_most : (value : ℕ) (low : Bool) → nat_lt value 16 ≡ low → (16 ≤ value → value ≡ 256) → value ≤ 256
value_most value true low far = let less : value < 16 = grind (arith, nat_tests, low) in omega (arith, less)
value_most value false low far = let large : 16 ≤ value = grind (arith, nat_tests, low) in let is : value ≡ 256 = far large in omega (arith, is)

pub digit_most : (table : List ℕ) (byte d : ℕ) → is_table 0 table ≡ true → length table ≡ 256 → byte < 256 → slice_index_or table byte d ≤ 256
digit_most table byte d is whole lt =
    value_most (slice_index_or table byte d) (nat_lt (slice_index_or table byte d) 16) refl (λ large. digit_far table byte d is whole lt large)

-- ---- two digits

pub byte_some : (high low h l : ℕ) → (h < 16 → digit_of high ≡ Some h) → (16 ≤ h → (h ≡ 256) × (digit_of high ≡ None)) →
    (l < 16 → digit_of low ≡ Some l) → (16 ≤ l → (l ≡ 256) × (digit_of low ≡ None)) → h * 16 + l < 256 → byte_of high low ≡ Some (h * 16 + l)
byte_some high low h l h_is h_no l_is l_no less =
    let small : h < 16 = omega (arith, less) in
    let few : l < 16 = few_of (nat_lt l 16) refl in
    let same : 16 * h + l ≡ h * 16 + l = omega arith in
    ap (λ o. option_and_then (λ a. option_map (λ b. 16 * a + b) (digit_of low)) o) (h_is small) ∙ ap (λ o. option_map (λ b. 16 * h + b) o) (l_is few) ∙ ap Some same
  where
    few_of : (b : Bool) → nat_lt l 16 ≡ b → l < 16
    few_of true is = grind (arith, nat_tests, is)
    few_of false is = let large : 16 ≤ l = grind (arith, nat_tests, is) in let far : l ≡ 256 = (l_no large).0 in absurd (omega (arith, less, far))

none_high : (high low : ℕ) → digit_of high ≡ None → byte_of high low ≡ None
none_high high low none = ap (λ o. option_and_then (λ a. option_map (λ b. 16 * a + b) (digit_of low)) o) none

none_low : (low : ℕ) (high : Option ℕ) → digit_of low ≡ None → option_and_then (λ a. option_map (λ b. 16 * a + b) (digit_of low)) high ≡ None
none_low low None none = refl
none_low low (Some a) none = ap (λ o. option_map (λ b. 16 * a + b) o) none

pub byte_none : (high low h l : ℕ) → (16 ≤ h → (h ≡ 256) × (digit_of high ≡ None)) → (16 ≤ l → (l ≡ 256) × (digit_of low ≡ None)) →
    256 ≤ h * 16 + l → byte_of high low ≡ None
byte_none high low h l h_no l_no far = by_high (nat_lt h 16) refl
  where
    by_high : (b : Bool) → nat_lt h 16 ≡ b → byte_of high low ≡ None
    by_high false is = let large : 16 ≤ h = grind (arith, nat_tests, is) in none_high high low (h_no large).1
    by_high true is = let small : h < 16 = grind (arith, nat_tests, is) in let large : 16 ≤ l = omega (arith, far, small) in none_low low (digit_of high) (l_no large).1
