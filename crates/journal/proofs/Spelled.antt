-- Digits that are held against bytes, two digits more.
use Rattle.std.proofs.Common.{◌≡◌, ℕ, ◌+◌, ◌/◌, ◌%◌, ◌<◌, ◌≤◌, Bool, true, false, List, [], ◌∷◌, length, get_or, drop, refl, sym, ap, ◌∙◌, arith}
use Rattle.std.specs.Prelude.{◌==◌, ◌&&◌, bytes_eq}
use Rattle.std.proofs.lemmas.Bool.Decides.{nat_tests}
use Rattle.std.proofs.lemmas.List.{drop_all}
use Rattle.journal.specs.Words.{hex_digit, text_of_bytes}
use Rattle.journal.proofs.WordSteps.{left_at}

pair_true : (a b r : Bool) → (a && b) ≡ true → (a && (b && r)) ≡ r
pair_true true true r h = refl
pair_true true false r h = cc
pair_true false b r h = cc

pair_false : (a b r : Bool) → (a && b) ≡ false → (a && (b && r)) ≡ false
pair_false true true r h = cc
pair_false true false r h = refl
pair_false false b r h = refl

then_false : (a : Bool) → (a && false) ≡ false
then_false true = refl
then_false false = refl

-- two digits are those of the byte at a place: the others tell
pub spelled_more : (rest further bytes : List ℕ) (i high low : ℕ) → i < length bytes → rest ≡ high ∷ low ∷ further →
    ((high == hex_digit (get_or bytes i 0 / 16)) && (low == hex_digit (get_or bytes i 0 % 16))) ≡ true →
    bytes_eq rest (text_of_bytes (drop i bytes)) ≡ bytes_eq further (text_of_bytes (drop (i + 1) bytes))
spelled_more rest further bytes i high low h e same =
    ap (λ r. bytes_eq r (text_of_bytes (drop i bytes))) e
    ∙ ap (λ bs. bytes_eq (high ∷ low ∷ further) (text_of_bytes bs)) (left_at bytes i h)
    ∙ pair_true (high == hex_digit (get_or bytes i 0 / 16)) (low == hex_digit (get_or bytes i 0 % 16)) (bytes_eq further (text_of_bytes (drop (i + 1) bytes))) same

-- they aren't
pub spelled_other : (rest further bytes : List ℕ) (i high low : ℕ) → i < length bytes → rest ≡ high ∷ low ∷ further →
    ((high == hex_digit (get_or bytes i 0 / 16)) && (low == hex_digit (get_or bytes i 0 % 16))) ≡ false →
    bytes_eq rest (text_of_bytes (drop i bytes)) ≡ false
spelled_other rest further bytes i high low h e other =
    ap (λ r. bytes_eq r (text_of_bytes (drop i bytes))) e
    ∙ ap (λ bs. bytes_eq (high ∷ low ∷ further) (text_of_bytes bs)) (left_at bytes i h)
    ∙ pair_false (high == hex_digit (get_or bytes i 0 / 16)) (low == hex_digit (get_or bytes i 0 % 16)) (bytes_eq further (text_of_bytes (drop (i + 1) bytes))) other

-- too few digits are left
pub spelled_short : (rest bytes : List ℕ) (i : ℕ) → i < length bytes → length rest < 2 → bytes_eq rest (text_of_bytes (drop i bytes)) ≡ false
spelled_short [] bytes i h few = ap (λ bs. bytes_eq [] (text_of_bytes bs)) (left_at bytes i h)
spelled_short (digit ∷ []) bytes i h few =
    ap (λ bs. bytes_eq (digit ∷ []) (text_of_bytes bs)) (left_at bytes i h) ∙ then_false (digit == hex_digit (get_or bytes i 0 / 16))
spelled_short (digit ∷ other ∷ more) bytes i h few = absurd (omega arith)

is_none : (rest : List ℕ) → (length rest == 0) ≡ bytes_eq rest []
is_none [] = refl
is_none (digit ∷ rest) =
    let some : (length (digit ∷ rest) == 0) ≡ false = grind (arith, nat_tests) in
    some

-- no byte is left
pub spelled_all : (rest bytes : List ℕ) (i : ℕ) → length bytes ≤ i → bytes_eq rest (text_of_bytes (drop i bytes)) ≡ (length rest == 0)
spelled_all rest bytes i h = ap (λ bs. bytes_eq rest (text_of_bytes bs)) (drop_all i bytes h) ∙ sym (is_none rest)
