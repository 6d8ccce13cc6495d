-- Hexadecimal digits, one at a time.
use Rattle.std.proofs.Common.{◌≡◌, ℕ, zero, suc, ◌-◌, ◌/◌, ◌%◌, ◌<◌, [], ◌∷◌, ◌++◌, refl, arith}
use Rattle.words.specs.Bytes.{hex_digit, hex_digits}

pub hex_digits_none : (count n : ℕ) → count ≡ 0 → hex_digits count n ≡ []
unfolding hex_digits
hex_digits_none zero n h = refl
hex_digits_none (suc count) n h = absurd (omega arith)

pub hex_digits_more : (count n : ℕ) → 0 < count → hex_digits count n ≡ hex_digits (count - 1) (n / 16) ++ hex_digit (n % 16) ∷ []
unfolding hex_digits
hex_digits_more zero n h = absurd (omega arith)
hex_digits_more (suc count) n h = let e : suc count - 1 ≡ count = omega arith in rw e refl
