-- Numbers are the sums of their digits.
use Rattle.std.proofs.Common.{◌≡◌, ℕ, suc, ◌+◌, ◌*◌, ◌^◌, Bool, true, false, cond, List, [], ◌∷◌, length, Option, Some, None, refl, sym, ap, ◌∙◌, arith}
use Rattle.std.proofs.lemmas.List.{length-map}
use Rattle.std.specs.Prelude.{◌==◌, ◌&&◌, nat_lt, option_and_then, unwrap_or}
use Rattle.std.proofs.Math.Nat.{add-mul, mul_assoc, mul-one, pow-succ', pow-zero}
use Rattle.words.specs.Numbers.{digit_of, with_digit, number_from, decimal_word, address_word, digits_of, sum_of_digits}

shifted : (base number digit power rest : ℕ) → (number * base + digit) * power + rest ≡ number * (base * power) + (digit * power + rest)
shifted base number digit power rest =
    let split : (number * base + digit) * power ≡ number * base * power + digit * power = add-mul (number * base) digit power in
    let turned : number * base * power ≡ number * (base * power) = mul_assoc number base power in
    omega (arith, split, turned)

no_some : (n : ℕ) → ◌≡◌ {A = Option ℕ} None (Some n) → ⊥
no_some n e = cc

-- a digit more, of those that follow a number
number_more : (base number digit : ℕ) (bytes : List ℕ) (n : ℕ) (fits : Bool) →
    ((next : ℕ) → number_from base next bytes ≡ Some n → n ≡ next * base ^ length bytes + sum_of_digits base (digits_of bytes)) →
    option_and_then (λ next. number_from base next bytes) (cond fits (Some (number * base + digit)) None) ≡ Some n →
    n ≡ number * base ^ suc (length bytes) + (digit * base ^ length bytes + sum_of_digits base (digits_of bytes))
number_more base number digit bytes n false rest e = absurd (no_some n e)
number_more base number digit bytes n true rest e =
    rest (number * base + digit) e ∙ shifted base number digit (base ^ length bytes) (sum_of_digits base (digits_of bytes))
    ∙ ap (λ power. number * power + (digit * base ^ length bytes + sum_of_digits base (digits_of bytes))) (sym (pow-succ' base (length bytes)))

number_at : (base number byte : ℕ) (bytes : List ℕ) (n : ℕ) (digit : Option ℕ) → digit_of byte ≡ digit →
    ((next : ℕ) → number_from base next bytes ≡ Some n → n ≡ next * base ^ length bytes + sum_of_digits base (digits_of bytes)) →
    option_and_then (λ next. number_from base next bytes) (option_and_then (with_digit base number) digit) ≡ Some n →
    n ≡ number * base ^ suc (length bytes) + (unwrap_or digit 0 * base ^ length bytes + sum_of_digits base (digits_of bytes))
number_at base number byte bytes n None is rest e = absurd (no_some n e)
number_at base number byte bytes n (Some digit) is rest e =
    number_more base number digit bytes n (nat_lt digit base && nat_lt (number * base + digit) (2 ^ 64)) rest e

number_is : (base number : ℕ) (bytes : List ℕ) (n : ℕ) → number_from base number bytes ≡ Some n → n ≡ number * base ^ length bytes + sum_of_digits base (digits_of bytes)
unfolding number_from
number_is base number [] n e = let same : number ≡ n = cc in let once : number * base ^ length {A = ℕ} [] ≡ number = ap (λ power. number * power) (pow-zero base) ∙ mul-one number in omega (arith, same, once)
number_is base number (byte ∷ bytes) n e =
    number_at base number byte bytes n (digit_of byte) refl (λ next f. number_is base next bytes n f) e
    ∙ ap (λ count. number * base ^ suc (length bytes) + (unwrap_or (digit_of byte) 0 * base ^ count + sum_of_digits base (digits_of bytes))) (sym (length-map bytes (λ b. unwrap_or (digit_of b) 0)))

pub number_is_sum : (base : ℕ) (word : List ℕ) (n : ℕ) → number_from base 0 word ≡ Some n → n ≡ sum_of_digits base (digits_of word)
number_is_sum base word n e = number_is base 0 word n e ∙ omega arith

pub decimal_is_sum : (word : List ℕ) (n : ℕ) → decimal_word word ≡ Some n → n ≡ sum_of_digits 10 (digits_of word)
decimal_is_sum [] n e = absurd (no_some n e)
decimal_is_sum (byte ∷ bytes) n e = number_is_sum 10 (byte ∷ bytes) n e

pub address_is_sum : (word : List ℕ) (n : ℕ) → address_word word ≡ Some n → n ≡ sum_of_digits 16 (digits_of word)
address_is_sum word n e = by_length (length word == 16) e
  where
    by_length : (b : Bool) → cond b (number_from 16 0 word) None ≡ Some n → n ≡ sum_of_digits 16 (digits_of word)
    by_length true f = number_is_sum 16 word n f
    by_length false f = absurd (no_some n f)
