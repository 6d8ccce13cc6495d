-- Products and what is added to them, in bits.
use Rattle.std.proofs.Common.{◌≡◌, ℕ, ◌+◌, ◌*◌, ◌%◌, ◌^◌, ◌<◌, refl, sym, ap, ◌∙◌, arith}
use Rattle.std.specs.Prelude.{ℤ, pos, negsuc, ◌+ℤ◌, ◌*ℤ◌}
use mir.Val.{bits}
use Rattle.std.specs.Int.{Width, w8, w16, w32, w64, w128, cast_signed, cast_unsigned, int_wrap}
use Rattle.std.proofs.lemmas.Int.{of_z-to_z, wrapping_mul-bits, wrapping_add-bits, int_wrap-add_left}
use Rattle.std.proofs.lemmas.Grind.{common_steps}
use Rattle.executor.specs.Numbers.{Sign, unsigned, signed, number, wrapped, computed, product, sum}

positive : (w : Width) → 0 < 2 ^ bits w
positive w8 = omega arith
positive w16 = omega arith
positive w32 = omega arith
positive w64 = omega arith
positive w128 = omega arith

wrapped_below : (w : Width) (n : ℤ) → wrapped w n < 2 ^ bits w
wrapped_below w (pos n) = let p : 0 < 2 ^ bits w = positive w in omega arith
wrapped_below w (negsuc n) = let p : 0 < 2 ^ bits w = positive w in omega arith

-- bits that mean one signed number are equal
same_bits : (w : Width) (m n : ℕ) → m < 2 ^ bits w → n < 2 ^ bits w → cast_signed w m ≡ cast_signed w n → m ≡ n
same_bits w m n p q e = sym (of_z-to_z w m p) ∙ (ap (cast_unsigned w) e ∙ of_z-to_z w n q)

from_wrap : (w : Width) (m : ℕ) (n : ℤ) → cast_signed w (m % 2 ^ bits w) ≡ int_wrap w n → m % 2 ^ bits w ≡ wrapped w n
unfolding int_wrap
from_wrap w m n e =
    let p : 0 < 2 ^ bits w = positive w in
    same_bits w (m % 2 ^ bits w) (wrapped w n) (omega arith) (wrapped_below w n) e

pub product_is : (w : Width) (sign : Sign) (a b : ℕ) → a < 2 ^ bits w → b < 2 ^ bits w → a * b % 2 ^ bits w ≡ computed product sign w a b
product_is w unsigned a b p q = refl
product_is w signed a b p q = from_wrap w (a * b) (number signed w a *ℤ number signed w b) (wrapping_mul-bits w a b p q)

pub product_sum_is : (w : Width) (sign : Sign) (a b c : ℕ) → a < 2 ^ bits w → b < 2 ^ bits w → c < 2 ^ bits w
    → (a * b % 2 ^ bits w + c) % 2 ^ bits w ≡ wrapped w (sum (product (number sign w a) (number sign w b)) (number sign w c))
product_sum_is w unsigned a b c p q r = let e : 0 < 2 ^ bits w = positive w in grind (arith, common_steps)
product_sum_is w signed a b c p q r =
    let e : 0 < 2 ^ bits w = positive w in
    let below : a * b % 2 ^ bits w < 2 ^ bits w = omega arith in
    from_wrap w (a * b % 2 ^ bits w + c) (number signed w a *ℤ number signed w b +ℤ number signed w c)
    (wrapping_add-bits w (a * b % 2 ^ bits w) c below r
    ∙ (ap (λ z. int_wrap w (z +ℤ number signed w c)) (wrapping_mul-bits w a b p q)
    ∙ int_wrap-add_left w (number signed w a *ℤ number signed w b) (number signed w c)))
