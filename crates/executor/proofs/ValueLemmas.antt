-- An operation of two or three sources that are what they are read from.
use Rattle.std.proofs.Common.{◌≡◌, ℕ, ℤ, pos, ap, ◌∙◌}
use Rattle.std.specs.Int.{Width}
use Rattle.executor.specs.Numbers.{unsigned, computed, wrapped, sum, product}

pub computed_of : (f : ℤ → ℤ → ℤ) (w : Width) (x a b c d : ℕ) → x ≡ computed f unsigned w a b → a ≡ c → b ≡ d → x ≡ computed f unsigned w c d
computed_of f w x a b c d is first second =
    is ∙ ap (λ v. computed f unsigned w v b) first ∙ ap (λ v. computed f unsigned w c v) second

pub product_of : (w : Width) (x a b c d e f : ℕ) → x ≡ wrapped w (sum (product (pos a) (pos b)) (pos c)) → a ≡ d → b ≡ e → c ≡ f
    → x ≡ wrapped w (sum (product (pos d) (pos e)) (pos f))
product_of w x a b c d e f is first second third =
    is ∙ ap (λ v. wrapped w (sum (product (pos v) (pos b)) (pos c))) first
    ∙ ap (λ v. wrapped w (sum (product (pos d) (pos v)) (pos c))) second
    ∙ ap (λ v. wrapped w (sum (product (pos d) (pos e)) (pos v))) third
