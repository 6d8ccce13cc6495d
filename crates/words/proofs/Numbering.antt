-- Numbers, one digit more.
use Rattle.std.proofs.Common.{◌≡◌, ℕ, ◌+◌, ◌<◌, ◌≤◌, List, [], ◌∷◌, length, get_or, drop, Some, None, refl, ap, ◌∙◌}
use Rattle.std.specs.Prelude.{option_and_then}
use Rattle.std.proofs.lemmas.List.{drop_all}
use Rattle.words.proofs.Splitting.{left_at}
use Rattle.words.specs.Numbers.{digit_of, with_digit, number_from}

pub number_end : (base number : ℕ) → number_from base number [] ≡ Some number
unfolding number_from
number_end base number = refl

pub number_step : (base number byte : ℕ) (bytes : List ℕ) →
    number_from base number (byte ∷ bytes) ≡ option_and_then (λ next. number_from base next bytes) (option_and_then (with_digit base number) (digit_of byte))
unfolding number_from
number_step base number byte bytes = refl

-- a byte that is no digit, or a number too large, ends the reading
pub number_no_digit : (base number i : ℕ) (word : List ℕ) → i < length word → digit_of (get_or word i 0) ≡ None → number_from base number (drop i word) ≡ None
number_no_digit base number i word h e = ap (number_from base number) (left_at word i h) ∙ number_step base number (get_or word i 0) (drop (i + 1) word) ∙ rw e refl

pub number_too_large : (base number i digit : ℕ) (word : List ℕ) → i < length word → digit_of (get_or word i 0) ≡ Some digit → with_digit base number digit ≡ None →
    number_from base number (drop i word) ≡ None
number_too_large base number i digit word h e w =
    ap (number_from base number) (left_at word i h) ∙ number_step base number (get_or word i 0) (drop (i + 1) word)
    ∙ ap (λ read. option_and_then (λ next. number_from base next (drop (i + 1) word)) (option_and_then (with_digit base number) read)) e
    ∙ ap (λ read. option_and_then (λ next. number_from base next (drop (i + 1) word)) read) w

pub number_more : (base number i digit next : ℕ) (word : List ℕ) → i < length word → digit_of (get_or word i 0) ≡ Some digit → with_digit base number digit ≡ Some next →
    number_from base number (drop i word) ≡ number_from base next (drop (i + 1) word)
number_more base number i digit next word h e w =
    ap (number_from base number) (left_at word i h) ∙ number_step base number (get_or word i 0) (drop (i + 1) word)
    ∙ ap (λ read. option_and_then (λ next. number_from base next (drop (i + 1) word)) (option_and_then (with_digit base number) read)) e
    ∙ ap (λ read. option_and_then (λ next. number_from base next (drop (i + 1) word)) read) w

pub number_all : (base number i : ℕ) (word : List ℕ) → length word ≤ i → number_from base number (drop i word) ≡ Some number
number_all base number i word h = ap (number_from base number) (drop_all i word h) ∙ number_end base number
