-- The decimal number that a line's first word is, one digit more.
use Rattle.std.proofs.Common.{◌≡◌, ℕ, zero, suc, ◌+◌, ◌<◌, ◌≤◌, Bool, true, false, List, [], ◌∷◌, ◌++◌, length, length-append, get_or, take, drop, Option, Some, None, refl, sym, ap, ◌∙◌, arith}
use Rattle.std.specs.Prelude.{option_and_then, option_map, if◌then◌else◌}
use Rattle.std.proofs.lemmas.List.{take_more, take_all, length-take-le}
use Rattle.words.specs.Lines.{Word, is_blank, no_words, one_word, words, words_from}
use Rattle.words.specs.Numbers.{decimal_word, digit_of, first_decimal, number_from, with_digit}
use Rattle.words.proofs.Numbering.{number_end, number_step}
use Rattle.words.proofs.Splitting.{kept_begun, word_found, words_from_blank, words_from_end, words_from_other, words_more}

-- ---- numbers, by the digits at their end

next_of : (base : ℕ) (digits further : List ℕ) (next : Option ℕ) → ((n : ℕ) → number_from base n (digits ++ further) ≡ option_and_then (λ m. number_from base m further) (number_from base n digits)) →
    option_and_then (λ n. number_from base n (digits ++ further)) next ≡ option_and_then (λ m. number_from base m further) (option_and_then (λ n. number_from base n digits) next)
next_of base digits further None later = refl
next_of base digits further (Some n) later = later n

-- a number with further digits behind those that it has
number_behind : (base number : ℕ) (digits further : List ℕ) →
    number_from base number (digits ++ further) ≡ option_and_then (λ m. number_from base m further) (number_from base number digits)
number_behind base number [] further = ap (option_and_then (λ m. number_from base m further)) (sym (number_end base number))
number_behind base number (byte ∷ digits) further =
    number_step base number byte (digits ++ further)
    ∙ next_of base digits further (option_and_then (with_digit base number) (digit_of byte)) (λ n. number_behind base n digits further)
    ∙ ap (option_and_then (λ m. number_from base m further)) (sym (number_step base number byte digits))

all_read : (read : Option ℕ) → option_and_then (λ next. number_from 10 next []) read ≡ read
all_read None = refl
all_read (Some n) = number_end 10 n

-- the number of a byte more
pub one_more : (text : List ℕ) (i number : ℕ) (next : Option ℕ) → i < length text → number_from 10 0 (take i text) ≡ Some number →
    option_and_then (with_digit 10 number) (digit_of (get_or text i 0)) ≡ next → number_from 10 0 (take (i + 1) text) ≡ next
one_more text i number next h so is =
    ap (number_from 10 0) (take_more text i 0 h)
    ∙ number_behind 10 0 (take i text) (get_or text i 0 ∷ [])
    ∙ ap (option_and_then (λ m. number_from 10 m (get_or text i 0 ∷ []))) so
    ∙ number_step 10 number (get_or text i 0) []
    ∙ ap (option_and_then (λ next. number_from 10 next [])) is
    ∙ all_read next

-- ---- the first word

pub decimal_begun : (word : Word) → 0 < length word → decimal_word word ≡ number_from 10 0 word
decimal_begun [] h = absurd (omega arith)
decimal_begun (byte ∷ word) h = refl

first_begun : (word : Word) (further : List Word) (read : Option ℕ) → 0 < length word → number_from 10 0 word ≡ read →
    first_decimal (word ∷ further) ≡ option_map (λ number. (number, further)) read
first_begun word further read begun is = ap (option_map (λ number. (number, further))) (decimal_begun word begun ∙ is)

first_none : (word : Word) (byte : ℕ) (bytes : List ℕ) (blank : Bool) → is_blank byte ≡ blank → 0 < length word → number_from 10 0 word ≡ None →
    first_decimal (words_from (word ++ byte ∷ []) bytes) ≡ None → first_decimal (words_from word (byte ∷ bytes)) ≡ None
first_none word byte bytes true is begun none later =
    ap first_decimal (words_from_blank word byte bytes is ∙ kept_begun word (words bytes) begun) ∙ first_begun word (words bytes) None begun none
first_none word byte bytes false is begun none later = ap first_decimal (words_from_other word byte bytes is) ∙ later

-- a word that begins with bytes that are no number is none
first_bad : (word : Word) (bytes : List ℕ) → 0 < length word → number_from 10 0 word ≡ None → first_decimal (words_from word bytes) ≡ None
first_bad word [] begun none = ap first_decimal (words_from_end word ∙ kept_begun word [] begun) ∙ first_begun word [] None begun none
first_bad word (byte ∷ bytes) begun none =
    first_none word byte bytes (is_blank byte) refl begun none
    (first_bad (word ++ byte ∷ []) bytes (omega (arith, begun, length-append word (byte ∷ [])))
    (number_behind 10 0 word (byte ∷ []) ∙ ap (option_and_then (λ m. number_from 10 m (byte ∷ []))) none))

pub decimal_bad : (text : List ℕ) (i number : ℕ) {all : List Word} → i < length text → is_blank (get_or text i 0) ≡ false → all ≡ words_from (take i text) (drop i text) →
    number_from 10 0 (take i text) ≡ Some number → option_and_then (with_digit 10 number) (digit_of (get_or text i 0)) ≡ None → first_decimal all ≡ None
decimal_bad text i number h other is so none =
    let begun : 0 < length (take (i + 1) text) = rw (length-take-le (i + 1) text (omega arith)) (omega arith) in
    ap first_decimal (is ∙ sym (words_more text i h other)) ∙ first_bad (take (i + 1) text) (drop (i + 1) text) begun (one_more text i number None h so none)

differs : false ≡ true → ⊥
differs e = cc

pub decimal_found : (text : List ℕ) (i number : ℕ) (rest : List ℕ) {all : List Word} → i < length text → is_blank (get_or text i 0) ≡ true → is_blank (get_or text 0 0) ≡ false →
    all ≡ words_from (take i text) (drop i text) → number_from 10 0 (take i text) ≡ Some number → rest ≡ drop i text → Some (number, words rest) ≡ first_decimal all
decimal_found text zero number rest h blank begins is so behind = absurd (differs (sym begins ∙ blank))
decimal_found text (suc i) number rest h blank begins is so behind =
    let begun : 0 < length (take (suc i) text) = rw (length-take-le (suc i) text (omega arith)) (omega arith) in
    ap (λ bytes. Some (number, words bytes)) behind
    ∙ sym (ap first_decimal (is ∙ word_found text (suc i) h blank begins) ∙ first_begun (take (suc i) text) (words (drop (suc i) text)) (Some number) begun so)

pub decimal_whole : (text : List ℕ) (i number : ℕ) {all : List Word} → all ≡ text ∷ words [] → length text ≤ i → 0 < length text →
    number_from 10 0 (take i text) ≡ Some number → Some (number, words []) ≡ first_decimal all
decimal_whole text i number is h begun so =
    sym (ap first_decimal is ∙ first_begun text (words []) (Some number) begun (sym (ap (number_from 10 0) (take_all i text h)) ∙ so))

-- ---- the only word

-- what is made of a first number and the words behind it
pub split_first : {A : Type 0} (read : Option ℕ) (further : List Word) (all : ℕ × List Word → Option A) (one : ℕ → Option A) → ((n : ℕ) → all (n, further) ≡ one n) →
    option_and_then {T = ℕ × List Word} {U = A} all (option_map {T = ℕ} {U = ℕ × List Word} (λ number. (number, further)) read) ≡ option_and_then {T = ℕ} {U = A} one read
split_first None further all one e = refl
split_first (Some n) further all one e = e n

pub none_behind : {B A : Type 0} (read : Option B) (f : B → Option A) → ((n : B) → f n ≡ None) → option_and_then {T = B} {U = A} f read ≡ None
none_behind None f e = refl
none_behind (Some n) f e = e n

same : (read : Option ℕ) → option_and_then {T = ℕ} {U = ℕ} (λ n. Some n) read ≡ read
same None = refl
same (Some n) = refl

only_by : (word : Word) (last : Bool) →
    option_and_then {T = Word} {U = ℕ} decimal_word (if last then Some word else None) ≡ option_and_then {T = ℕ} {U = ℕ} (λ n. if last then Some n else None) (decimal_word word)
only_by word true = sym (same (decimal_word word))
only_by word false = sym (none_behind (decimal_word word) (λ n. None) (λ n. refl))

-- the number that is the only word, by the first word and those behind it
pub only_is : (all : List Word) →
    option_and_then {T = Word} {U = ℕ} decimal_word (one_word all) ≡ option_and_then {T = ℕ × List Word} {U = ℕ} (λ found. if no_words found.1 then Some found.0 else None) (first_decimal all)
only_is [] = refl
only_is (word ∷ further) =
    only_by word (no_words further)
    ∙ sym (split_first (decimal_word word) further (λ found. if no_words found.1 then Some found.0 else None) (λ n. if no_words further then Some n else None) (λ n. refl))
