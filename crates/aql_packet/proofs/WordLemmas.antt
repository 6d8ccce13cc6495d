-- Eight words and 64 bytes tell each other.
use Rattle.std.proofs.Common.{◌≡◌, ℕ, zero, suc, ◌+◌, ◌*◌, ◌/◌, ◌^◌, ◌<◌, ◌≤◌, List, [], ◌∷◌, ◌++◌, length, get_or, replicate, slice_index, refl, sym, ap, ◌∙◌, subst, arith, inl, inr}
use Rattle.std.proofs.Math.Nat.{mod-lt, pow-succ'}
use Rattle.std.proofs.lemmas.Bool.{cases_lt}
use Rattle.std.proofs.lemmas.Bool.Decides.{eqb_tells}
use Rattle.std.proofs.lemmas.Grind.{same_number_lists}
use Rattle.std.proofs.lemmas.List.{get_or_past, length-append}
use Rattle.std.specs.Int.{byte_at, bytes_low_first}
use Rattle.byteorder.specs.Endian.{little_bytes}
use Rattle.byteorder.specs.Numbers.{length-bytes_low_first, little_number-reads_back}
use Rattle.aql_packet.specs.Layout.{Are64Bytes}
use Rattle.aql_packet.specs.Numbers.{number_at, written}
use Rattle.aql_packet.specs.Words.{AreEightWords, bytes_of, words_of}
use Rattle.aql_packet.proofs.NumberLemmas.{number_at-drop}

-- ---- the bytes of words

byte_below : (i n : ℕ) → byte_at i n < 256
byte_below zero n = mod-lt n (omega arith)
byte_below (suc i) n = mod-lt (n / 256 ^ suc i) (omega arith)

bytes_below : (n i k at : ℕ) → slice_index (bytes_low_first i k n) at < 256
bytes_below n i zero at = omega arith
bytes_below n i (suc k) zero = byte_below i n
bytes_below n i (suc k) (suc at) = bytes_below n (suc i) k at

append_below : (xs ys : List ℕ) → ((at : ℕ) → slice_index xs at < 256) → ((at : ℕ) → slice_index ys at < 256) → (at : ℕ) → slice_index (xs ++ ys) at < 256
append_below [] ys first second at = second at
append_below (x ∷ xs) ys first second zero = first zero
append_below (x ∷ xs) ys first second (suc at) = append_below xs ys (λ i. first (suc i)) second at

all_below : (words : List ℕ) (at : ℕ) → slice_index (bytes_of words) at < 256
all_below [] at = omega arith
all_below (word ∷ words) at = append_below (little_bytes 8 word) (bytes_of words) (bytes_below word 0 8) (all_below words) at

length_bytes : (words : List ℕ) → length (bytes_of words) ≡ 8 * length words
length_bytes [] = refl
length_bytes (word ∷ words) = omega (arith, length-append (little_bytes 8 word) (bytes_of words), length_bytes words, length-bytes_low_first 0 8 word)

pub are_64 : (words : List ℕ) → length words ≡ 8 → Are64Bytes (bytes_of words)
are_64 words eight = record { count = omega (arith, eight, length_bytes words); below = all_below words }

-- ---- a word of the bytes of words

number_past : (x : ℕ) (xs : List ℕ) (place size : ℕ) → number_at (x ∷ xs) (suc place) size ≡ number_at xs place size
unfolding number_at
number_past x xs place zero = refl
number_past x xs place (suc size) = ap (λ n. slice_index xs place + 256 * n) (number_past x xs (suc place) size)

word_past : (a b c d e f g h : ℕ) (xs : List ℕ) (place size : ℕ)
    → number_at (a ∷ b ∷ c ∷ d ∷ e ∷ f ∷ g ∷ h ∷ xs) (suc (suc (suc (suc (suc (suc (suc (suc place)))))))) size ≡ number_at xs place size
word_past a b c d e f g h xs place size =
    number_past a (b ∷ c ∷ d ∷ e ∷ f ∷ g ∷ h ∷ xs) (suc (suc (suc (suc (suc (suc (suc place))))))) size
    ∙ number_past b (c ∷ d ∷ e ∷ f ∷ g ∷ h ∷ xs) (suc (suc (suc (suc (suc (suc place)))))) size
    ∙ number_past c (d ∷ e ∷ f ∷ g ∷ h ∷ xs) (suc (suc (suc (suc (suc place))))) size
    ∙ number_past d (e ∷ f ∷ g ∷ h ∷ xs) (suc (suc (suc (suc place)))) size
    ∙ number_past e (f ∷ g ∷ h ∷ xs) (suc (suc (suc place))) size
    ∙ number_past f (g ∷ h ∷ xs) (suc (suc place)) size
    ∙ number_past g (h ∷ xs) (suc place) size
    ∙ number_past h xs place size

word_here : (word : ℕ) (rest : List ℕ) → word < 2 ^ 64 → number_at (little_bytes 8 word ++ rest) 0 8 ≡ word
word_here word rest fits =
    sym (number_at-drop (little_bytes 8 word ++ rest) 0 8) ∙ little_number-reads_back 8 word rest fits

word_at : (k : ℕ) (words : List ℕ) → ((place : ℕ) → get_or words place 0 < 2 ^ 64) → k < length words → number_at (bytes_of words) (8 * k) 8 ≡ get_or words k 0
word_at k [] below lt = absurd (omega (arith, lt))
word_at zero (word ∷ words) below lt = word_here word (bytes_of words) (below 0)
word_at (suc k) (word ∷ words) below lt =
    let e : 8 * suc k ≡ suc (suc (suc (suc (suc (suc (suc (suc (8 * k)))))))) = omega arith in
    ap (λ p. number_at (bytes_of (word ∷ words)) p 8) e
    ∙ word_past _ _ _ _ _ _ _ _ (bytes_of words) (8 * k) 8
    ∙ word_at k words (λ i. below (suc i)) (omega (arith, lt))

-- ---- the words of bytes

word_is : (bytes : List ℕ) (k : ℕ) → k < 8 → get_or (words_of bytes) k 0 ≡ number_at bytes (8 * k) 8
word_is bytes zero lt = refl
word_is bytes (suc zero) lt = refl
word_is bytes (suc (suc zero)) lt = refl
word_is bytes (suc (suc (suc zero))) lt = refl
word_is bytes (suc (suc (suc (suc zero)))) lt = refl
word_is bytes (suc (suc (suc (suc (suc zero))))) lt = refl
word_is bytes (suc (suc (suc (suc (suc (suc zero)))))) lt = refl
word_is bytes (suc (suc (suc (suc (suc (suc (suc zero))))))) lt = refl
word_is bytes (suc (suc (suc (suc (suc (suc (suc (suc k)))))))) lt = absurd (omega (arith, lt))

number_fits : (bytes : List ℕ) (place size : ℕ) → ((at : ℕ) → slice_index bytes at < 256) → number_at bytes place size < 256 ^ size
unfolding number_at
number_fits bytes place zero below = omega arith
number_fits bytes place (suc size) below =
    let byte = below place in
    let rest = number_fits bytes (suc place) size below in
    rw (pow-succ' 256 size) (omega arith)

are_eight : (bytes : List ℕ) → ((at : ℕ) → slice_index bytes at < 256) → AreEightWords (words_of bytes)
are_eight bytes below =
    record {
      count = refl;
      below = λ place. elim (cases_lt place 8) [
        | inl inside ↦ subst (λ n. n < 2 ^ 64) (sym (word_is bytes place inside)) (number_fits bytes (8 * place) 8 below)
        | inr past ↦ subst (λ n. n < 2 ^ 64) (sym (get_or_past (words_of bytes) place 0 past)) (omega arith)
      ];
    }

-- ---- each tells the other

pub words_back : (words : List ℕ) → AreEightWords words → words_of (bytes_of words) ≡ words
words_back words are =
    same_number_lists (words_of (bytes_of words)) words (sym are.count)
    (λ k lt. let few : k < 8 = lt in word_is (bytes_of words) k few ∙ word_at k words are.below (omega (arith, few, are.count)))

same_low : (x y m n : ℕ) → x < 256 → y < 256 → x + 256 * m ≡ y + 256 * n → (x ≡ y) × (m ≡ n)
same_low x y m n hx hy e = (omega (arith, hx, hy, e), omega (arith, hx, hy, e))

same_bytes : (a b : List ℕ) (place n j : ℕ) → ((i : ℕ) → slice_index a i < 256) → ((i : ℕ) → slice_index b i < 256) → number_at a place n ≡ number_at b place n → place ≤ j → j < place + n → slice_index a j ≡ slice_index b j
unfolding number_at
same_bytes a b place zero j ha hb e low high = absurd (omega (arith, low, high))
same_bytes a b place (suc n) j ha hb e low high =
    let s = same_low (slice_index a place) (slice_index b place) (number_at a (suc place) n) (number_at b (suc place) n) (ha place) (hb place) e in
    elim (eqb_tells place j) [
      | inl g ↦ subst (λ (i : ℕ). slice_index a i ≡ slice_index b i) g.1 s.0
      | inr g ↦ same_bytes a b (suc place) n j ha hb s.1 (omega (arith, low, g.1)) (omega (arith, high))
    ]

-- 64 bytes with the same words are the same
pub bytes_told : (a b : List ℕ) → Are64Bytes a → Are64Bytes b → words_of a ≡ words_of b → a ≡ b
bytes_told a b ha hb e =
    same_number_lists a b (ha.count ∙ sym hb.count)
    (λ j lt.
    let k : ℕ = j / 8 in
    let few : k < 8 = omega (arith, lt, ha.count) in
    let same : number_at a (8 * k) 8 ≡ number_at b (8 * k) 8 = sym (word_is a k few) ∙ ap (λ ws. get_or ws k 0) e ∙ word_is b k few in
    same_bytes a b (8 * k) 8 j ha.below hb.below same (omega arith) (omega arith))

pub bytes_back : (bytes : List ℕ) → Are64Bytes bytes → bytes_of (words_of bytes) ≡ bytes
bytes_back bytes are =
    bytes_told (bytes_of (words_of bytes)) bytes (are_64 (words_of bytes) refl) are (words_back (words_of bytes) (are_eight bytes are.below))

-- ---- eight words written behind one another fill 64 bytes

written_eight : (a b c d e f g h : ℕ) →
    written (written (written (written (written (written (written (written (replicate 64 0) 0 8 a) 8 8 b) 16 8 c) 24 8 d) 32 8 e) 40 8 f) 48 8 g) 56 8 h
    ≡ bytes_of (a ∷ b ∷ c ∷ d ∷ e ∷ f ∷ g ∷ h ∷ [])
unfolding written
written_eight a b c d e f g h = refl

pub filled : (words : List ℕ) → length words ≡ 8 → (b1 b2 b3 b4 b5 b6 b7 b8 : List ℕ)
    → b1 ≡ written (replicate 64 0) 0 8 (get_or words 0 0) → b2 ≡ written b1 8 8 (get_or words 1 0) → b3 ≡ written b2 16 8 (get_or words 2 0) → b4 ≡ written b3 24 8 (get_or words 3 0)
    → b5 ≡ written b4 32 8 (get_or words 4 0) → b6 ≡ written b5 40 8 (get_or words 5 0) → b7 ≡ written b6 48 8 (get_or words 6 0) → b8 ≡ written b7 56 8 (get_or words 7 0)
    → b8 ≡ bytes_of words
filled (a ∷ b ∷ c ∷ d ∷ e ∷ f ∷ g ∷ h ∷ []) n b1 b2 b3 b4 b5 b6 b7 b8 e1 e2 e3 e4 e5 e6 e7 e8 =
    let g2 = e2 ∙ ap (λ x. written x 8 8 b) e1 in
    let g3 = e3 ∙ ap (λ x. written x 16 8 c) g2 in
    let g4 = e4 ∙ ap (λ x. written x 24 8 d) g3 in
    let g5 = e5 ∙ ap (λ x. written x 32 8 e) g4 in
    let g6 = e6 ∙ ap (λ x. written x 40 8 f) g5 in
    let g7 = e7 ∙ ap (λ x. written x 48 8 g) g6 in
    e8 ∙ ap (λ x. written x 56 8 h) g7 ∙ written_eight a b c d e f g h
filled (a ∷ b ∷ c ∷ d ∷ e ∷ f ∷ g ∷ h ∷ i ∷ xs) n b1 b2 b3 b4 b5 b6 b7 b8 e1 e2 e3 e4 e5 e6 e7 e8 = absurd (omega arith)
filled [] n b1 b2 b3 b4 b5 b6 b7 b8 e1 e2 e3 e4 e5 e6 e7 e8 = absurd (omega arith)
filled (a ∷ []) n b1 b2 b3 b4 b5 b6 b7 b8 e1 e2 e3 e4 e5 e6 e7 e8 = absurd (omega arith)
filled (a ∷ b ∷ []) n b1 b2 b3 b4 b5 b6 b7 b8 e1 e2 e3 e4 e5 e6 e7 e8 = absurd (omega arith)
filled (a ∷ b ∷ c ∷ []) n b1 b2 b3 b4 b5 b6 b7 b8 e1 e2 e3 e4 e5 e6 e7 e8 = absurd (omega arith)
filled (a ∷ b ∷ c ∷ d ∷ []) n b1 b2 b3 b4 b5 b6 b7 b8 e1 e2 e3 e4 e5 e6 e7 e8 = absurd (omega arith)
filled (a ∷ b ∷ c ∷ d ∷ e ∷ []) n b1 b2 b3 b4 b5 b6 b7 b8 e1 e2 e3 e4 e5 e6 e7 e8 = absurd (omega arith)
filled (a ∷ b ∷ c ∷ d ∷ e ∷ f ∷ []) n b1 b2 b3 b4 b5 b6 b7 b8 e1 e2 e3 e4 e5 e6 e7 e8 = absurd (omega arith)
filled (a ∷ b ∷ c ∷ d ∷ e ∷ f ∷ g ∷ []) n b1 b2 b3 b4 b5 b6 b7 b8 e1 e2 e3 e4 e5 e6 e7 e8 = absurd (omega arith)
