-- The words of bytes, one byte more.
use Rattle.std.proofs.Common.{◌≡◌, ℕ, zero, suc, ◌+◌, ◌<◌, ◌≤◌, Bool, true, false, List, [], ◌∷◌, ◌++◌, length, length-append, get_or, take, drop, refl, sym, ap, ◌∙◌, add-one, arith}
use Rattle.std.proofs.lemmas.Bool.Decides.{nat_tests}
use Rattle.std.proofs.lemmas.List.{take_more, take_all, drop_all, length-take-le}
use Rattle.std.proofs.Math.Seq.{drop-cons}
use Rattle.std.specs.Prelude.{◌==◌}
use Rattle.words.specs.Lines.{Word, is_blank, no_words, nonempty_before, words, words_from}

pub words_from_end : (word : Word) → words_from word [] ≡ nonempty_before word []
unfolding words_from
words_from_end word = refl

pub words_from_blank : (word : Word) (byte : ℕ) (bytes : List ℕ) → is_blank byte ≡ true → words_from word (byte ∷ bytes) ≡ nonempty_before word (words bytes)
unfolding words_from
words_from_blank word byte bytes h = rw h refl

pub words_from_other : (word : Word) (byte : ℕ) (bytes : List ℕ) → is_blank byte ≡ false → words_from word (byte ∷ bytes) ≡ words_from (word ++ byte ∷ []) bytes
unfolding words_from
words_from_other word byte bytes h = rw h refl

-- what is left at a place is its byte and what is left behind it
pub left_at : (bytes : List ℕ) (i : ℕ) → i < length bytes → drop i bytes ≡ get_or bytes i 0 ∷ drop (i + 1) bytes
left_at bytes i h = rw add-one (drop-cons bytes i 0 h)

pub words_skipped : (line : List ℕ) (i : ℕ) → i < length line → is_blank (get_or line i 0) ≡ true → words (drop (i + 1) line) ≡ words (drop i line)
words_skipped line i h blank = sym (ap words (left_at line i h) ∙ words_from_blank [] (get_or line i 0) (drop (i + 1) line) blank)

pub words_more : (text : List ℕ) (i : ℕ) → i < length text → is_blank (get_or text i 0) ≡ false →
    words_from (take (i + 1) text) (drop (i + 1) text) ≡ words_from (take i text) (drop i text)
words_more text i h other =
    rw (take_more text i 0 h, left_at text i h) (sym (words_from_other (take i text) (get_or text i 0) (drop (i + 1) text) other))

-- a word that has a byte is kept
pub kept_begun : (word : Word) (further : List Word) → 0 < length word → nonempty_before word further ≡ word ∷ further
kept_begun [] further h = absurd (omega arith)
kept_begun (byte ∷ word) further h = refl

differs : false ≡ true → ⊥
differs e = cc

pub word_found : (text : List ℕ) (i : ℕ) → i < length text → is_blank (get_or text i 0) ≡ true → is_blank (get_or text 0 0) ≡ false →
    words_from (take i text) (drop i text) ≡ take i text ∷ words (drop i text)
word_found text zero h blank begins = absurd (differs (sym begins ∙ blank))
word_found text (suc i) h blank begins =
    let begun : 0 < length (take (suc i) text) = rw (length-take-le (suc i) text (omega arith)) (omega arith) in
    let here : words_from (take (suc i) text) (drop (suc i) text) ≡ nonempty_before (take (suc i) text) (words (drop (suc i + 1) text)) =
    ap (λ bytes. words_from (take (suc i) text) bytes) (left_at text (suc i) h) ∙ words_from_blank (take (suc i) text) (get_or text (suc i) 0) (drop (suc i + 1) text) blank in
    here ∙ kept_begun (take (suc i) text) (words (drop (suc i + 1) text)) begun ∙ ap (λ further. take (suc i) text ∷ further) (words_skipped text (suc i) h blank)

pub last_word : (text : List ℕ) → 0 < length text → words_from text [] ≡ text ∷ words []
last_word text h = words_from_end text ∙ kept_begun text [] h ∙ ap (λ further. text ∷ further) (sym (words_from_end []))

pub no_bytes : (text : List ℕ) → length text ≡ 0 → words text ≡ []
no_bytes [] h = words_from_end []
no_bytes (byte ∷ text) h = absurd (omega arith)

pub rest_at : (text : List ℕ) (i : ℕ) (word rest : List ℕ) {all : List Word} → all ≡ words_from (take i text) (drop i text) →
    words_from (take i text) (drop i text) ≡ take i text ∷ words (drop i text) → word ≡ take i text → rest ≡ drop i text → all ≡ word ∷ words rest
rest_at text i word rest e found w r = rw (w, r) (e ∙ found)

pub all_word : (text : List ℕ) (i : ℕ) {all : List Word} → all ≡ words_from (take i text) (drop i text) → length text ≤ i → 0 < length text → all ≡ text ∷ words []
all_word text i e h begun =
    let front : take i text ≡ text = take_all i text h in
    let back : drop i text ≡ [] = drop_all i text h in
    let whole : words_from (take i text) (drop i text) ≡ words_from text [] = rw (front, back) refl in
    e ∙ whole ∙ last_word text begun

-- ---- whether there is a word

some_more : (word : Word) (byte : ℕ) (bytes : List ℕ) (b : Bool) → is_blank byte ≡ b → 0 < length word →
    no_words (words_from (word ++ byte ∷ []) bytes) ≡ false → no_words (words_from word (byte ∷ bytes)) ≡ false
some_more [] byte bytes b is begun later = absurd (omega (arith, begun))
some_more (first ∷ word) byte bytes true is begun later = ap no_words (words_from_blank (first ∷ word) byte bytes is)
some_more (first ∷ word) byte bytes false is begun later = ap no_words (words_from_other (first ∷ word) byte bytes is) ∙ later

some_from : (word : Word) (bytes : List ℕ) → 0 < length word → no_words (words_from word bytes) ≡ false
some_from [] [] begun = absurd (omega (arith, begun))
some_from (first ∷ word) [] begun = ap no_words (words_from_end (first ∷ word))
some_from word (byte ∷ bytes) begun =
    some_more word byte bytes (is_blank byte) refl begun (some_from (word ++ byte ∷ []) bytes (omega (arith, length-append word (byte ∷ []))))

-- from its first word on a line has none just where it has no byte
pub none_left : (text : List ℕ) → (0 < length text → is_blank (get_or text 0 0) ≡ false) → no_words (words text) ≡ (length text == 0)
none_left [] begins = ap no_words (words_from_end [])
none_left (byte ∷ text) begins =
    let some : (length (byte ∷ text) == 0) ≡ false = grind (arith, nat_tests) in
    ap no_words (words_from_other [] byte text (begins (omega arith))) ∙ some_from (byte ∷ []) text (omega arith) ∙ sym some
