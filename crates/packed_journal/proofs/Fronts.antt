-- Bytes that end within a form are read as ended. Of words, of two in turn, of lists, and by tags.
use Rattle.std.proofs.Common.{◌≡◌, ℕ, zero, suc, ◌+◌, ◌%◌, ◌/◌, ◌<◌, Bool, true, false, List, [], ◌∷◌, ◌++◌, length, drop, get_or, refl, sym, ap, ◌∙◌, arith, append-nil, length-append, ◌⊎◌, inl, inr}
use Rattle.std.specs.Prelude.{nat_lt, nat_le, None, Ok, Err, flat_map}
use Rattle.std.proofs.lemmas.Bool.Decides.{nat_tests}
use Rattle.std.proofs.lemmas.List.Concat.{flat_map-append}
use Rattle.packed_journal.specs.declared.unread.Unread.TheVariants.{Ended}
use Rattle.packed_journal.specs.Words.{Word, Number, Signed, Bytes, Flags, Digest, number_within, number_in, packed, packed_number, zigzag, fits, split_at}
use Rattle.packed_journal.specs.Readings.{Read, bytes_of, fit, and_read, made, both, go_on, times, unless_read, read_number, read_signed, read_bytes, read_flags, read_digest, words_of_list, read_list}
use Rattle.packed_journal.proofs.Steps.{within_none, within_last, within_more, in_end, in_more}
use Rattle.packed_journal.proofs.Times.{times_step}
use Rattle.packed_journal.proofs.NumberLaws.{both_first, is_same, less_is, not_less_is}
use Rattle.packed_journal.proofs.Forms.{IsForm, fit_behind, fit_front, number_form, one_word, then_words}

-- ---- fronts

abbrev pub Ends : {X : Type 0} → (List ℕ → Read X) → List ℕ → Type 0
Ends read form = (front more : List ℕ) (b : ℕ) → form ≡ front ++ b ∷ more → read front ≡ Err Ended

pub same_first : (x y : ℕ) (xs ys : List ℕ) → x ∷ xs ≡ y ∷ ys → x ≡ y
same_first x y xs ys e = ap (λ l. get_or l 0 0) e

pub same_rest : (x y : ℕ) (xs ys : List ℕ) → x ∷ xs ≡ y ∷ ys → xs ≡ ys
same_rest x y xs ys e = ap (drop 1) e

pub no_more : (front more : List ℕ) (b : ℕ) → [] ≡ front ++ b ∷ more → ◌≡◌ {A = ℕ} 1 0
no_more front more b e =
    let long : length (front ++ b ∷ more) ≡ length front + length (b ∷ more) = length-append front (b ∷ more) in
    let none : 0 ≡ length (front ++ b ∷ more) = ap length e in
    omega (arith, long, none)

-- a front of two ends within the first, or within the second
abbrev pub Parts : List ℕ → List ℕ → List ℕ → List ℕ → ℕ → Type 0
Parts one two front more b = ((rest : List ℕ) × ((c : ℕ) × (one ≡ front ++ c ∷ rest))) ⊎ ((last : List ℕ) × ((front ≡ one ++ last) × (two ≡ last ++ b ∷ more)))

pub parted : (one two front more : List ℕ) (b : ℕ) → one ++ two ≡ front ++ b ∷ more → Parts one two front more b
parted [] two front more b e = inr (front, (refl, e))
parted (x ∷ one) two [] more b e = inl (one, (x, refl))
parted (x ∷ one) two (y ∷ front) more b e =
    onward (same_first x y (one ++ two) (front ++ b ∷ more) e) (parted one two front more b (same_rest x y (one ++ two) (front ++ b ∷ more) e))
  where
    onward : x ≡ y → Parts one two front more b → Parts (x ∷ one) two (y ∷ front) more b
    onward s (inl p) = inl (p.0, (p.1.0, ap (λ k. k ∷ one) s ∙ ap (λ all. y ∷ all) p.1.1))
    onward s (inr p) = inr (p.0, (ap (λ k. k ∷ front) (sym s) ∙ ap (λ all. x ∷ all) p.1.0, p.1.1))

-- each form of a kind ends so
abbrev pub FormEnds : {X : Type 0} → (X → List Word) → (List ℕ → Read X) → Type 0
FormEnds {X = X} words read = (x : X) → fit (words x) ≡ true → Ends read (bytes_of (words x))

-- ---- two in turn, and what is made of what is read

pub both_ends : {A B : Type 0} (first : A → List Word) (second : B → List Word) (one : List ℕ → Read A) (other : List ℕ → Read B) → IsForm first one → FormEnds first one → FormEnds second other →
    FormEnds (then_words first second) (both one other)
both_ends {A = A} {B = B} first second one other f e s p g front more b is =
    by_part (parted (bytes_of (first p.0)) (bytes_of (second p.1)) front more b (sym (flat_map-append packed (first p.0) (second p.1)) ∙ is))
  where
    by_part : Parts (bytes_of (first p.0)) (bytes_of (second p.1)) front more b → both one other front ≡ Err Ended
    by_part (inl q) = ap (λ read. and_read read (λ x end. and_read (other end) (λ y last. Ok ((x, y), last)))) (e p.0 (fit_front (first p.0) (second p.1) g) front q.0 q.1.0 q.1.1)
    by_part (inr q) =
        ap (both one other) q.1.0
        ∙ ap (λ read. and_read read (λ x end. and_read (other end) (λ y last. Ok ((x, y), last)))) (f.back p.0 q.0 (fit_front (first p.0) (second p.1) g))
        ∙ ap (λ read. and_read read (λ y last. Ok ((p.0, y), last))) (s p.1 (fit_behind (first p.0) (second p.1) g) q.0 more b q.1.1)

pub made_ends : {A B : Type 0} (from : A → List Word) (words : B → List Word) (one : List ℕ → Read A) (make : A → B) (part : B → A) → FormEnds from one →
    ((y : B) → words y ≡ from (part y)) → FormEnds words (λ bytes. made make (one bytes))
made_ends from words one make part e same y g front more b is =
    ap (made make) (e (part y) (ap fit (sym (same y)) ∙ g) front more b (ap bytes_of (sym (same y)) ∙ is))

-- ---- by tags

pub arm_ends : {A B : Type 0} (from : A → List Word) (one : List ℕ → Read A) → FormEnds from one → (read : List ℕ → Read B) (tag : ℕ) (make : A → B) → read [] ≡ Err Ended →
    ((bytes : List ℕ) → read (tag ∷ bytes) ≡ made make (one bytes)) → (x : A) → fit (from x) ≡ true → Ends read (tag ∷ bytes_of (from x))
arm_ends from one e read tag make none same x g [] more b is = none
arm_ends from one e read tag make none same x g (y ∷ front) more b is =
    ap (λ k. read (k ∷ front)) (sym (same_first tag y (bytes_of (from x)) (front ++ b ∷ more) is)) ∙ same front
    ∙ ap (made make) (e x g front more b (same_rest tag y (bytes_of (from x)) (front ++ b ∷ more) is))

-- a tag alone
pub tag_ends : {B : Type 0} (read : List ℕ → Read B) (tag : ℕ) → read [] ≡ Err Ended → Ends read (tag ∷ [])
tag_ends read tag none [] more b is = none
tag_ends read tag none (y ∷ front) more b is = absurd (omega (arith, no_more front more b (same_rest tag y [] (front ++ b ∷ more) is)))

-- ---- words

-- a number that ends is none, and each of its bytes has another behind it
abbrev Within : ℕ → List ℕ → Type 0
Within more front = (number_in more front ≡ None) × (go_on front ≡ true) × (length front < more)

number_within_ends : (more n : ℕ) (front rest : List ℕ) (b : ℕ) → number_within more n ≡ front ++ b ∷ rest → Within more front
number_within_ends zero n front rest b e = absurd (omega (arith, no_more front rest b (sym (within_none n) ∙ e)))
number_within_ends (suc more) n [] rest b e = (in_end more, refl, omega arith)
number_within_ends (suc more) n (y ∷ front) rest b e = by_size (λ h. number_within_ends more (n / 128) front rest b h) (nat_lt n 128) refl
  where
    by_size : (number_within more (n / 128) ≡ front ++ b ∷ rest → Within more front) → (low : Bool) → nat_lt n 128 ≡ low → Within (suc more) (y ∷ front)
    by_size go true h = absurd (omega (arith, no_more front rest b (same_rest n y [] (front ++ b ∷ rest) (sym (within_last more n h) ∙ e))))
    by_size go false h =
        let whole : (128 + n % 128) ∷ number_within more (n / 128) ≡ y ∷ (front ++ b ∷ rest) = sym (within_more more n h) ∙ e in
        let first : 128 + n % 128 ≡ y = same_first (128 + n % 128) y (number_within more (n / 128)) (front ++ b ∷ rest) whole in
        let within : Within more front = go (same_rest (128 + n % 128) y (number_within more (n / 128)) (front ++ b ∷ rest) whole) in
        let high : nat_lt y 128 ≡ false = not_less_is y 128 (omega (arith, first)) in
        let large : nat_le 128 y ≡ true = grind (arith, nat_tests) in
        (in_more more y front high ∙ rw within.0 refl, rw large within.1, omega (arith, within.2))

pub number_bytes_end : (bits n : ℕ) → Ends (read_number bits) (packed_number n)
number_bytes_end bits n front more b e =
    let within : Within 10 front = number_within_ends 10 n front more b e in
    let few : nat_lt (length front) 10 ≡ true = less_is (length front) 10 within.2 in
    rw (within.0, within.1, few) refl

pub number_ends : (bits : ℕ) → FormEnds (λ n. Number bits n ∷ []) (read_number bits)
number_ends bits n f front more b e = number_bytes_end bits n front more b (sym (append-nil (packed_number n)) ∙ e)

signed_bytes_end : (n : ℕ) → Ends read_signed (packed_number n)
signed_bytes_end n front more b e =
    let within : Within 10 front = number_within_ends 10 n front more b e in
    let few : nat_lt (length front) 10 ≡ true = less_is (length front) 10 within.2 in
    rw (within.0, within.1, few) refl

pub signed_ends : FormEnds (λ z. Signed z ∷ []) read_signed
signed_ends z f front more b e = signed_bytes_end (zigzag z) front more b (sym (append-nil (packed_number (zigzag z))) ∙ e)

-- fewer bytes than so many
split_ends : (bytes front more : List ℕ) (n b : ℕ) → length bytes ≡ n → bytes ≡ front ++ b ∷ more → unless_read Ended (split_at n front) ≡ Err Ended
split_ends bytes front more n b k e =
    let long : length (front ++ b ∷ more) ≡ length front + length (b ∷ more) = length-append front (b ∷ more) in
    let all : length bytes ≡ length (front ++ b ∷ more) = ap length e in
    let few : nat_le n (length front) ≡ false = grind (arith, nat_tests) in
    rw few refl

pub digest_ends : FormEnds (λ bs. Digest bs ∷ []) read_digest
digest_ends bs f front more b e = split_ends bs front more 32 b (is_same (length bs) 32 (both_first (fits (Digest bs)) true f)) (sym (append-nil bs) ∙ e)

pub flags_end : FormEnds (λ fs. Flags fs ∷ []) read_flags
flags_end fs f [] more b e = refl
flags_end fs f (y ∷ front) more b e = absurd (omega (arith, no_more front more b (same_rest _ y [] (front ++ b ∷ more) e)))

pub bytes_end : FormEnds (λ bs. Bytes bs ∷ []) read_bytes
bytes_end bs f front more b e = by_part (parted (packed_number (length bs)) bs front more b (sym (append-nil (packed_number (length bs) ++ bs)) ∙ e))
  where
    few : fit (Number 64 (length bs) ∷ []) ≡ true
    few = rw (both_first (fits (Bytes bs)) true f) refl

    by_part : Parts (packed_number (length bs)) bs front more b → read_bytes front ≡ Err Ended
    by_part (inl q) = ap (λ read. and_read read (λ n rest. unless_read Ended (split_at n rest))) (number_bytes_end 64 (length bs) front q.0 q.1.0 q.1.1)
    by_part (inr q) =
        ap read_bytes (q.1.0 ∙ sym (one_word (Number 64 (length bs)) q.0))
        ∙ ap (λ read. and_read read (λ n rest. unless_read Ended (split_at n rest))) ((number_form 64).back (length bs) q.0 few)
        ∙ split_ends bs q.0 more (length bs) b refl q.1.1

-- ---- lists

times_end_within : {X : Type 0} (words : X → List Word) (one : List ℕ → Read X) → IsForm words one → FormEnds words one → (xs : List X) → fit (flat_map words xs) ≡ true →
    Ends (times one (length xs)) (bytes_of (flat_map words xs))
times_end_within words one f e [] g front more b is = absurd (omega (arith, no_more front more b is))
times_end_within {X = X} words one f e (x ∷ xs) g front more b is =
    times_step one (length xs) front
    ∙ by_part (times_end_within words one f e xs (fit_behind (words x) (flat_map words xs) g))
    (parted (bytes_of (words x)) (bytes_of (flat_map words xs)) front more b (sym (flat_map-append packed (words x) (flat_map words xs)) ∙ is))
  where
    by_part : Ends (times one (length xs)) (bytes_of (flat_map words xs)) → Parts (bytes_of (words x)) (bytes_of (flat_map words xs)) front more b →
        and_read (one front) (λ y rest. and_read (times one (length xs) rest) (λ ys last. Ok (y ∷ ys, last))) ≡ Err Ended
    by_part go (inl q) =
        ap (λ read. and_read read (λ y rest. and_read (times one (length xs) rest) (λ ys last. Ok (y ∷ ys, last))))
        (e x (fit_front (words x) (flat_map words xs) g) front q.0 q.1.0 q.1.1)
    by_part go (inr q) =
        ap (λ all. and_read (one all) (λ y rest. and_read (times one (length xs) rest) (λ ys last. Ok (y ∷ ys, last)))) q.1.0
        ∙ ap (λ read. and_read read (λ y rest. and_read (times one (length xs) rest) (λ ys last. Ok (y ∷ ys, last)))) (f.back x q.0 (fit_front (words x) (flat_map words xs) g))
        ∙ ap (λ read. and_read read (λ ys last. Ok (x ∷ ys, last))) (go q.0 more b q.1.1)

pub list_ends : {X : Type 0} (words : X → List Word) (one : List ℕ → Read X) → IsForm words one → FormEnds words one → FormEnds (words_of_list words) (read_list one)
list_ends words one f e xs g front more b is = by_part (parted (packed_number (length xs)) (bytes_of (flat_map words xs)) front more b is)
  where
    count : fit (Number 64 (length xs) ∷ []) ≡ true
    count = rw (both_first (fits (Number 64 (length xs))) (fit (flat_map words xs)) g) refl

    by_part : Parts (packed_number (length xs)) (bytes_of (flat_map words xs)) front more b → read_list one front ≡ Err Ended
    by_part (inl q) = ap (λ read. and_read read (λ n rest. times one n rest)) (number_bytes_end 64 (length xs) front q.0 q.1.0 q.1.1)
    by_part (inr q) =
        ap (read_list one) (q.1.0 ∙ sym (one_word (Number 64 (length xs)) q.0))
        ∙ ap (λ read. and_read read (λ n rest. times one n rest)) ((number_form 64).back (length xs) q.0 count)
        ∙ times_end_within words one f e xs (fit_behind (Number 64 (length xs) ∷ []) (flat_map words xs) g) q.0 more b q.1.1
