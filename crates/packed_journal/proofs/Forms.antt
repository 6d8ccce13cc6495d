-- A form: what was written is read as the same, and what is read was written so. Of words, of two in turn, of lists, and by tags.
use Rattle.std.proofs.Common.{◌≡◌, ℕ, zero, suc, ◌≤◌, Bool, true, false, List, [], ◌∷◌, ◌++◌, length, take, drop, refl, sym, ap, ◌∙◌, subst, append_assoc, append-nil, arith}
use Rattle.std.specs.Bool.{⊤}
use Rattle.std.specs.Prelude.{◌==◌, ◌&&◌, nat_le, Option, Some, None, Ok, Err, flat_map, if◌then◌else◌}
use Rattle.std.proofs.lemmas.Bool.Decides.{nat_tests}
use Rattle.std.proofs.lemmas.List.{length-take-le, take-append-drop}
use Rattle.std.proofs.lemmas.List.Concat.{flat_map-append}
use Rattle.packed_journal.specs.declared.unread.Unread.{Unread}
use Rattle.packed_journal.specs.declared.unread.Unread.TheVariants.{Ended}
use Rattle.packed_journal.specs.Words.{Word, Tag, Number, Signed, Bytes, Flags, Digest, Reading, packed, packed_number, fits, byte_at, number_at, signed_at, split_at, flags_at, digest_at}
use Rattle.packed_journal.specs.Readings.{Read, bytes_of, fit, and_read, made, both, times, unless_read, unread_number, unread_flags, read_tag, read_number, read_signed, read_bytes, read_flags, read_digest, words_of_list, read_list}
use Rattle.packed_journal.specs.Parts.{named}
use Rattle.packed_journal.proofs.Tells.{Tells}
use Rattle.packed_journal.proofs.Times.{times_none, times_step}
use Rattle.packed_journal.proofs.NumberLaws.{both_first, both_second, is_same, number_read, number_tells, signed_read, signed_tells}
use Rattle.packed_journal.proofs.PartLaws.{split_read, split_tells, flags_read, flags_tells, digest_read}

-- what is read was written so
abbrev pub WrittenSo : {X : Type 0} → (X → List Word) → List ℕ → Read X → Type 0
WrittenSo words bytes (Err why) = ⊤
WrittenSo words bytes (Ok read) = bytes ≡ bytes_of (words read.0) ++ read.1

pub record IsForm {X : Type 0} (words : X → List Word) (read : List ℕ → Read X) : Type 0 where
  pub back : (x : X) (rest : List ℕ) → fit (words x) ≡ true → read (bytes_of (words x) ++ rest) ≡ Ok (x, rest)
  pub tells : (bytes : List ℕ) → WrittenSo words bytes (read bytes)

-- ---- what fits

pub fit_front : (ws vs : List Word) → fit (ws ++ vs) ≡ true → fit ws ≡ true
fit_front [] vs f = refl
fit_front (w ∷ ws) vs f = joined (fits w) (fit ws) (both_first (fits w) (fit (ws ++ vs)) f) (fit_front ws vs (both_second (fits w) (fit (ws ++ vs)) f))
  where
    joined : (a b : Bool) → a ≡ true → b ≡ true → (a && b) ≡ true
    joined a b g h = rw g h

pub fit_behind : (ws vs : List Word) → fit (ws ++ vs) ≡ true → fit vs ≡ true
fit_behind [] vs f = f
fit_behind (w ∷ ws) vs f = fit_behind ws vs (both_second (fits w) (fit (ws ++ vs)) f)

-- the bytes of words and of others behind them
pub both_bytes : (ws vs : List Word) (rest : List ℕ) → bytes_of (ws ++ vs) ++ rest ≡ bytes_of ws ++ (bytes_of vs ++ rest)
both_bytes ws vs rest = ap (λ all. all ++ rest) (flat_map-append packed ws vs) ∙ append_assoc (bytes_of ws) (bytes_of vs) rest

-- ---- words

pub one_word : (w : Word) (rest : List ℕ) → bytes_of (w ∷ []) ++ rest ≡ packed w ++ rest
one_word w rest = ap (λ front. front ++ rest) (append-nil (packed w))

word_form : {X : Type 0} (word : X → Word) (found : List ℕ → Reading X) (why : List ℕ → Unread) →
    ((x : X) (rest : List ℕ) → fits (word x) ≡ true → found (packed (word x) ++ rest) ≡ Some (x, rest)) →
    ((bytes : List ℕ) → Tells (λ x. packed (word x)) bytes (found bytes)) → IsForm (λ x. word x ∷ []) (λ bytes. unless_read (why bytes) (found bytes))
word_form {X = X} word found why go tell = record { back = back; tells = λ bytes. by_read bytes (found bytes) (tell bytes) }
  where
    back : (x : X) (rest : List ℕ) → fit (word x ∷ []) ≡ true → unless_read (why (bytes_of (word x ∷ []) ++ rest)) (found (bytes_of (word x ∷ []) ++ rest)) ≡ Ok (x, rest)
    back x rest f =
        ap (λ bytes. unless_read (why bytes) (found bytes)) (one_word (word x) rest)
        ∙ ap (unless_read (why (packed (word x) ++ rest))) (go x rest (both_first (fits (word x)) true f))

    by_read : (bytes : List ℕ) (read : Reading X) → Tells (λ x. packed (word x)) bytes read → WrittenSo (λ x. word x ∷ []) bytes (unless_read (why bytes) read)
    by_read bytes None t = tt
    by_read bytes (Some read) t = t ∙ sym (one_word (word read.0) read.1)

byte_tells : (bytes : List ℕ) → Tells (λ t. t ∷ []) bytes (byte_at bytes)
byte_tells [] = tt
byte_tells (byte ∷ bytes) = refl

pub tag_form : IsForm (λ t. Tag t ∷ []) read_tag
tag_form = word_form Tag byte_at (λ bytes. Ended) (λ t rest f. refl) byte_tells

pub number_form : (bits : ℕ) → IsForm (λ n. Number bits n ∷ []) (read_number bits)
number_form bits = word_form (Number bits) (number_at bits) unread_number (number_read bits) (number_tells bits)

pub signed_form : IsForm (λ z. Signed z ∷ []) read_signed
signed_form = word_form Signed signed_at unread_number signed_read signed_tells

pub flags_form : IsForm (λ fs. Flags fs ∷ []) read_flags
flags_form = word_form Flags flags_at unread_flags flags_read flags_tells

pub digest_form : IsForm (λ bs. Digest bs ∷ []) read_digest
digest_form = word_form Digest digest_at (λ bytes. Ended) digest_read (split_tells 32)

-- what is read, with what was told before it of the bytes
told_number : (bits : ℕ) (bytes : List ℕ) (n : ℕ) (rest : List ℕ) → read_number bits bytes ≡ Ok (n, rest) → bytes ≡ packed_number n ++ rest
told_number bits bytes n rest e = subst (WrittenSo (λ k. Number bits k ∷ []) bytes) e ((number_form bits).tells bytes) ∙ one_word (Number bits n) rest

pub bytes_form : IsForm (λ bs. Bytes bs ∷ []) read_bytes
bytes_form = record { back = back; tells = λ bytes. first bytes (read_number 64 bytes) refl }
  where
    back : (bs rest : List ℕ) → fit (Bytes bs ∷ []) ≡ true → read_bytes (bytes_of (Bytes bs ∷ []) ++ rest) ≡ Ok (bs, rest)
    back bs rest f =
        let few : fit (Number 64 (length bs) ∷ []) ≡ true = rw (both_first (fits (Bytes bs)) true f) refl in
        ap read_bytes (one_word (Bytes bs) rest ∙ append_assoc (packed_number (length bs)) bs rest)
        ∙ ap read_bytes (sym (one_word (Number 64 (length bs)) (bs ++ rest)))
        ∙ ap (λ read. and_read read (λ n end. unless_read Ended (split_at n end))) ((number_form 64).back (length bs) (bs ++ rest) few)
        ∙ ap (unless_read Ended) (split_read bs rest (length bs) refl)

    second : (bytes : List ℕ) (n : ℕ) (rest : List ℕ) → bytes ≡ packed_number n ++ rest → (there : Bool) → nat_le n (length rest) ≡ there →
        WrittenSo (λ bs. Bytes bs ∷ []) bytes (unless_read Ended (if there then Some (take n rest, drop n rest) else None))
    second bytes n rest e false h = tt
    second bytes n rest e true h =
        let few : n ≤ length rest = grind (arith, nat_tests) in
        let count : length (take n rest) ≡ n = length-take-le n rest few in
        let whole : packed_number n ++ rest ≡ packed_number (length (take n rest)) ++ (take n rest ++ drop n rest) =
        ap (λ k. packed_number k ++ rest) (sym count) ∙ ap (λ all. packed_number (length (take n rest)) ++ all) (sym (take-append-drop n rest)) in
        e ∙ whole ∙ sym (append_assoc (packed_number (length (take n rest))) (take n rest) (drop n rest)) ∙ sym (one_word (Bytes (take n rest)) (drop n rest))

    first : (bytes : List ℕ) (read : Read ℕ) → read_number 64 bytes ≡ read → WrittenSo (λ bs. Bytes bs ∷ []) bytes (and_read read (λ n rest. unless_read Ended (split_at n rest)))
    first bytes (Err why) e = tt
    first bytes (Ok read) e = second bytes read.0 read.1 (told_number 64 bytes read.0 read.1 e) (nat_le read.0 (length read.1)) refl

pub bytes_back : (bs rest : List ℕ) → fits (Bytes bs) ≡ true → read_bytes (packed (Bytes bs) ++ rest) ≡ Ok (bs, rest)
bytes_back bs rest f =
    let fit_all : fit (Bytes bs ∷ []) ≡ true = rw f refl in
    ap read_bytes (sym (one_word (Bytes bs) rest)) ∙ bytes_form.back bs rest fit_all

pub bytes_told : (bs bytes rest : List ℕ) → read_bytes bytes ≡ Ok (bs, rest) → bytes ≡ packed (Bytes bs) ++ rest
bytes_told bs bytes rest e = subst (WrittenSo (λ read. Bytes read ∷ []) bytes) e (bytes_form.tells bytes) ∙ one_word (Bytes bs) rest

-- ---- two in turn, and what is made of what is read

-- the words of two
abbrev pub then_words : {A B : Type 0} → (A → List Word) → (B → List Word) → A × B → List Word
then_words first second p = first p.0 ++ second p.1

pub both_tells : {A B : Type 0} (first : A → List Word) (second : B → List Word) (one : List ℕ → Read A) (other : List ℕ → Read B) →
    ((bytes : List ℕ) → WrittenSo first bytes (one bytes)) → ((bytes : List ℕ) → WrittenSo second bytes (other bytes)) → (bytes : List ℕ) →
    WrittenSo (then_words first second) bytes (both one other bytes)
both_tells {A = A} {B = B} first second one other f s bytes = by_first bytes (one bytes) (f bytes)
  where
    by_second : (bytes : List ℕ) (x : A) (rest : List ℕ) (read : Read B) → bytes ≡ bytes_of (first x) ++ rest → WrittenSo second rest read →
        WrittenSo (then_words first second) bytes (and_read read (λ y end. Ok ((x, y), end)))
    by_second bytes x rest (Err why) e t = tt
    by_second bytes x rest (Ok read) e t = e ∙ ap (λ all. bytes_of (first x) ++ all) t ∙ sym (both_bytes (first x) (second read.0) read.1)

    by_first : (bytes : List ℕ) (read : Read A) → WrittenSo first bytes read →
        WrittenSo (then_words first second) bytes (and_read read (λ x rest. and_read (other rest) (λ y end. Ok ((x, y), end))))
    by_first bytes (Err why) t = tt
    by_first bytes (Ok read) t = by_second bytes read.0 read.1 (other read.1) t (s read.1)

pub both_form : {A B : Type 0} (first : A → List Word) (second : B → List Word) (one : List ℕ → Read A) (other : List ℕ → Read B) → IsForm first one → IsForm second other →
    IsForm (then_words first second) (both one other)
both_form {A = A} {B = B} first second one other f s = record { back = back; tells = both_tells first second one other f.tells s.tells }
  where
    back : (p : A × B) (rest : List ℕ) → fit (first p.0 ++ second p.1) ≡ true → both one other (bytes_of (first p.0 ++ second p.1) ++ rest) ≡ Ok (p, rest)
    back p rest g =
        ap (both one other) (both_bytes (first p.0) (second p.1) rest)
        ∙ ap (λ read. and_read read (λ x end. and_read (other end) (λ y last. Ok ((x, y), last)))) (f.back p.0 (bytes_of (second p.1) ++ rest) (fit_front (first p.0) (second p.1) g))
        ∙ ap (λ read. and_read read (λ y last. Ok ((p.0, y), last))) (s.back p.1 rest (fit_behind (first p.0) (second p.1) g))

-- what is made has the words of what it is made of
pub made_tells : {A B : Type 0} (from : A → List Word) (words : B → List Word) (front : List Word) (make : A → B) (bytes : List ℕ) (read : Read A) →
    ((x : A) → words (make x) ≡ front ++ from x) → WrittenSo from bytes read → WrittenSo words (bytes_of front ++ bytes) (made make read)
made_tells from words front make bytes (Err why) same t = tt
made_tells from words front make bytes (Ok read) same t =
    ap (λ all. bytes_of front ++ all) t ∙ sym (both_bytes front (from read.0) read.1) ∙ ap (λ ws. bytes_of ws ++ read.1) (sym (same read.0))

pub made_form : {A B : Type 0} (from : A → List Word) (words : B → List Word) (one : List ℕ → Read A) (make : A → B) (part : B → A) → IsForm from one →
    ((y : B) → make (part y) ≡ y) → ((x : A) → words (make x) ≡ from x) → IsForm words (λ bytes. made make (one bytes))
made_form {A = A} {B = B} from words one make part f whole same = record { back = back; tells = λ bytes. made_tells from words [] make bytes (one bytes) same (f.tells bytes) }
  where
    back : (y : B) (rest : List ℕ) → fit (words y) ≡ true → made make (one (bytes_of (words y) ++ rest)) ≡ Ok (y, rest)
    back y rest g =
        let e : words y ≡ from (part y) = ap words (sym (whole y)) ∙ same (part y) in
        ap (λ ws. made make (one (bytes_of ws ++ rest))) e ∙ ap (made make) (f.back (part y) rest (ap fit (sym e) ∙ g)) ∙ ap (λ x. Ok (x, rest)) (whole y)

-- ---- by tags

-- behind its tag
pub arm_back : {A B : Type 0} (from : A → List Word) (one : List ℕ → Read A) (f : IsForm from one) (make : A → B) (x : A) (rest : List ℕ) → fit (from x) ≡ true →
    made make (one (bytes_of (from x) ++ rest)) ≡ Ok (make x, rest)
arm_back from one f make x rest g = ap (made make) (f.back x rest g)

pub arm_tells : {A B : Type 0} (from : A → List Word) (one : List ℕ → Read A) (f : IsForm from one) (words : B → List Word) (tag : ℕ) (make : A → B) (bytes : List ℕ) →
    ((x : A) → words (make x) ≡ Tag tag ∷ from x) → WrittenSo words (tag ∷ bytes) (made make (one bytes))
arm_tells from one f words tag make bytes same = made_tells from words (Tag tag ∷ []) make bytes (one bytes) same (f.tells bytes)

-- of a tag, or of another
pub tag_if : {X : Type 0} (words : X → List Word) (tag n : ℕ) (bytes : List ℕ) (one other : Read X) → WrittenSo words (n ∷ bytes) one →
    WrittenSo words (tag ∷ bytes) other → WrittenSo words (tag ∷ bytes) (if tag == n then one else other)
tag_if words tag n bytes one other this that = by_test (tag == n) refl
  where
    by_test : (test : Bool) → (tag == n) ≡ test → WrittenSo words (tag ∷ bytes) (if test then one else other)
    by_test true h = subst (λ k. WrittenSo words (k ∷ bytes) one) (sym (is_same tag n h)) this
    by_test false h = that

pub named_if : {X : Type 0} (words : X → List Word) (tag n : ℕ) (all bytes : List ℕ) (x : X) (other : Option X) → words x ≡ Tag n ∷ [] →
    WrittenSo words (tag ∷ bytes) (named all other bytes) → WrittenSo words (tag ∷ bytes) (named all (if tag == n then Some x else other) bytes)
named_if words tag n all bytes x other same that = by_test (tag == n) refl
  where
    by_test : (test : Bool) → (tag == n) ≡ test → WrittenSo words (tag ∷ bytes) (named all (if test then Some x else other) bytes)
    by_test true h = ap (λ k. k ∷ bytes) (is_same tag n h) ∙ ap (λ ws. bytes_of ws ++ bytes) (sym same)
    by_test false h = that

-- ---- lists

times_back : {X : Type 0} (words : X → List Word) (one : List ℕ → Read X) → IsForm words one → (xs : List X) (rest : List ℕ) → fit (flat_map words xs) ≡ true →
    times one (length xs) (bytes_of (flat_map words xs) ++ rest) ≡ Ok (xs, rest)
times_back words one f [] rest g = times_none one rest
times_back words one f (x ∷ xs) rest g =
    let this : fit (words x) ≡ true = fit_front (words x) (flat_map words xs) g in
    let more : fit (flat_map words xs) ≡ true = fit_behind (words x) (flat_map words xs) g in
    ap (times one (suc (length xs))) (both_bytes (words x) (flat_map words xs) rest)
    ∙ times_step one (length xs) (bytes_of (words x) ++ (bytes_of (flat_map words xs) ++ rest))
    ∙ ap (λ read. and_read read (λ y end. and_read (times one (length xs) end) (λ ys last. Ok (y ∷ ys, last)))) (f.back x (bytes_of (flat_map words xs) ++ rest) this)
    ∙ ap (λ read. and_read read (λ ys last. Ok (x ∷ ys, last))) (times_back words one f xs rest more)

-- so many were read, and written so
abbrev SoMany : {X : Type 0} → (X → List Word) → ℕ → List ℕ → Read (List X) → Type 0
SoMany words n bytes (Err why) = ⊤
SoMany words n bytes (Ok read) = (bytes ≡ bytes_of (flat_map words read.0) ++ read.1) × (length read.0 ≡ n)

times_tells : {X : Type 0} (words : X → List Word) (one : List ℕ → Read X) → IsForm words one → (n : ℕ) (bytes : List ℕ) → SoMany words n bytes (times one n bytes)
times_tells words one f zero bytes = subst (SoMany words zero bytes) (sym (times_none one bytes)) (refl, refl)
times_tells {X = X} words one f (suc n) bytes = subst (SoMany words (suc n) bytes) (sym (times_step one n bytes)) (by_first (one bytes) (f.tells bytes) (λ rest. times_tells words one f n rest))
  where
    by_more : (x : X) (rest : List ℕ) (read : Read (List X)) → bytes ≡ bytes_of (words x) ++ rest → SoMany words n rest read →
        SoMany words (suc n) bytes (and_read read (λ xs end. Ok (x ∷ xs, end)))
    by_more x rest (Err why) e t = tt
    by_more x rest (Ok read) e t =
        (e ∙ ap (λ all. bytes_of (words x) ++ all) t.0 ∙ sym (both_bytes (words x) (flat_map words read.0) read.1), ap suc t.1)

    by_first : (read : Read X) → WrittenSo words bytes read → ((rest : List ℕ) → SoMany words n rest (times one n rest)) →
        SoMany words (suc n) bytes (and_read read (λ x rest. and_read (times one n rest) (λ xs end. Ok (x ∷ xs, end))))
    by_first (Err why) t more = tt
    by_first (Ok read) t more = by_more read.0 read.1 (times one n read.1) t (more read.1)

pub list_form : {X : Type 0} (words : X → List Word) (one : List ℕ → Read X) → IsForm words one → IsForm (words_of_list words) (read_list one)
list_form {X = X} words one f = record { back = back; tells = λ bytes. by_count bytes (read_number 64 bytes) refl }
  where
    back : (xs : List X) (rest : List ℕ) → fit (words_of_list words xs) ≡ true → read_list one (bytes_of (words_of_list words xs) ++ rest) ≡ Ok (xs, rest)
    back xs rest g =
        let count : fit (Number 64 (length xs) ∷ []) ≡ true = fit_front (Number 64 (length xs) ∷ []) (flat_map words xs) g in
        ap (read_list one) (both_bytes (Number 64 (length xs) ∷ []) (flat_map words xs) rest)
        ∙ ap (λ read. and_read read (λ n end. times one n end)) ((number_form 64).back (length xs) (bytes_of (flat_map words xs) ++ rest) count)
        ∙ times_back words one f xs rest (fit_behind (Number 64 (length xs) ∷ []) (flat_map words xs) g)

    by_items : (bytes : List ℕ) (n : ℕ) (rest : List ℕ) (read : Read (List X)) → bytes ≡ packed_number n ++ rest → SoMany words n rest read → WrittenSo (words_of_list words) bytes read
    by_items bytes n rest (Err why) e t = tt
    by_items bytes n rest (Ok read) e t =
        e ∙ ap (λ k. packed_number k ++ rest) (sym t.1) ∙ ap (λ all. packed_number (length read.0) ++ all) t.0
        ∙ sym (append_assoc (packed_number (length read.0)) (bytes_of (flat_map words read.0)) read.1)

    by_count : (bytes : List ℕ) (read : Read ℕ) → read_number 64 bytes ≡ read → WrittenSo (words_of_list words) bytes (and_read read (λ n rest. times one n rest))
    by_count bytes (Err why) e = tt
    by_count bytes (Ok read) e = by_items bytes read.0 read.1 (times one read.0 read.1) (told_number 64 bytes read.0 read.1 e) (times_tells words one f read.0 read.1)
