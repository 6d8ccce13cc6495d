-- A journal's head is read as it was written, and written as it was read.
use Rattle.std.proofs.Common.{◌≡◌, ℕ, Bool, true, false, List, [], ◌∷◌, ◌++◌, refl, sym, ap, ◌∙◌, subst, append_assoc}
use Rattle.std.specs.Bool.{⊤}
use Rattle.std.specs.Prelude.{◌==◌, Result, Ok, Err, if◌then◌else◌}
use Rattle.packed_journal.specs.declared.heads.Head.{Head}
use Rattle.packed_journal.specs.declared.unread.Unread.{Unread}
use Rattle.packed_journal.specs.declared.unread.Unread.TheVariants.{Ended, Wrong}
use Rattle.packed_journal.specs.declared.stepping.Headless.TheVariants as headless
use Rattle.packed_journal.specs.Words.{Word, Number, Digest, number_within, packed_number}
use Rattle.packed_journal.specs.Readings.{Read, bytes_of, fit, both, read_digest, read_number}
use Rattle.packed_journal.specs.Journals.{beginning, form_of_head, name, words_of_head}
use Rattle.packed_journal.specs.JournalReadings.{Headed, and_first, begins_with, rest_behind, behind_name, if_first, if_read, of_version, read_beginning, read_head, read_told}
use Rattle.packed_journal.proofs.NumberLaws.{is_same}
use Rattle.packed_journal.proofs.Forms.{IsForm, WrittenSo, both_form, digest_form, made_form, number_form, one_word}
use Rattle.packed_journal.proofs.JournalForms.{Stood, behind_back, behind_tells}

-- ---- what a head tells

abbrev words_of_told : Head → List Word
words_of_told head = Digest head.policy ∷ Number 64 head.room ∷ []

told_form : IsForm words_of_told read_told
told_form =
    made_form (λ r. Digest r.0 ∷ Number 64 r.1 ∷ []) words_of_told (both read_digest (read_number 64)) (λ r. record { policy = r.0; room = r.1 }) (λ head. (head.policy, head.room))
    (both_form (λ d. Digest d ∷ []) (λ n. Number 64 n ∷ []) read_digest (read_number 64) digest_form (number_form 64))
    (λ head. refl) (λ r. refl)

two_is : packed_number 2 ≡ 2 ∷ []
unfolding number_within
two_is = refl

-- ---- as it was written

version_back : (rest : List ℕ) → read_number 64 (packed_number 2 ++ rest) ≡ Ok (2, rest)
version_back rest = ap (read_number 64) (sym (one_word (Number 64 2) rest)) ∙ (number_form 64).back 2 rest refl

pub head_back : (head : Head) (rest : List ℕ) → fit (words_of_head head) ≡ true → read_head (form_of_head head ++ rest) ≡ Ok (head, rest)
head_back head rest f =
    ap read_head (append_assoc name (bytes_of (words_of_head head)) rest)
    ∙ ap behind_name (behind_back name (bytes_of (words_of_head head) ++ rest))
    ∙ ap (λ all. behind_name (Ok all)) (append_assoc (packed_number 2) (bytes_of (words_of_told head)) rest)
    ∙ rw plain (ap (λ read. of_version (if_read read)) (version_back (bytes_of (words_of_told head) ++ rest)))
    ∙ ap if_read (told_form.back head rest f)
  where
    plain : begins_with 32 (packed_number 2 ++ (bytes_of (words_of_told head) ++ rest)) ≡ false
    plain = ap (λ front. begins_with 32 (front ++ (bytes_of (words_of_told head) ++ rest))) two_is

pub beginning_back : (head : Head) (rest : List ℕ) → fit (words_of_head head) ≡ true → read_beginning (beginning head ++ rest) ≡ Ok (head, rest)
beginning_back head rest f =
    ap read_beginning (append_assoc (form_of_head head) (packed_number 1) rest)
    ∙ ap and_first (head_back head (packed_number 1 ++ rest) f)
    ∙ ap (if_first head) (behind_back (packed_number 1) rest)

-- ---- as it was read

abbrev HeadTold : List ℕ → Headed Head → Type 0
HeadTold bytes (Err why) = ⊤
HeadTold bytes (Ok read) = bytes ≡ form_of_head read.0 ++ read.1

abbrev VersionTold : List ℕ → Headed ℕ → Type 0
VersionTold bytes (Err why) = ⊤
VersionTold bytes (Ok read) = bytes ≡ packed_number read.0 ++ read.1

-- behind a name
abbrev BehindTold : List ℕ → Headed Head → Type 0
BehindTold bytes (Err why) = ⊤
BehindTold bytes (Ok read) = bytes ≡ bytes_of (words_of_head read.0) ++ read.1

version_tells : (bytes : List ℕ) (read : Read ℕ) → WrittenSo (λ n. Number 64 n ∷ []) bytes read → VersionTold bytes (if_read read)
version_tells bytes (Ok read) t = t ∙ one_word (Number 64 read.0) read.1
version_tells bytes (Err Ended) t = tt
version_tells bytes (Err (Wrong left)) t = tt

fields_tell : (bytes rest : List ℕ) (read : Read Head) → bytes ≡ packed_number 2 ++ rest → WrittenSo words_of_told rest read → BehindTold bytes (if_read read)
fields_tell bytes rest (Ok read) e t =
    e ∙ ap (λ all. packed_number 2 ++ all) t ∙ sym (append_assoc (packed_number 2) (bytes_of (words_of_told read.0)) read.1)
fields_tell bytes rest (Err Ended) e t = tt
fields_tell bytes rest (Err (Wrong left)) e t = tt

of_version_tells : (bytes : List ℕ) (read : Headed ℕ) → VersionTold bytes read → BehindTold bytes (of_version read)
of_version_tells bytes (Err why) t = tt
of_version_tells bytes (Ok read) t = by_version (read.0 == 2) refl
  where
    by_version : (second : Bool) → (read.0 == 2) ≡ second → BehindTold bytes (if second then if_read (read_told read.1) else Err (headless.Version read.0))
    by_version true h = fields_tell bytes read.1 (read_told read.1) (t ∙ ap (λ n. packed_number n ++ read.1) (is_same read.0 2 h)) (told_form.tells read.1)
    by_version false h = tt

name_tells : (bytes : List ℕ) (read : Result (List ℕ) Unread) → Stood name bytes read → HeadTold bytes (behind_name read)
name_tells bytes (Err Ended) t = tt
name_tells bytes (Err (Wrong left)) t = tt
name_tells bytes (Ok rest) t = by_text (begins_with 32 rest)
  where
    behind_it : (read : Headed Head) → BehindTold rest read → HeadTold bytes read
    behind_it (Err why) b = tt
    behind_it (Ok read) b = t ∙ ap (λ all. name ++ all) b ∙ sym (append_assoc name (bytes_of (words_of_head read.0)) read.1)

    by_text : (text : Bool) → HeadTold bytes (if text then Err headless.Text else of_version (if_read (read_number 64 rest)))
    by_text true = tt
    by_text false =
        behind_it (of_version (if_read (read_number 64 rest)))
        (of_version_tells rest (if_read (read_number 64 rest)) (version_tells rest (read_number 64 rest) ((number_form 64).tells rest)))

pub head_told : (bytes : List ℕ) (head : Head) (rest : List ℕ) → read_head bytes ≡ Ok (head, rest) → bytes ≡ form_of_head head ++ rest
head_told bytes head rest e = subst (HeadTold bytes) e (name_tells bytes (rest_behind name bytes) (behind_tells name bytes))

abbrev BeginningTold : List ℕ → Headed Head → Type 0
BeginningTold bytes (Err why) = ⊤
BeginningTold bytes (Ok read) = bytes ≡ beginning read.0 ++ read.1

pub beginning_told : (bytes : List ℕ) (head : Head) (rest : List ℕ) → read_beginning bytes ≡ Ok (head, rest) → bytes ≡ beginning head ++ rest
beginning_told bytes head rest e = subst (BeginningTold bytes) e (by_head (read_head bytes) (name_tells bytes (rest_behind name bytes) (behind_tells name bytes)))
  where
    first_tells : (head : Head) (more : List ℕ) (read : Result (List ℕ) Unread) → bytes ≡ form_of_head head ++ more → Stood (packed_number 1) more read → BeginningTold bytes (if_first head read)
    first_tells head more (Err Ended) e t = tt
    first_tells head more (Err (Wrong left)) e t = tt
    first_tells head more (Ok rest) e t = e ∙ ap (λ all. form_of_head head ++ all) t ∙ sym (append_assoc (form_of_head head) (packed_number 1) rest)

    by_head : (read : Headed Head) → HeadTold bytes read → BeginningTold bytes (and_first read)
    by_head (Err why) t = tt
    by_head (Ok read) t = first_tells read.0 read.1 (rest_behind (packed_number 1) read.1) t (behind_tells (packed_number 1) read.1)
