-- So many readings, one after the other: one more, none, and that what was written is read so.
use Rattle.std.proofs.Common.{◌≡◌, ℕ, zero, suc, ◌-◌, ◌<◌, List, [], ◌∷◌, ◌++◌, Some, None, refl, sym, ap, ◌∙◌, arith, append_assoc, append-nil}
use Rattle.std.specs.Prelude.{option_map}
use Rattle.journal.specs.Words.{Text, Reading, and_then, times, number_at}
use Rattle.journal.specs.Readings.{list_at}

pub times_none : {X : Type 0} (one : List Text → Reading X) (words : List Text) → times one zero words ≡ Some ([], words)
unfolding times
times_none one words = refl

pub times_step : {X : Type 0} (one : List Text → Reading X) (n : ℕ) (words : List Text) →
    times one (suc n) words ≡ and_then (one words) (λ x behind. and_then (times one n behind) (λ xs last. Some (x ∷ xs, last)))
unfolding times
times_step one n words = refl

-- what was read before, and what is read
abbrev pub onto : {X : Type 0} → List X → Reading (List X) → Reading (List X)
onto xs read = option_map (λ found. (xs ++ found.0, found.1)) read

pub onto_nothing : {X : Type 0} (read : Reading (List X)) → read ≡ onto [] read
onto_nothing None = refl
onto_nothing (Some found) = refl

-- one is read as nothing, where one more is wanted
pub times_stop : {X : Type 0} (one : List Text → Reading X) (all : Reading (List X)) (xs : List X) (n : ℕ) (words : List Text) →
    all ≡ onto xs (times one n words) → 0 < n → one words ≡ None → None ≡ all
times_stop one all xs zero words so more none = absurd (omega (arith, more))
times_stop one all xs (suc n) words so more none =
    let here : times one (suc n) words ≡ None = times_step one n words ∙ rw none refl in
    sym (so ∙ ap (onto xs) here)

put_behind : {X : Type 0} (xs ys : List X) (x : X) (read : Reading (List X)) → ys ≡ xs ++ x ∷ [] →
    onto xs (and_then read (λ more last. Some (x ∷ more, last))) ≡ onto ys read
put_behind xs ys x None e = refl
put_behind xs ys x (Some found) e = rw e (ap (λ items. Some (items, found.1)) (sym (append_assoc xs (x ∷ []) found.0)))

-- one more is read
pub times_more : {X : Type 0} (one : List Text → Reading X) (all : Reading (List X)) (xs ys : List X) (n less : ℕ) (words behind : List Text) (x : X) →
    all ≡ onto xs (times one n words) → n ≡ suc less → one words ≡ Some (x, behind) → ys ≡ xs ++ x ∷ [] → all ≡ onto ys (times one less behind)
times_more one all xs ys n less words behind x so e some is =
    let here : times one (suc less) words ≡ and_then (times one less behind) (λ more last. Some (x ∷ more, last)) = times_step one less words ∙ rw some refl in
    so ∙ ap (λ count. onto xs (times one count words)) e ∙ ap (onto xs) here
    ∙ put_behind xs ys x (times one less behind) is

-- all are read
pub times_end : {X : Type 0} (one : List Text → Reading X) (all : Reading (List X)) (xs : List X) (n : ℕ) (words : List Text) →
    all ≡ onto xs (times one n words) → n ≡ 0 → Some (xs, words) ≡ all
times_end one all xs n words so e =
    sym (so ∙ ap (λ count. onto xs (times one count words)) e ∙ ap (onto xs) (times_none one words) ∙ ap (λ items. Some (items, words)) (append-nil xs))

-- a list, where its count is read
pub list_is : {X : Type 0} (one : List Text → Reading X) (words behind : List Text) (n : ℕ) → Some (n, behind) ≡ number_at 64 words → list_at one words ≡ times one n behind
list_is one words behind n e = rw (sym e) refl

-- nothing is read yet of a list
pub list_begins : {X : Type 0} (one : List Text → Reading X) (words behind : List Text) (n : ℕ) → Some (n, behind) ≡ number_at 64 words →
    list_at one words ≡ onto [] (times one (n - 0) behind)
list_begins one words behind n e =
    let count : n - 0 ≡ n = omega arith in
    list_is one words behind n e ∙ onto_nothing (times one n behind) ∙ ap (λ some. onto [] (times one some behind)) (sym count)
