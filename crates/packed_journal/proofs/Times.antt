-- So many readings, one after the other: one more, none, and that what was written is read so.
use Rattle.std.proofs.Common.{◌≡◌, ℕ, zero, suc, ◌<◌, List, [], ◌∷◌, ◌++◌, refl, sym, ap, ◌∙◌, arith, append_assoc, append-nil}
use Rattle.std.specs.Prelude.{Ok, Err}
use Rattle.packed_journal.specs.declared.unread.Unread.{Unread}
use Rattle.packed_journal.specs.Readings.{Read, and_read, times}

pub times_none : {X : Type 0} (one : List ℕ → Read X) (bytes : List ℕ) → times one zero bytes ≡ Ok ([], bytes)
unfolding times
times_none one bytes = refl

pub times_step : {X : Type 0} (one : List ℕ → Read X) (n : ℕ) (bytes : List ℕ) →
    times one (suc n) bytes ≡ and_read (one bytes) (λ x rest. and_read (times one n rest) (λ xs end. Ok (x ∷ xs, end)))
unfolding times
times_step one n bytes = refl

-- what was read before, and what is read
abbrev pub onto : {X : Type 0} → List X → Read (List X) → Read (List X)
onto xs (Ok read) = Ok (xs ++ read.0, read.1)
onto xs (Err why) = Err why

pub onto_nothing : {X : Type 0} (read : Read (List X)) → read ≡ onto [] read
onto_nothing (Err why) = refl
onto_nothing (Ok found) = refl

-- one isn't read, where one more is wanted
pub times_stop : {X : Type 0} (one : List ℕ → Read X) (all : Read (List X)) (xs : List X) (n : ℕ) (bytes : List ℕ) (why : Unread) →
    all ≡ onto xs (times one n bytes) → 0 < n → one bytes ≡ Err why → Err why ≡ all
times_stop one all xs zero bytes why so more none = absurd (omega (arith, more))
times_stop one all xs (suc n) bytes why so more none =
    let here : times one (suc n) bytes ≡ Err why = times_step one n bytes ∙ rw none refl in
    sym (so ∙ ap (onto xs) here)

pub put_behind : {X : Type 0} (xs ys : List X) (x : X) (read : Read (List X)) → ys ≡ xs ++ x ∷ [] →
    onto xs (and_read read (λ more last. Ok (x ∷ more, last))) ≡ onto ys read
put_behind xs ys x (Err why) e = refl
put_behind xs ys x (Ok found) e = rw e (ap (λ items. Ok (items, found.1)) (sym (append_assoc xs (x ∷ []) found.0)))

-- one more is read
pub times_more : {X : Type 0} (one : List ℕ → Read X) (all : Read (List X)) (xs ys : List X) (n less : ℕ) (bytes rest : List ℕ) (x : X) →
    all ≡ onto xs (times one n bytes) → n ≡ suc less → one bytes ≡ Ok (x, rest) → ys ≡ xs ++ x ∷ [] → all ≡ onto ys (times one less rest)
times_more one all xs ys n less bytes rest x so e some is =
    let here : times one (suc less) bytes ≡ and_read (times one less rest) (λ more last. Ok (x ∷ more, last)) = times_step one less bytes ∙ rw some refl in
    so ∙ ap (λ count. onto xs (times one count bytes)) e ∙ ap (onto xs) here
    ∙ put_behind xs ys x (times one less rest) is

-- all are read
pub times_end : {X : Type 0} (one : List ℕ → Read X) (all : Read (List X)) (xs : List X) (n : ℕ) (bytes : List ℕ) →
    all ≡ onto xs (times one n bytes) → n ≡ 0 → Ok (xs, bytes) ≡ all
times_end one all xs n bytes so e =
    sym (so ∙ ap (λ count. onto xs (times one count bytes)) e ∙ ap (onto xs) (times_none one bytes) ∙ ap (λ items. Ok (items, bytes)) (append-nil xs))
