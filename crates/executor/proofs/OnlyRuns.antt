-- A map has one list of maximal runs.
use Rattle.std.proofs.Common.{◌≡◌, ℕ, suc, ◌+◌, ◌-◌, ◌<◌, ◌≤◌, List, [], ◌∷◌, length, get_or, refl, sym, ap, ◌∙◌, arith, Option, Some, None, inl, inr, ◌⊎◌}
use Rattle.std.specs.Prelude.{slice_get, All}
use Rattle.std.specs.List.{AllPairs}
use Rattle.std.proofs.lemmas.Bool.{cases_lt}
use Rattle.std.proofs.lemmas.List.Elements.{All-head, All-tail, All-nil, All-cons}
use Rattle.std.proofs.lemmas.Option.{slice_get-get_or, none-some}
use Rattle.executor.specs.declared.written_range.WrittenRange.{WrittenRange}
use Rattle.executor.specs.Written.{all_laid, end_of, AreRuns}
use Rattle.executor.proofs.Maps.{laid_inside, laid_below, laid_past}

-- that runs have bytes and gaps between
record Apart (runs : List WrittenRange) : Type 0 where
  filled : All (λ run. 0 < length run.bytes) runs
  apart : AllPairs (λ run later. end_of run < later.address) runs

rest_apart : (run : WrittenRange) (runs : List WrittenRange) → Apart (run ∷ runs) → Apart runs
rest_apart run runs h = record {
  filled = All-tail (λ run. 0 < length run.bytes) run runs h.filled;
  apart = λ i j d p q. h.apart (suc i) (suc j) d (omega arith) (omega arith);
}

later_above : (run : WrittenRange) (runs : List WrittenRange) → Apart (run ∷ runs) → All (λ later. end_of run < later.address) runs
later_above run runs h = λ k d p. h.apart 0 (suc k) d (omega arith) (omega arith)

none_up_to : (end x : ℕ) (runs : List WrittenRange) → All (λ later. end < later.address) runs → x ≤ end → all_laid runs x ≡ None
none_up_to end x [] h p = refl
none_up_to end x (run ∷ runs) h p =
    let above : end < run.address = All-head (λ later. end < later.address) run runs h in
    laid_below (all_laid runs) run.address run.bytes x (omega arith)
    ∙ none_up_to end x runs (All-tail (λ later. end < later.address) run runs h) p

has_bytes : (run : WrittenRange) (runs : List WrittenRange) → Apart (run ∷ runs) → 0 < length run.bytes
has_bytes run runs h = All-head (λ run. 0 < length run.bytes) run runs h.filled

-- before the first run there is nothing, in it there is its byte, and just behind it there is nothing
none_before : (run : WrittenRange) (runs : List WrittenRange) (x : ℕ) → Apart (run ∷ runs) → x < run.address → all_laid (run ∷ runs) x ≡ None
none_before run runs x h p = laid_below (all_laid runs) run.address run.bytes x p ∙ none_up_to (end_of run) x runs (later_above run runs h) (omega arith)

byte_in : (run : WrittenRange) (runs : List WrittenRange) (x : ℕ) → run.address ≤ x → x < end_of run → all_laid (run ∷ runs) x ≡ slice_get run.bytes (x - run.address)
byte_in run runs x p q = laid_inside (all_laid runs) run.address run.bytes x p q

none_behind : (run : WrittenRange) (runs : List WrittenRange) → Apart (run ∷ runs) → all_laid (run ∷ runs) (end_of run) ≡ None
none_behind run runs h =
    laid_past (all_laid runs) run.address run.bytes (end_of run) (omega arith) ∙ none_up_to (end_of run) (end_of run) runs (later_above run runs h) (omega arith)

-- the first run of one list does not begin before that of the other, and does not end before it
not_before : (x y : WrittenRange) (xs ys : List WrittenRange) → Apart (x ∷ xs) → Apart (y ∷ ys) → ((z : ℕ) → all_laid (x ∷ xs) z ≡ all_laid (y ∷ ys) z) → y.address ≤ x.address
not_before x y xs ys hx hy same = at (cases_lt x.address y.address)
  where
    at : (x.address < y.address) ⊎ (y.address ≤ x.address) → y.address ≤ x.address
    at (inr p) = p
    at (inl p) =
        let some : 0 < length x.bytes = has_bytes x xs hx in
        let zero_far : x.address - x.address ≡ 0 = omega arith in
        absurd (none-some (get_or x.bytes 0 0)
        (sym (none_before y ys x.address hy p) ∙ (sym (same x.address)
        ∙ (byte_in x xs x.address (omega arith) (omega arith) ∙ (ap (slice_get x.bytes) zero_far ∙ slice_get-get_or x.bytes 0 0 some)))))

not_shorter : (x y : WrittenRange) (xs ys : List WrittenRange) → Apart (x ∷ xs) → y.address ≤ x.address → ((z : ℕ) → all_laid (x ∷ xs) z ≡ all_laid (y ∷ ys) z) → end_of y ≤ end_of x
not_shorter x y xs ys hx from same = at (cases_lt (end_of x) (end_of y))
  where
    at : (end_of x < end_of y) ⊎ (end_of y ≤ end_of x) → end_of y ≤ end_of x
    at (inr p) = p
    at (inl p) =
        absurd (none-some (get_or y.bytes (end_of x - y.address) 0)
        (sym (none_behind x xs hx) ∙ (same (end_of x)
        ∙ (byte_in y ys (end_of x) (omega arith) p ∙ slice_get-get_or y.bytes (end_of x - y.address) 0 (omega arith)))))

same_bytes : (xs ys : List ℕ) → length xs ≡ length ys → ((i : ℕ) → i < length xs → slice_get xs i ≡ slice_get ys i) → xs ≡ ys
same_bytes [] [] e same = refl
same_bytes [] (y ∷ ys) e same = absurd (omega arith)
same_bytes (x ∷ xs) [] e same = absurd (omega arith)
same_bytes (x ∷ xs) (y ∷ ys) e same =
    let first : Some x ≡ Some y = same 0 (omega arith) in
    let rest : xs ≡ ys = same_bytes xs ys (omega arith) (λ i p. same (suc i) (omega arith)) in
    cc

not_empty : (y : WrittenRange) (ys : List WrittenRange) → Apart (y ∷ ys) → ((z : ℕ) → all_laid (y ∷ ys) z ≡ None) → ⊥
not_empty y ys h none =
    let some : 0 < length y.bytes = has_bytes y ys h in
    let zero_far : y.address - y.address ≡ 0 = omega arith in
    none-some (get_or y.bytes 0 0)
    (sym (none y.address) ∙ (byte_in y ys y.address (omega arith) (omega arith) ∙ (ap (slice_get y.bytes) zero_far ∙ slice_get-get_or y.bytes 0 0 some)))

same_runs : (xs ys : List WrittenRange) → Apart xs → Apart ys → ((z : ℕ) → all_laid xs z ≡ all_laid ys z) → xs ≡ ys
same_runs [] [] hx hy same = refl
same_runs [] (y ∷ ys) hx hy same = absurd (not_empty y ys hy (λ z. sym (same z)))
same_runs (x ∷ xs) [] hx hy same = absurd (not_empty x xs hx same)
same_runs (x ∷ xs) (y ∷ ys) hx hy same =
    let back : (z : ℕ) → all_laid (y ∷ ys) z ≡ all_laid (x ∷ xs) z = λ z. sym (same z) in
    let low : y.address ≤ x.address = not_before x y xs ys hx hy same in
    let high : x.address ≤ y.address = not_before y x ys xs hy hx back in
    let far : end_of y ≤ end_of x = not_shorter x y xs ys hx low same in
    let near : end_of x ≤ end_of y = not_shorter y x ys xs hy high back in
    let from : x.address ≡ y.address = omega arith in
    let bytes : x.bytes ≡ y.bytes =
    same_bytes x.bytes y.bytes (omega arith) (λ i p.
    let dx : (x.address + i) - x.address ≡ i = omega arith in
    let dy : (x.address + i) - y.address ≡ i = omega arith in
    sym (ap (slice_get x.bytes) dx) ∙ (sym (byte_in x xs (x.address + i) (omega arith) (omega arith))
    ∙ (same (x.address + i) ∙ (byte_in y ys (x.address + i) (omega arith) (omega arith) ∙ ap (slice_get y.bytes) dy)))) in
    let rest : xs ≡ ys = same_runs xs ys (rest_apart x xs hx) (rest_apart y ys hy) (λ z. behind z (cases_lt z (end_of x)) far near) in
    λ i. record { address = from i; bytes = bytes i } ∷ rest i
  where
    behind : (z : ℕ) → (z < end_of x) ⊎ (end_of x ≤ z) → end_of y ≤ end_of x → end_of x ≤ end_of y → all_laid xs z ≡ all_laid ys z
    behind z (inl p) far near =
        none_up_to (end_of x) z xs (later_above x xs hx) (omega arith) ∙ sym (none_up_to (end_of y) z ys (later_above y ys hy) (omega arith))
    behind z (inr p) far near =
        sym (laid_past (all_laid xs) x.address x.bytes z p) ∙ (same z ∙ laid_past (all_laid ys) y.address y.bytes z (omega arith))

pub only_runs : (at : ℕ → Option ℕ) (xs ys : List WrittenRange) → AreRuns at xs → AreRuns at ys → xs ≡ ys
only_runs at xs ys p q =
    same_runs xs ys (record { filled = p.filled; apart = p.apart }) (record { filled = q.filled; apart = q.apart })
    (λ z. ap (λ f. f z) p.exact ∙ sym (ap (λ f. f z) q.exact))

-- what holds where a map has a byte holds at each address of its runs
module _ (Q : ℕ → Type 0) where
  abbrev Holds : WrittenRange → Type 0
  Holds run = (0 < length run.bytes) × ((x : ℕ) → run.address ≤ x → x < end_of run → Q x)

  covered : (runs : List WrittenRange) → Apart runs → ((x byte : ℕ) → all_laid runs x ≡ Some byte → Q x) → All Holds runs
  covered [] apart each = All-nil Holds
  covered (run ∷ runs) apart each =
      All-cons Holds run runs (
        has_bytes run runs apart,
        λ x p q.
            each x (get_or run.bytes (x - run.address) 0) (byte_in run runs x p q ∙ slice_get-get_or run.bytes (x - run.address) 0 (omega arith)),
      )
      (covered runs (rest_apart run runs apart) (λ x byte is. by_end x byte is (cases_lt (end_of run) x)))
    where
      by_end : (x byte : ℕ) → all_laid runs x ≡ Some byte → (end_of run < x) ⊎ (x ≤ end_of run) → Q x
      by_end x byte is (inl p) = each x byte (laid_past (all_laid runs) run.address run.bytes x (omega arith) ∙ is)
      by_end x byte is (inr p) = absurd (none-some byte (sym (none_up_to (end_of run) x runs (later_above run runs apart) p) ∙ is))

  pub each_covered : (at : ℕ → Option ℕ) (runs : List WrittenRange) → AreRuns at runs → ((x byte : ℕ) → at x ≡ Some byte → Q x) → All Holds runs
  each_covered at runs are each =
      covered runs (record { filled = are.filled; apart = are.apart }) (λ x byte is. each x byte (sym (ap (λ f. f x) are.exact) ∙ is))
