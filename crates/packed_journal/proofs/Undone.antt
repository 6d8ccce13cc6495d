-- Two parts are added, or what was there stays.
use Rattle.std.proofs.Common.{◌≡◌, ℕ, List, [], ◌++◌, length, take, sym, ap, ◌∙◌, append_assoc, append-nil}
use Rattle.std.specs.Prelude.{Result, Ok, Err, is_ok, if◌then◌else◌}
use Rattle.std.proofs.lemmas.List.{take_at}
use Rattle.packed_journal.specs.Words.{appended}

pub undone_all : {A B : Type 0} (made result : Result A B) (old first second mid last new : List ℕ) (before : ℕ) → length old ≡ before → mid ≡ old ++ first →
    last ≡ appended made mid second → new ≡ (if is_ok result then last else take before last) → result ≡ made → new ≡ appended result old (first ++ second)
undone_all {A = A} {B = B} made result old first second mid last new before b m l n e =
    n ∙ ap (λ r. if is_ok r then last else take before last) e ∙ by_made made l ∙ ap (λ r. appended r old (first ++ second)) (sym e)
  where
    by_made : (made : Result A B) → last ≡ appended made mid second → (if is_ok made then last else take before last) ≡ appended made old (first ++ second)
    by_made (Ok x) l = l ∙ ap (λ front. front ++ second) m ∙ append_assoc old first second
    by_made (Err x) l = ap (take before) l ∙ ap (take before) m ∙ take_at old first before b

-- three parts, as the bytes of words
pub joined_is : (one other last : List ℕ) → (one ++ other) ++ last ≡ one ++ (other ++ (last ++ []))
joined_is one other last = append_assoc one other last ∙ ap (λ all. one ++ (other ++ all)) (sym (append-nil last))
