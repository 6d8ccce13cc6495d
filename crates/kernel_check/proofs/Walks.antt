-- A walk over a list by index: what is left at an index is the item there and what is left behind it.
use Rattle.std.proofs.Common.{◌≡◌, ℕ, suc, ◌+◌, ◌<◌, Bool, true, false, List, ◌∷◌, length, get_or, drop, drop-cons, position, Some, None, add-one, sym, ap, ◌∙◌, arith}
use Rattle.std.specs.List.{position_or_len}
use Rattle.std.proofs.lemmas.Bool.Decides.{nat_tests}
use Rattle.std.proofs.lemmas.List.Sums.{position_or_len_is}

pub at_index : {X : Type 0} (xs : List X) (i : ℕ) (x : X) → i < length xs → x ≡ get_or xs i x → drop i xs ≡ x ∷ drop (i + 1) xs
at_index xs i x lt is = rw (add-one, drop-cons xs i x) (ap (λ y. y ∷ drop (suc i) xs) (sym is))

-- the place of the first item that passes a test
pub place_found : {X : Type 0} (p : X → Bool) (xs : List X) (i : ℕ) (x : X) → i < length xs → x ≡ get_or xs i x → p x ≡ true
    → ((k : ℕ) (d : X) → k < i → p (get_or xs k d) ≡ false) → position p xs ≡ Some i
place_found p xs i x lt is good before =
    let e : position_or_len p xs ≡ i =
    position_or_len_is p xs i x (omega arith) (λ k h. before k x h) (λ _. ap p (sym is) ∙ good) in
    rw e (grind (arith, nat_tests))

-- none passes
pub place_none : {X : Type 0} (p : X → Bool) (xs : List X) (d : X) → ((k : ℕ) (d : X) → k < length xs → p (get_or xs k d) ≡ false)
    → position p xs ≡ None
place_none p xs d before =
    let e : position_or_len p xs ≡ length xs =
    position_or_len_is p xs (length xs) d (omega arith) (λ k h. before k d h) (λ h. absurd (omega arith)) in
    rw e (grind (arith, nat_tests))
