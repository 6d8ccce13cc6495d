-- Lists that are changed at their end, or by a filter; tests that hold together.
use Rattle.std.proofs.Common.{◌≡◌, ℕ, ◌==◌, Bool, true, false, ◌&&◌, not, List, [], ◌∷◌, ◌++◌, filter, refl, arith, ap, sym, ◌∙◌}

pub first_true : (a b : Bool) → (a && b) ≡ true → a ≡ true
first_true true b holds = refl
first_true false b holds = holds

pub second_true : (a b : Bool) → (a && b) ≡ true → b ≡ true
second_true true b holds = holds
second_true false true holds = refl
second_true false false holds = holds

pub not_true : (a : Bool) → not a ≡ true → a ≡ false
not_true true holds = sym holds
not_true false holds = refl

pub filter_other : {X : Type 0} (keep : X → Bool) (xs : List X) (more : X) → keep more ≡ false → filter keep (xs ++ more ∷ []) ≡ filter keep xs
filter_other keep [] more other = grind arith
filter_other keep (x ∷ xs) more other = grind (arith, filter_other keep xs more other)

pub filter_within : {X : Type 0} (keep stays : X → Bool) → ((x : X) → keep x ≡ true → stays x ≡ true) → (xs : List X) → filter keep (filter stays xs) ≡ filter keep xs
filter_within keep stays within [] = refl
filter_within keep stays within (x ∷ xs) = grind (arith, within x, filter_within keep stays within xs)
