-- Lists that are gone through item by item.
use Rattle.std.proofs.Common.{◌≡◌, ℕ, zero, suc, ◌+◌, ◌<◌, List, [], ◌∷◌, length, get_or, drop, map, find, refl, ap, ◌∙◌, Bool, true, false, Some, if◌then◌else◌, arith}
use Rattle.std.specs.Prelude.{◌||◌}
use Rattle.std.specs.List.{list_any}

-- a test of what the items give
pub any-map : {X Y : Type 0} (test : Y → Bool) (g : X → Y) (xs : List X) → list_any test (map g xs) ≡ list_any (λ x. test (g x)) xs
any-map test g [] = refl
any-map test g (x ∷ xs) = ap (λ b. test (g x) || b) (any-map test g xs)

-- ---- the first item that passes a test, from an index on

at-index : {X : Type 0} (xs : List X) (i : ℕ) (d : X) → i < length xs → drop i xs ≡ get_or xs i d ∷ drop (suc i) xs
at-index [] i d within = absurd (omega arith)
at-index (x ∷ xs) zero d within = refl
at-index (x ∷ xs) (suc i) d within = at-index xs i d (omega arith)

first-of : {X : Type 0} (test : X → Bool) (x : X) (xs : List X) (b : Bool) → test x ≡ b → find test (x ∷ xs) ≡ (if b then Some x else find test xs)
first-of test x xs b is = ap (λ c. if c then Some x else find test xs) is

pub found-at : {X : Type 0} (test : X → Bool) (xs : List X) (i : ℕ) (d : X) → i < length xs → test (get_or xs i d) ≡ true → find test (drop i xs) ≡ Some (get_or xs i d)
found-at test xs i d within is = ap (find test) (at-index xs i d within) ∙ first-of test (get_or xs i d) (drop (suc i) xs) true is

pub passed-at : {X : Type 0} (test : X → Bool) (xs : List X) (i : ℕ) (d : X) → i < length xs → test (get_or xs i d) ≡ false → find test (drop i xs) ≡ find test (drop (i + 1) xs)
passed-at test xs i d within is =
    let next : suc i ≡ i + 1 = omega arith in
    ap (find test) (at-index xs i d within) ∙ first-of test (get_or xs i d) (drop (suc i) xs) false is ∙ ap (λ n. find test (drop n xs)) next
