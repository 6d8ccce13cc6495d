-- What is found in a list.
use Rattle.std.proofs.Common.{◌≡◌, List, [], ◌∷◌, ◌++◌, refl, subst, Bool, true, false, Some, None}
use Rattle.std.specs.Prelude.{All, filter, find, if◌then◌else◌}
use Rattle.std.specs.List.{list_all}
use Rattle.std.proofs.lemmas.Bool.{and_parts}
use Rattle.std.proofs.lemmas.List.Elements.{All-nil, All-cons, All-head, All-tail}

-- what is found is one of the list
pub found-all : {X : Type 0} (P : X → Type 0) (test : X → Bool) (xs : List X) (f : X) → All P xs → find test xs ≡ Some f → P f
found-all P test [] f all found = absurd cc
found-all P test (x ∷ xs) f all found = first (test x) found (found-all P test xs f (All-tail P x xs all))
  where
    first : (b : Bool) → (if b then Some x else find test xs) ≡ Some f → (find test xs ≡ Some f → P f) → P f
    first true same more = let here : x ≡ f = cc in subst P here (All-head P x xs all)
    first false same more = more same

-- what is found passes
pub found-passes : {X : Type 0} (test : X → Bool) (xs : List X) (f : X) → find test xs ≡ Some f → test f ≡ true
found-passes test [] f found = absurd cc
found-passes test (x ∷ xs) f found = first (test x) refl found (found-passes test xs f)
  where
    first : (b : Bool) → test x ≡ b → (if b then Some x else find test xs) ≡ Some f → (find test xs ≡ Some f → test f ≡ true) → test f ≡ true
    first true is same more = let here : x ≡ f = cc in subst (λ y. test y ≡ true) here is
    first false is same more = more same

-- where nothing is found, nothing passes
pub none-passes : {X : Type 0} (test : X → Bool) (xs : List X) → find test xs ≡ None → All (λ x. test x ≡ false) xs
none-passes test [] none = All-nil (λ x. test x ≡ false)
none-passes test (x ∷ xs) none = first (test x) refl none (none-passes test xs)
  where
    first : (b : Bool) → test x ≡ b → (if b then Some x else find test xs) ≡ None → (find test xs ≡ None → All (λ y. test y ≡ false) xs) → All (λ y. test y ≡ false) (x ∷ xs)
    first true is same more = absurd cc
    first false is same more = All-cons (λ y. test y ≡ false) x xs is (more same)

pub all-from_list_all : {X : Type 0} (test : X → Bool) (xs : List X) → list_all test xs ≡ true → All (λ x. test x ≡ true) xs
all-from_list_all test [] all = All-nil (λ x. test x ≡ true)
all-from_list_all test (x ∷ xs) all =
    let both = and_parts (test x) (list_all test xs) all in
    All-cons (λ y. test y ≡ true) x xs both.0 (all-from_list_all test xs both.1)

pub all-one : {X : Type 0} (P : X → Type 0) (x : X) → P x → All P (x ∷ [])
all-one P x is = All-cons P x [] is (All-nil P)

-- what holds of each of two lists together holds of each of the first, and of each of the second
pub all-left : {X : Type 0} (P : X → Type 0) (xs ys : List X) → All P (xs ++ ys) → All P xs
all-left P [] ys all = All-nil P
all-left P (x ∷ xs) ys all = All-cons P x xs (All-head P x (xs ++ ys) all) (all-left P xs ys (All-tail P x (xs ++ ys) all))

pub all-right : {X : Type 0} (P : X → Type 0) (xs ys : List X) → All P (xs ++ ys) → All P ys
all-right P [] ys all = all
all-right P (x ∷ xs) ys all = all-right P xs ys (All-tail P x (xs ++ ys) all)

-- what is left of a list by a test passes it
pub filter-passes : {X : Type 0} (test : X → Bool) (xs : List X) → All (λ x. test x ≡ true) (filter test xs)
filter-passes test [] = All-nil (λ x. test x ≡ true)
filter-passes test (x ∷ xs) = by_test (test x) refl (filter-passes test xs)
  where
    by_test : (b : Bool) → test x ≡ b → All (λ y. test y ≡ true) (filter test xs) → All (λ y. test y ≡ true) (if b then x ∷ filter test xs else filter test xs)
    by_test true is rest = All-cons (λ y. test y ≡ true) x (filter test xs) is rest
    by_test false is rest = rest
