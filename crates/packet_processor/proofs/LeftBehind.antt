-- A list behind the items in front that were left behind: what is found, changed and taken out there, and how it moves to the front.
use Rattle.std.proofs.Common.{◌≡◌, ℕ, zero, suc, ◌+◌, ◌-◌, ◌≤◌, ◌++◌, List, [], ◌∷◌, drop, take, length, get_or, refl, ap, ◌∙◌, sym, arith}
use Rattle.std.specs.Prelude.{slice_get, slice_set}
use Rattle.std.specs.List.{remove}
use Rattle.std.specs.List.{copy_within}
use Rattle.std.proofs.lemmas.List.{length-drop, take-append-le, take_all}

later : (d i : ℕ) → suc d + i ≡ suc (d + i)
later d i = omega arith

pub got-behind : {X : Type 0} (d : ℕ) (xs : List X) (i : ℕ) → slice_get (drop d xs) i ≡ slice_get xs (d + i)
got-behind zero xs i = ap (slice_get xs) (omega arith)
got-behind (suc d) [] i = grind arith
got-behind (suc d) (x ∷ xs) i = got-behind d xs i ∙ ap (slice_get (x ∷ xs)) (sym (later d i))

pub got_or-behind : {X : Type 0} (d : ℕ) (xs : List X) (i : ℕ) (else_is : X) → get_or (drop d xs) i else_is ≡ get_or xs (d + i) else_is
got_or-behind zero xs i else_is = ap (λ n. get_or xs n else_is) (omega arith)
got_or-behind (suc d) [] i else_is = grind arith
got_or-behind (suc d) (x ∷ xs) i else_is = got_or-behind d xs i else_is ∙ ap (λ n. get_or (x ∷ xs) n else_is) (sym (later d i))

pub set-long : {X : Type 0} (xs : List X) (i : ℕ) (one : X) → length (slice_set xs i one) ≡ length xs
set-long [] i one = grind arith
set-long (x ∷ xs) zero one = refl
set-long (x ∷ xs) (suc i) one = ap suc (set-long xs i one)

removed-none : {X : Type 0} (i : ℕ) → remove {X = X} [] i ≡ []
removed-none zero = refl
removed-none (suc i) = refl

pub removed-behind : {X : Type 0} (d : ℕ) (xs : List X) (i : ℕ) → drop d (remove xs (d + i)) ≡ remove (drop d xs) i
removed-behind zero xs i = ap (remove xs) (omega arith)
removed-behind (suc d) [] i = ap (drop (suc d)) (removed-none (suc d + i)) ∙ sym (removed-none i)
removed-behind (suc d) (x ∷ xs) i = ap (λ n. drop (suc d) (remove (x ∷ xs) n)) (later d i) ∙ removed-behind d xs i

pub set-behind : {X : Type 0} (d : ℕ) (xs : List X) (i : ℕ) (one : X) → drop d (slice_set xs (d + i) one) ≡ slice_set (drop d xs) i one
set-behind zero xs i one = ap (λ n. slice_set xs n one) (omega arith)
set-behind (suc d) [] i one = grind arith
set-behind (suc d) (x ∷ xs) i one = ap (λ n. drop (suc d) (slice_set (x ∷ xs) n one)) (later d i) ∙ set-behind d xs i one

-- without its first item there is one more in front that was left behind
pub first-behind : {X : Type 0} (d : ℕ) (xs : List X) → drop (d + 1) xs ≡ remove (drop d xs) 0
first-behind zero [] = refl
first-behind zero (x ∷ xs) = refl
first-behind (suc d) [] = grind arith
first-behind (suc d) (x ∷ xs) = ap (λ n. drop n (x ∷ xs)) (later d 1) ∙ first-behind d xs

-- what lies behind is copied to the front, and the rest cut off
pub moved-up : {X : Type 0} (d count : ℕ) (xs : List X) → count ≡ length xs → d ≤ count → take (count - d) (copy_within xs d count 0) ≡ drop d xs
moved-up d count xs is within =
    let long : length (drop d xs) ≡ count - d = length-drop d xs ∙ ap (λ n. n - d) (sym is) in
    let whole : take (count - d) (drop d xs) ≡ drop d xs = take_all (count - d) (drop d xs) (omega (arith, long)) in
    ap (λ ys. take (count - d) (ys ++ drop (0 + (count - d)) xs)) whole
    ∙ take-append-le (count - d) (drop d xs) (drop (0 + (count - d)) xs) (omega (arith, long))
    ∙ whole
