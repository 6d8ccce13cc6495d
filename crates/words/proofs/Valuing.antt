-- The values of digits, lane by lane.
use Rattle.std.proofs.Common.{◌≡◌, ℕ, ◌+◌, ◌-◌, ◌%◌, ◌^◌, ◌<◌, Bool, true, false, cond, ltb, List, [], ◌∷◌, map, length, replicate, bit_and, min, refl, sym, ap, ◌∙◌, arith, w8, Fits, ltb-true, ltb-false}
use lib.Lanes.{zip2, sel_l, top, Each1}
use Rattle.words.specs.inner.Lanes.{figure_value, lane_value}

-- ---- one lane

abbrev plus : ℕ → ℕ → ℕ
plus a b = (a + b) % 2 ^ 8

abbrev minus : ℕ → ℕ → ℕ
minus a b = (a + (2 ^ 8 - b)) % 2 ^ 8

-- all bits, where the first is the lesser
abbrev below : ℕ → ℕ → ℕ
below a b = cond (ltb a b) 255 0

least_is : (a b : ℕ) → cond (top 7 (below a b)) a b ≡ min a b
least_is a b = by_order (ltb a b) refl
  where
    by_order : (t : Bool) → ltb a b ≡ t → cond (top 7 (cond t 255 0)) a b ≡ min a b
    by_order true e = omega (arith, ltb-true a b e)
    by_order false e = omega (arith, ltb-false a b e)

excess_is : (a b : ℕ) → a < 256 → b < 256 → minus (cond (top 7 (below a b)) b a) b ≡ a - b
excess_is a b less fewer = by_order (ltb a b) refl
  where
    by_order : (t : Bool) → ltb a b ≡ t → minus (cond (top 7 (cond t 255 0)) b a) b ≡ a - b
    by_order true e = omega (arith, ltb-true a b e, less, fewer)
    by_order false e = omega (arith, ltb-false a b e, less, fewer)

-- what a lane is added up to
abbrev figure : ℕ → ℕ
figure x = plus (minus (cond (top 7 (below (plus x 198) 6)) 6 (plus x 198)) 6) 16

abbrev letter : ℕ → ℕ
letter x = plus (cond (top 7 (below (plus (bit_and x 223) 191) 245)) (plus (bit_and x 223) 191) 245) 10

one_value : (x : ℕ) → cond (top 7 (below (figure x) (letter x))) (figure x) (letter x) ≡ lane_value x
one_value x =
    least_is (figure x) (letter x)
    ∙ ap (λ v. min (plus v 16) (letter x)) (excess_is (plus x 198) 6 (omega arith) (omega arith))
    ∙ ap (λ v. min (figure_value x) (plus v 10)) (least_is (plus (bit_and x 223) 191) 245)

-- ---- all lanes

abbrev pub figures : ℕ → List ℕ → List ℕ
figures n xs =
    zip2 plus
    (zip2 minus (sel_l (map (top 7) (zip2 below (zip2 plus xs (replicate n 198)) (replicate n 6))) (replicate n 6) (zip2 plus xs (replicate n 198))) (replicate n 6))
    (replicate n 16)

abbrev pub letters : ℕ → List ℕ → List ℕ
letters n xs =
    zip2 plus
    (sel_l (map (top 7) (zip2 below (zip2 plus (zip2 bit_and xs (replicate n 223)) (replicate n 191)) (replicate n 245)))
    (zip2 plus (zip2 bit_and xs (replicate n 223)) (replicate n 191)) (replicate n 245))
    (replicate n 10)

abbrev pub valued : ℕ → List ℕ → List ℕ
valued n xs = sel_l (map (top 7) (zip2 below (figures n xs) (letters n xs))) (figures n xs) (letters n xs)

values_are : (xs : List ℕ) → valued (length xs) xs ≡ map lane_value xs
values_are [] = refl
values_are (x ∷ xs) = ap (λ v. v ∷ valued (length xs) xs) (one_value x) ∙ ap (λ vs. lane_value x ∷ vs) (values_are xs)

pub sixteen_values : (xs : List ℕ) → length xs ≡ 16 → valued 16 xs ≡ map lane_value xs
sixteen_values xs long = ap (λ n. valued n xs) (sym long) ∙ values_are xs
