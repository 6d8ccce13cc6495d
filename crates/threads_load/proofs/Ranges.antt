-- What a run over numbers in order comes to with one number more.
use Rattle.std.proofs.Common.{◌≡◌, ℕ, zero, suc, ◌+◌, ◌<◌, Bool, true, false, List, [], ◌∷◌, ◌++◌, map, ap, sym, ◌∙◌, refl, arith, append_assoc, append-nil}
use Rattle.std.specs.Prelude.{flat_map, Option, Some, None, cond, ◌&&◌}
use Rattle.std.specs.List.{find, list_all, range_with_len}
use Rattle.std.proofs.lemmas.Grind.{flat_map-append}
use Rattle.std.proofs.lemmas.List.Folds.{list_all-append}

range_next : (a n k : ℕ) → k ≡ a + n → range_with_len a (suc n) ≡ range_with_len a n ++ k ∷ []
range_next a zero k e = let h : a ≡ k = omega (arith, e) in ap (λ x. x ∷ []) h
range_next a (suc n) k e = ap (λ xs. a ∷ xs) (range_next (a + 1) n k (omega (arith, e)))

range_more : (a n k : ℕ) → k ≡ a + n → range_with_len a (n + 1) ≡ range_with_len a n ++ k ∷ []
range_more a n k e = let on : n + 1 ≡ suc n = omega arith in ap (range_with_len a) on ∙ range_next a n k e

module _ {X : Type 0} (f : ℕ → List X) where
  gathered_one : (a n k : ℕ) → k ≡ a + n → flat_map f (range_with_len a (n + 1)) ≡ flat_map f (range_with_len a n) ++ f k
  gathered_one a n k e =
      ap (flat_map f) (range_more a n k e) ∙ flat_map-append f (range_with_len a n) (k ∷ [])
      ∙ ap (λ xs. flat_map f (range_with_len a n) ++ xs) (append-nil (f k))

  -- what the numbers so far gave stands behind what was first; one number more puts what it gives behind that
  pub gathered_more : (n k : ℕ) (first so_far more : List X) → k ≡ n + 1 → so_far ≡ first ++ flat_map f (range_with_len 1 n) → more ≡ so_far ++ f k
      → more ≡ first ++ flat_map f (range_with_len 1 (n + 1))
  gathered_more n k first so_far more e was is =
      is ∙ ap (λ xs. xs ++ f k) was ∙ append_assoc first (flat_map f (range_with_len 1 n)) (f k)
      ∙ ap (λ xs. first ++ xs) (sym (gathered_one 1 n k (omega (arith, e))))

module _ {X : Type 0} (test : X → Bool) (make : ℕ → X) where
  found_from : (a b n k : ℕ) → k ≡ a + b → b < n → find test (map make (range_with_len a b)) ≡ None → test (make k) ≡ true
      → find test (map make (range_with_len a n)) ≡ Some (make k)
  found_from a b zero k e lt none is = absurd (omega (arith, lt))
  found_from a zero (suc n) k e lt none is = let h : k ≡ a = omega (arith, e) in let at : test (make a) ≡ true = ap (λ x. test (make x)) (sym h) ∙ is in rw at (ap (λ x. Some (make x)) (sym h))
  found_from a (suc b) (suc n) k e lt none is =
      (elim (test (make a)) as (λ t. cond t (Some (make a)) (find test (map make (range_with_len (a + 1) b))) ≡ None → cond t (Some (make a)) (find test (map make (range_with_len (a + 1) n))) ≡ Some (make k))
      [ true ↦ λ h. absurd cc | false ↦ λ h. found_from (a + 1) b n k (omega (arith, e)) (omega (arith, lt)) h is ]) none

  -- the number behind those that don't pass is the first that does
  pub found_at : (b n k : ℕ) → k ≡ b + 1 → b < n → find test (map make (range_with_len 1 b)) ≡ None → test (make k) ≡ true
      → find test (map make (range_with_len 1 n)) ≡ Some (make k)
  found_at b n k e lt none is = found_from 1 b n k (omega (arith, e)) lt none is

  missed_from : (a b k : ℕ) → k ≡ a + b → find test (map make (range_with_len a b)) ≡ None → test (make k) ≡ false → find test (map make (range_with_len a (suc b))) ≡ None
  missed_from a zero k e none is = let h : k ≡ a = omega (arith, e) in let at : test (make a) ≡ false = ap (λ x. test (make x)) (sym h) ∙ is in rw at refl
  missed_from a (suc b) k e none is =
      (elim (test (make a)) as (λ t. cond t (Some (make a)) (find test (map make (range_with_len (a + 1) b))) ≡ None → cond t (Some (make a)) (find test (map make (range_with_len (a + 1) (suc b)))) ≡ None)
      [ true ↦ λ h. absurd cc | false ↦ λ h. missed_from (a + 1) b k (omega (arith, e)) h is ]) none

  -- nor does it pass
  pub missed_at : (b k : ℕ) → k ≡ b + 1 → find test (map make (range_with_len 1 b)) ≡ None → test (make k) ≡ false → find test (map make (range_with_len 1 (b + 1))) ≡ None
  missed_at b k e none is = let on : b + 1 ≡ suc b = omega arith in ap (λ n. find test (map make (range_with_len 1 n))) on ∙ missed_from 1 b k (omega (arith, e)) none is

and_true : (b : Bool) → (b && true) ≡ b
and_true true = refl
and_true false = refl

module _ (test : ℕ → Bool) where
  -- what all numbers so far pass, and the next one too
  pub all_more : (n k : ℕ) (so_far : Bool) → k ≡ n + 1 → so_far ≡ list_all test (range_with_len 1 n) → (so_far && test k) ≡ list_all test (range_with_len 1 (n + 1))
  all_more n k so_far e is =
      ap (λ b. b && test k) is ∙ ap (λ b. list_all test (range_with_len 1 n) && b) (sym (and_true (test k)))
      ∙ sym (list_all-append test (range_with_len 1 n) (k ∷ [])) ∙ ap (list_all test) (sym (range_more 1 n k (omega (arith, e))))
