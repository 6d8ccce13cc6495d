-- Items by number, from 1, with one more.
use Rattle.std.proofs.Common.{◌≡◌, ◌≢◌, ℕ, ◌+◌, ◌-◌, ◌<◌, ◌≤◌, List, [], ◌∷◌, ◌++◌, length, refl, sym, ◌∙◌, Bool, true, false, None, arith}
use Rattle.std.specs.Prelude.{nat_lt, slice_get, if◌then◌else◌}
use Rattle.std.proofs.lemmas.Bool.{ltb-true, ltb-false}
use Rattle.std.proofs.lemmas.Option.{slice_get_past}
use Rattle.policy.specs.Policy.{numbered}
use Rattle.executor.proofs.Maps.{get_append_left}

-- one item more has the next number (`numbered-new` of core_model), and the others keep theirs
pub numbered_old : {X : Type 0} (xs : List X) (x : X) (n : ℕ) → n ≢ length xs + 1 → numbered (xs ++ x ∷ []) n ≡ numbered xs n
numbered_old xs x n apart = by_test (nat_lt 0 n) refl
  where
    by_place : (b : Bool) → nat_lt (n - 1) (length xs) ≡ b → 0 < n → slice_get (xs ++ x ∷ []) (n - 1) ≡ slice_get xs (n - 1)
    by_place true is positive = get_append_left xs (x ∷ []) (n - 1) (ltb-true (n - 1) (length xs) is)
    by_place false is positive =
        let past : length xs ≤ n - 1 = ltb-false (n - 1) (length xs) is in
        let longer : length (xs ++ x ∷ []) ≡ length xs + 1 = length_more xs x in
        slice_get_past (xs ++ x ∷ []) (n - 1) (omega arith) ∙ sym (slice_get_past xs (n - 1) past)
      where
        length_more : {X : Type 0} (xs : List X) (x : X) → length (xs ++ x ∷ []) ≡ length xs + 1
        length_more [] x = refl
        length_more (y ∷ xs) x = omega (arith, length_more xs x)

    by_test : (b : Bool) → nat_lt 0 n ≡ b → (if b then slice_get (xs ++ x ∷ []) (n - 1) else None) ≡ (if b then slice_get xs (n - 1) else None)
    by_test true is = by_place (nat_lt (n - 1) (length xs)) refl (ltb-true 0 n is)
    by_test false is = refl
