-- The rows of a policy, one by one.
use Rattle.std.proofs.Common.{◌≡◌, ℕ, zero, suc, ◌+◌, ◌<◌, List, [], ◌∷◌, ◌++◌, length, sym, ◌∙◌, ap, Some, None, arith, add-one, map, take, slice_get}
use Rattle.std.proofs.Common.{option_map}
use Rattle.access_core.proofs.Terms.{Name, numbered-next, row_of}

-- what the next row holds follows what the rows before hold
next-at : {X : Type 0} (rows : List (Name × X)) (i : ℕ) (x : X) → option_map (λ (row : Name × X). row.1) (slice_get rows i) ≡ Some x
    → map (λ (row : Name × X). row.1) (take i rows) ++ x ∷ [] ≡ map (λ (row : Name × X). row.1) (take (suc i) rows)
next-at [] i x found = cc
next-at (r ∷ rows) zero x found = let same : r.1 ≡ x = cc in ap (λ y. y ∷ []) (sym same)
next-at (r ∷ rows) (suc i) x found = ap (λ xs. r.1 ∷ xs) (next-at rows i x found)

pub rows-next : {X : Type 0} (rows : List (Name × X)) (i : ℕ) (x : X) → row_of rows (i + 1) ≡ Some x
    → map (λ (row : Name × X). row.1) (take i rows) ++ x ∷ [] ≡ map (λ (row : Name × X). row.1) (take (i + 1) rows)
rows-next rows i x found = rw add-one (next-at rows i x (sym (ap (option_map (λ row. row.1)) (numbered-next rows i)) ∙ found))

-- there is a next row
none-at : {X : Type 0} (rows : List (Name × X)) (i : ℕ) → option_map (λ (row : Name × X). row.1) (slice_get rows i) ≡ None → i < length rows → ⊥
none-at [] i found below = omega (arith, below)
none-at (r ∷ rows) zero found below = cc
none-at (r ∷ rows) (suc i) found below = none-at rows i found (omega (arith, below))

pub rows_none : {X : Type 0} (rows : List (Name × X)) (i : ℕ) → row_of rows (i + 1) ≡ None → i < length rows → ⊥
rows_none rows i found = none-at rows i (sym (ap (option_map (λ row. row.1)) (numbered-next rows i)) ∙ found)
