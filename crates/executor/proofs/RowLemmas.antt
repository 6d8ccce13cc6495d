-- Numbers of a location in a row.
use Rattle.std.proofs.Common.{◌≡◌, ℕ, ◌+◌, ◌≤◌, List, [], ◌∷◌, length, slice_index, slice_set, refl, ap, ◌∙◌, arith}
use Rattle.executor.specs.Locations.{along}
use Rattle.executor.specs.inner.Rows.{extent_at, located, number_of}
use Rattle.executor.specs.declared.location.Extent.{Extent}
use Rattle.kernel_check.specs.declared.step.Dimension.{Dimension}
use Rattle.kernel_check.specs.declared.step.Dimension.TheVariants.{X, Y, Z}

-- what stands in a row at a kind and a dimension
pub along_at : (row : List ℕ) (kind : ℕ) (d : Dimension) (n : ℕ) → n ≡ number_of d → slice_index row (kind + n) ≡ along (extent_at row kind) d
along_at row kind d n is = ap (λ k. slice_index row (kind + k)) is ∙ by_dimension d
  where
    none : kind + 0 ≡ kind
    none = omega arith

    by_dimension : (d : Dimension) → slice_index row (kind + number_of d) ≡ along (extent_at row kind) d
    by_dimension X = ap (slice_index row) none
    by_dimension Y = refl
    by_dimension Z = refl

-- of the first kind
pub along_first : (row : List ℕ) (d : Dimension) (n : ℕ) → n ≡ number_of d → slice_index row n ≡ along (extent_at row 0) d
along_first row d n is = let none : n ≡ 0 + n = omega arith in ap (slice_index row) none ∙ along_at row 0 d n is

-- another id in the row
pub moved : (row : List ℕ) (i : Extent) → 3 ≤ length row → located (slice_set (slice_set (slice_set row 0 i.x) 1 i.y) 2 i.z) ≡ record (located row) { item = i }
moved [] i long = absurd (omega arith)
moved (a ∷ []) i long = absurd (omega arith)
moved (a ∷ b ∷ []) i long = absurd (omega arith)
moved (a ∷ b ∷ c ∷ rest) i long = refl
