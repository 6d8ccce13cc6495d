-- The numbers of a location in a row (own).
use Rattle.std.specs.Prelude.{ℕ, ◌+◌, List, slice_index}
use Rattle.executor.specs.declared.location.Extent.{Extent}
use Rattle.executor.specs.declared.location.Location.{Location}
use Rattle.kernel_check.specs.declared.step.Dimension.{Dimension}
use Rattle.kernel_check.specs.declared.step.Dimension.TheVariants.{X, Y, Z}

abbrev pub extent_at : List ℕ → ℕ → Extent
extent_at row n = record { x = slice_index row n; y = slice_index row (n + 1); z = slice_index row (n + 2) }

abbrev pub located : List ℕ → Location
located row = record {
  item = extent_at row 0;
  group = extent_at row 3;
  group_size = extent_at row 6;
  current_size = extent_at row 9;
  grid_size = extent_at row 12;
}

abbrev pub number_of : Dimension → ℕ
number_of X = 0
number_of Y = 1
number_of Z = 2
