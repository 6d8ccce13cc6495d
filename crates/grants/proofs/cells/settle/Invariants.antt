-- In the cells so far just what is allowed is left, and no count has changed.
use Rattle.std.proofs.Common.{◌≡◌, ℕ, not, ◌&&◌, ◌||◌, length}
use Rattle.grants.proofs.Terms.{Right, boxed_slice_items, count_in, has_right, nat_lt, slice_get}
use Rattle.grants.specs.inner.Weighing.{has_at}
use Rattle.grants.proofs.cells.settle.Given as goal

abbrev pub invariant-loop-place : goal.invariant-loop-place
invariant-loop-place l = record {
  rights : (place : ℕ) (right : Right) → has_right right (slice_get (boxed_slice_items l.cells) place)
      ≡ (has_right right (slice_get (boxed_slice_items l.fn.cells) place) && (not (nat_lt place l.place) || has_at right (slice_get l.allowed place)));
  held : (place : ℕ) (right : Right) → count_in right (slice_get (boxed_slice_items l.cells) place) ≡ count_in right (slice_get (boxed_slice_items l.fn.cells) place);
  len : length (boxed_slice_items l.cells) ≡ length (boxed_slice_items l.fn.cells);
}
