-- The line has what the rows so far cover.
use Rattle.std.proofs.Common.{◌≡◌, ◌+◌, ◌<◌, ℕ, length, take}
use Rattle.grants.proofs.Terms.{Right, boxed_slice_items, list_any, object_count, slice_get}
use Rattle.grants.specs.inner.Weighing.{covers_place, has_at}
use Rattle.grants.proofs.weighing.cover.Given as goal

abbrev pub invariant-loop-row : goal.invariant-loop-row
invariant-loop-row l = record {
  rights : (place : ℕ) (right : Right) → place < object_count l.rules + 4
      → has_at right (slice_get (boxed_slice_items l.line) place) ≡ list_any (covers_place l.rules l.client right place) (take l.row-index l.rows);
  len : length (boxed_slice_items l.line) ≡ object_count l.rules + 4;
}
