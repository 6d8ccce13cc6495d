-- The rows allow all rights of the clients so far.
use Rattle.std.proofs.Common.{◌≡◌, ◌+◌, length}
use Rattle.grants.proofs.Terms.{boxed_slice_items, object_count}
use Rattle.grants.specs.inner.Weighing.{AllowsUpTo}
use Rattle.grants.proofs.weighing.are_cells_allowed.Given as goal

abbrev pub invariant-loop-before : goal.invariant-loop-before
invariant-loop-before l = record {
  allowed : AllowsUpTo l.rules l.rows l.before l.cells;
  granted : length (boxed_slice_items l.granted) ≡ object_count l.rules + 4;
  denied : length (boxed_slice_items l.denied) ≡ object_count l.rules + 4;
}
