-- The places of the clients so far have what the rows allow there.
use Rattle.std.proofs.Common.{◌≡◌, ◌+◌, ◌*◌, length}
use Rattle.grants.proofs.Terms.{boxed_slice_items, object_count}
use Rattle.grants.specs.inner.Weighing.{IsFilled}
use Rattle.grants.proofs.weighing.fill_table.Given as goal

abbrev pub invariant-loop-before : goal.invariant-loop-before
invariant-loop-before l = record {
  filled : IsFilled l.rules l.rows (l.before * object_count l.rules) (boxed_slice_items l.allowed);
  table : length (boxed_slice_items l.allowed) ≡ l.rules.clients * object_count l.rules;
  granted : length (boxed_slice_items l.granted) ≡ object_count l.rules + 4;
  denied : length (boxed_slice_items l.denied) ≡ object_count l.rules + 4;
}
