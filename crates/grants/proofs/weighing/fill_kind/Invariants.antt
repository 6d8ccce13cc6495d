-- The places before, and those so far of the client's objects of the kind, have what the rows allow there.
use Rattle.std.proofs.Common.{◌≡◌, ◌+◌, ◌*◌, length}
use Rattle.policy.specs.declared.rows.PolicyRows.{PolicyRows}
use Rattle.grants.specs.Cells.{objects_before}
use Rattle.grants.proofs.Terms.{boxed_slice_items, object_count}
use Rattle.grants.specs.inner.Weighing.{IsFilled, IsLine}
use Rattle.grants.proofs.weighing.fill_kind.Given as goal

abbrev pub invariant-loop-index : goal.invariant-loop-index
invariant-loop-index l = record {
  filled : (rows : PolicyRows) → IsLine l.rules (record { 0 = l.before + 1 }) rows.allows l.granted → IsLine l.rules (record { 0 = l.before + 1 }) rows.denies l.denied
      → IsFilled l.rules rows (l.before * object_count l.rules + objects_before l.rules l.fn.kind) (boxed_slice_items l.fn.allowed)
      → IsFilled l.rules rows (l.before * object_count l.rules + (objects_before l.rules l.fn.kind + l.index)) (boxed_slice_items l.allowed);
  len : length (boxed_slice_items l.allowed) ≡ l.rules.clients * object_count l.rules;
}
