use Rattle.std.proofs.Common.{◌≡◌, ◌≤◌, ℕ, List, drop}
use Rattle.kernel_check.specs.Names.{find}
use Rattle.kernel_check.specs.inner.Bound.{or_else}
use Rattle.kernel_check.specs.Checks.{labels_from}
use Rattle.kernel_check.proofs.labels.labels.Given as goal

abbrev pub invariant-items : goal.invariant-items
invariant-items l = record {
  known : (q : List ℕ) → or_else (find l.names q) (find (labels_from l.number (drop l.item-index l.items)) q)
      ≡ find (labels_from 0 l.items) q;
  count : l.number ≤ l.item-index;
}
