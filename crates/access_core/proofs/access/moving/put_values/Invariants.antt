-- Signals have the values that the changes so far gave them.
use Rattle.std.proofs.Common.{◌≡◌, fold, take}
use Rattle.core_model.specs.Memory.{signals_after}
use Rattle.access_core.proofs.access.moving.put_values.Given as goal

abbrev pub invariant-loop-change : goal.invariant-loop-change
invariant-loop-change l = l.signals ≡ fold signals_after l.initial.signals (take l.change-index l.changes)
