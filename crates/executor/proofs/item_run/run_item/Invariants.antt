use Rattle.std.proofs.Common.{◌≤◌}
use Rattle.executor.specs.Group.{ready}
use Rattle.executor.specs.inner.Few.{RestIsZero, SetFew}
use Rattle.executor.specs.inner.Held.{contents, surroundings}
use Rattle.executor.specs.inner.Stops.{executed_by}
use Rattle.executor.proofs.ItemLemmas.{Reached}
use Rattle.executor.proofs.item_run.run_item.Given as goal

abbrev pub invariant-turns : goal.invariant-turns
invariant-turns l =
    (l.left ≤ 65536)
    × (Reached (surroundings l.context) l.program l.number (ready l.fn.stopped.item (executed_by l.fn.stopped)) (contents l.fn.memory)
    (record { registers = l.stopped.item.registers; next = l.next }) l.left (contents l.memory)
    × (SetFew l.program.steps → RestIsZero l.fn.stopped.item.registers → RestIsZero l.stopped.item.registers))

abbrev pub decreases-turns : goal.decreases-turns
decreases-turns l = l.left
