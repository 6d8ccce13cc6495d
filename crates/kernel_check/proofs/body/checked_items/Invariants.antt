use Rattle.std.proofs.Common.{◌≡◌, ◌≤◌, ◌++◌, drop, length}
use Rattle.std.specs.List.{All}
use Rattle.kernel_check.specs.Checks.{before, behind_all, first_before, item_checks, steps_from}
use Rattle.kernel_check.specs.Faults.{first_fault}
use Rattle.kernel_check.specs.Names.{find}
use Rattle.kernel_check.specs.Programs.{HasItsClasses}
use Rattle.kernel_check.proofs.body.checked_items.Given as goal

abbrev pub invariant-items : goal.invariant-items
invariant-items l = record {
  faults : first_fault (item_checks (find l.labels) (before l.variables l.group_end l.known (length l.steps.items)) (drop l.item-index l.items))
      ≡ first_fault (item_checks (find l.labels) (first_before l.initial.variables) l.items);
  steps : l.steps.items ++ steps_from (find l.labels) (before l.variables l.group_end l.known (length l.steps.items)) (drop l.item-index l.items)
      ≡ steps_from (find l.labels) (first_before l.initial.variables) l.items;
  last : behind_all (before l.variables l.group_end l.known (length l.steps.items)) (drop l.item-index l.items)
      ≡ behind_all (first_before l.initial.variables) l.items;
  classes : All (λ s. HasItsClasses s.step) l.steps.items;
  room : length l.steps.items ≤ 4096;
  bound : l.group_end ≤ 65536;
}
