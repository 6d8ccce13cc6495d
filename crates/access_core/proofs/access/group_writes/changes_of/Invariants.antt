-- the runs so far are changes
use Rattle.std.proofs.Common.{◌≡◌, map}
use Rattle.core_model.specs.Work.{write_of_run}
use Rattle.access_core.proofs.access.group_writes.changes_of.Given as goal

abbrev pub invariant-loop-run : goal.invariant-loop-run
invariant-loop-run l = l.changes.items ≡ map write_of_run l.yielded
