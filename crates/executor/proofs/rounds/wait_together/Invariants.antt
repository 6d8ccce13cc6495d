use Rattle.std.proofs.Common.{◌≡◌}
use Rattle.std.specs.List.{list_all}
use Rattle.std.specs.Prelude.{drop, map}
use Rattle.executor.specs.Group.{waits_before}
use Rattle.executor.specs.inner.Stops.{standing}
use Rattle.executor.proofs.rounds.wait_together.Given as goal

abbrev pub invariant-items : goal.invariant-items
invariant-items l =
    (l.ended ≡ 0) × (list_all (waits_before l.next) (map standing l.stopped) ≡ list_all (waits_before l.next) (map standing (drop l.item-index l.stopped)))
