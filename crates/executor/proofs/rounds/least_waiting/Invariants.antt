use Rattle.std.proofs.Common.{◌≡◌, ◌+◌}
use Rattle.std.specs.Prelude.{drop, map}
use Rattle.executor.specs.Group.{least_waiting}
use Rattle.executor.specs.inner.Stops.{after, standing}
use Rattle.executor.proofs.rounds.least_waiting.Given as goal

abbrev pub invariant-items : goal.invariant-items
invariant-items l = least_waiting 0 (after l.ended (map standing l.stopped)) ≡ least_waiting (l.ended + l.index) (map standing (drop l.index l.stopped))
