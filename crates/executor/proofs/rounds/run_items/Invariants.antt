use Rattle.std.proofs.Common.{◌≡◌, ◌+◌, length}
use Rattle.std.specs.Prelude.{map}
use Rattle.executor.specs.Group.{running, beginning, Leads}
use Rattle.executor.specs.inner.Held.{contents, surroundings}
use Rattle.executor.specs.inner.Stops.{after, standing}
use Rattle.executor.proofs.TurnLemmas.{left}
use Rattle.executor.proofs.rounds.run_items.Given as goal

abbrev pub invariant-rounds : goal.invariant-rounds
invariant-rounds l =
    (l.ended + length l.stopped.items ≡ l.count) × Leads (surroundings l.context) l.program (beginning l.count (contents l.fn.memory))
    (running (after l.ended (map standing l.stopped.items)) (contents l.memory))

abbrev pub decreases-rounds : goal.decreases-rounds
decreases-rounds l = left (after l.ended (map standing l.stopped.items))
