use Rattle.std.proofs.Common.{◌≡◌}
use Rattle.executor.specs.Group.{context_of_item}
use Rattle.executor.specs.inner.Held.{contents, surroundings}
use Rattle.executor.proofs.RoundLemmas.{HaveGoneOn}
use Rattle.executor.proofs.rounds.run_past_barrier.Given as goal

abbrev pub invariant-items : goal.invariant-items
invariant-items l =
    HaveGoneOn (surroundings l.context) l.program l.fn.stopped (contents l.fn.memory) l.number l.stopped (contents l.memory)
    × (surroundings l.own ≡ context_of_item (surroundings l.context) l.number)
