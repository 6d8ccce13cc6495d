use Rattle.std.proofs.Common.{◌≡◌, true}
use Rattle.executor.specs.Group.{context_of_item}
use Rattle.executor.specs.inner.Few.{RestIsZero}
use Rattle.executor.specs.inner.Held.{contents, surroundings}
use Rattle.executor.proofs.RoundLemmas.{HaveRun}
use Rattle.executor.proofs.rounds.run_to_first_barrier.Given as goal

abbrev pub invariant-items : goal.invariant-items
invariant-items l =
    HaveRun (surroundings l.context) l.program l.count (contents l.fn.memory) l.number l.stopped.items (contents l.memory)
    × ((surroundings l.own ≡ context_of_item (surroundings l.context) l.number) × (l.few ≡ true → RestIsZero l.item.item.registers))
