-- The next change lies where it did before, and is laid over the others.
use Rattle.std.proofs.Common.{List, subst}
use Rattle.access_core.proofs.Terms.{Effect, IsChanged, take_all}
use Rattle.access_core.proofs.access.group_writes.lay_changes.Goals as goal

pub returns-clause-changed : goal.returns-clause-changed
returns-clause-changed c =
    subst (λ (xs : List Effect). IsChanged c.args.memory.now xs c.loop-change.memory)
    (take_all c.loop-change.change-index c.args.changes.now c.loop-change-test.false) c.loop-change.invariant.0
