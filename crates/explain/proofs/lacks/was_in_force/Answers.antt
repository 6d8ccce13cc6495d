use Rattle.std.proofs.Common.{arith}
use Rattle.core_model.specs.Grants.{in_force_after}
use Rattle.explain.proofs.Folding.{fold-next}
use Rattle.explain.proofs.lacks.was_in_force.Goals as goal

pub entries-preserved : goal.entries-preserved
entries-preserved c =
    fold-next (λ before entry. in_force_after c.args.client c.args.object c.args.right before entry.event) c.args.entries.now c.entries.entry-index
    c.entry-item.result c.entries.held _ _ (omega arith) c.entry-item.is c.in_force_after-held.ensures c.entries.invariant
