use Rattle.std.proofs.Common.{sym, ap, ◌∙◌, arith}
use Rattle.policy.proofs.CoverLemmas.{covered_more, covered_same}
use Rattle.policy.proofs.coverage.covered.Goals as goal
use Rattle.policy.proofs.coverage.covered.Goals.{then-covers, else-covers}

pub loop-row-preserved : goal.loop-row-preserved
loop-row-preserved c = λ right.
    elim c.if-covers.branch [
      | then-covers w ↦ covered_more c.args.client c.args.object right c.args.rows.now c.loop-row.row-index _ (omega arith) c.loop-row.covered c.if-covers.covered (c.loop-row.invariant right) (sym c.covers.ensures ∙ w.if-covers.true) (ap (λ r. r.0) w.covered-is ∙ w.insert.ensures tt)
      | else-covers w ↦ covered_same c.args.client c.args.object right c.args.rows.now c.loop-row.row-index _ (omega arith) c.loop-row.covered c.if-covers.covered (c.loop-row.invariant right) (sym c.covers.ensures ∙ w.if-covers.false) w.covered-is
    ]
