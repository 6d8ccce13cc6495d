use Rattle.std.proofs.Common.{sym, ◌∙◌, arith}
use Rattle.session.proofs.Walks.{limits_more, limits_all}
use Rattle.session.proofs.who.limits_of.Goals as goal

pub loop-entry-preserved : goal.loop-entry-preserved
loop-entry-preserved c =
    c.loop-entry.invariant ∙ limits_more c.loop-entry.limits c.with_entry-limits.result c.args.entries.now c.loop-entry.entry-index _ (omega arith) c.with_entry-limits.ensures

pub returns : goal.returns
returns c = sym (c.loop-entry.invariant ∙ limits_all c.loop-entry.limits c.args.entries.now c.loop-entry.entry-index (omega arith))
