use Rattle.std.proofs.Common.{sym, ◌∙◌, arith}
use Rattle.session.specs.Lines.{is_blank}
use Rattle.session.proofs.Walks.{before_here, before_more, before_all}
use Rattle.session.proofs.lines.before_blank.Goals as goal

pub returns-then-is_blank-clause-value : goal.returns-then-is_blank-clause-value
returns-then-is_blank-clause-value c =
    sym (before_here is_blank c.args.bytes.now c.loop-index.index (omega arith) (sym c.is_blank.ensures ∙ c.if-is_blank.true) c.loop-index.invariant)

pub loop-index-preserved : goal.loop-index-preserved
loop-index-preserved c = before_more is_blank c.args.bytes.now c.loop-index.index (omega arith) (sym c.is_blank.ensures ∙ c.if-is_blank.false) c.loop-index.invariant

pub returns-clause-value : goal.returns-clause-value
returns-clause-value c = sym (before_all is_blank c.args.bytes.now c.loop-index.index (omega arith) (omega arith) c.loop-index.invariant)
