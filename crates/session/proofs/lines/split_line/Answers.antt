use Rattle.std.proofs.Common.{sym, ◌∙◌, arith}
use Rattle.session.proofs.Walks.{lines_split, lines_more, lines_all}
use Rattle.session.proofs.lines.split_line.Goals as goal

pub returns-then-byte-eq10-clause-lines : goal.returns-then-byte-eq10-clause-lines
returns-then-byte-eq10-clause-lines c =
    lines_split c.args.text.now c.loop-index.index c.split_at.result.0.now c.split_at.result.1.now c.split_at-then-byte-eq10.result.1.now
    (omega arith) c.if-byte-eq10.true (sym c.loop-index.invariant) c.split_at.ensures.front c.split_at.ensures.back c.split_at-then-byte-eq10.ensures.back

pub loop-index-preserved : goal.loop-index-preserved
loop-index-preserved c = lines_more c.args.text.now c.loop-index.index (omega arith) c.if-byte-eq10.false ∙ c.loop-index.invariant

pub returns-clause-lines : goal.returns-clause-lines
returns-clause-lines c = sym c.loop-index.invariant ∙ lines_all c.args.text.now c.loop-index.index (omega arith)
