use Rattle.std.proofs.Common.{sym, ◌∙◌, arith}
use Rattle.words.proofs.Parting.{items_split, items_more, items_all}
use Rattle.words.proofs.items.split_item.Goals as goal

pub returns-then-byte-eq44-clause-items : goal.returns-then-byte-eq44-clause-items
returns-then-byte-eq44-clause-items c =
    items_split c.args.word.now c.loop-index.index c.split_at.result.0.now c.split_at.result.1.now c.split_at-then-byte-eq44.result.1.now
    (omega arith) c.if-byte-eq44.true (sym c.loop-index.invariant) c.split_at.ensures.front c.split_at.ensures.back c.split_at-then-byte-eq44.ensures.back

pub loop-index-preserved : goal.loop-index-preserved
loop-index-preserved c = items_more c.args.word.now c.loop-index.index (omega arith) c.if-byte-eq44.false ∙ c.loop-index.invariant

pub returns-clause-items : goal.returns-clause-items
returns-clause-items c = sym c.loop-index.invariant ∙ items_all c.args.word.now c.loop-index.index (omega arith)
