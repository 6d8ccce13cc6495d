-- The first entry that closes the queue is its close.
use Rattle.std.proofs.Common.{◌+◌, sym, ◌∙◌, arith}
use Rattle.picture.proofs.Walks.{close_here, close_later, close_at_end}
use Rattle.picture.proofs.reading.close_of.Goals as goal

pub returns-then-closes : goal.returns-then-closes
returns-then-closes c =
    sym (c.entries.invariant ∙ close_here c.args.queue (c.args.at + c.entries.index) c.entries.index
    c.args.after.now c.index-after-index.result (omega arith) c.index-after-index.is (sym c.closes.ensures ∙ c.if-closes.true))

pub entries-preserved : goal.entries-preserved
entries-preserved c =
    c.entries.invariant ∙ close_later c.args.queue (c.args.at + c.entries.index) c.entries.index (c.args.at + (c.entries.index + 1))
    c.args.after.now c.index-after-index.result (omega arith) c.index-after-index.is (sym c.closes.ensures ∙ c.if-closes.false) (omega arith)

pub returns : goal.returns
returns c =
    sym (c.entries.invariant ∙ close_at_end c.args.queue (c.args.at + c.entries.index) c.entries.index _ c.args.after.now
    (omega arith) (omega arith))
