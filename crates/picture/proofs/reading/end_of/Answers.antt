-- The first entry that releases the packet ends it.
use Rattle.std.proofs.Common.{◌+◌, sym, ◌∙◌, arith}
use Rattle.picture.proofs.Walks.{end_here, end_later, end_at_end}
use Rattle.picture.proofs.reading.end_of.Goals as goal

pub returns-then-releases : goal.returns-then-releases
returns-then-releases c =
    rw c.ending_of.ensures (sym (c.entries.invariant ∙ end_here c.args.queue c.args.packet (c.args.at + c.entries.index) c.entries.index c.args.after.now
    c.index-after-index.result (omega arith) c.index-after-index.is (sym c.releases.ensures ∙ c.if-releases.true)))

pub entries-preserved : goal.entries-preserved
entries-preserved c =
    c.entries.invariant ∙ end_later c.args.queue c.args.packet (c.args.at + c.entries.index) c.entries.index (c.args.at + (c.entries.index + 1))
    c.args.after.now c.index-after-index.result (omega arith) c.index-after-index.is (sym c.releases.ensures ∙ c.if-releases.false) (omega arith)

pub returns : goal.returns
returns c =
    sym (c.entries.invariant ∙ end_at_end c.args.queue c.args.packet (c.args.at + c.entries.index) c.entries.index _ c.args.after.now
    (omega arith) (omega arith))
