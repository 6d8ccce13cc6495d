-- Each entry is written in turn.
use Rattle.std.proofs.Common.{arith}
use Rattle.picture.proofs.Walks.{drawn_step, drawn_all}
use Rattle.picture.proofs.page.write_entries.Goals as goal

pub drawn-preserved : goal.drawn-preserved
drawn-preserved c =
    drawn_step c.args.frame.now c.args.policy.now c.drawn.seats.items c.drawn.zeros.items c.drawn.index c.args.entries.now c.index-entries-index.result _
    (omega arith) c.index-entries-index.is (rw (c.as_slice.ensures.value, c.as_slice-in-drawn.ensures.value) at c.in_ok-write_entry.ensures)
    c.in_ok-pass_entry.ensures.zeros c.in_ok-pass_entry.ensures.seats c.drawn.invariant

pub returns : goal.returns
returns c =
    drawn_all c.args.frame.now c.args.policy.now c.drawn.seats.items c.drawn.zeros.items c.drawn.index c.args.entries.now (omega arith) c.drawn.invariant
