-- The lanes are those behind the entries.
use Rattle.std.proofs.Common.{sym, ◌∙◌, arith}
use Rattle.picture.proofs.Walks.{lanes_step, lanes_end}
use Rattle.picture.proofs.lanes.pass_entries.Goals as goal

pub entries-preserved : goal.entries-preserved
entries-preserved c =
    rw (c.in_ok-pass_seats.ensures, c.in_ok-pass_lanes.ensures, c.as_slice-in-entries.ensures.value)
    (c.entries.invariant ∙ lanes_step c.args.skipped c.entries.lanes c.entries.index c.entries.seats.items c.args.entries.now
    c.index-entries-index.result (omega arith) c.index-entries-index.is)

pub returns : goal.returns
returns c = sym (c.entries.invariant ∙ lanes_end c.args.skipped c.entries.lanes c.entries.index c.entries.seats.items c.args.entries.now (omega arith))
