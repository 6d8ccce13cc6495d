use Rattle.std.proofs.Common.{◌-◌, ◌+◌, ap, sym, ◌∙◌, arith}
use Rattle.packed_journal.specs.Readings.{read_list, reads}
use Rattle.packed_journal.specs.Parts.{read_row}
use Rattle.packed_journal.proofs.Times.{times_stop, times_more, times_end}
use Rattle.packed_journal.proofs.reading.read_row_list.Goals as goal

pub returns-in-Err-read_row : goal.returns-in-Err-read_row
returns-in-Err-read_row c =
    times_stop read_row (read_list read_row c.args.bytes.now) c.loop-place.rows (c.in-Ok.read.0 - c.loop-place._place) c.loop-place.left.now c.in-Err-read_row.why
    c.loop-place.invariant (omega arith) (sym c.read_row.ensures ∙ ap reads c.in-Err-read_row.is)

pub loop-place-preserved : goal.loop-place-preserved
loop-place-preserved c =
    times_more read_row (read_list read_row c.args.bytes.now) c.loop-place.rows c.push.new.self (c.in-Ok.read.0 - c.loop-place._place)
    (c.in-Ok.read.0 - (c.loop-place._place + 1)) c.loop-place.left.now c.in-Ok-read_row.read.1.now c.in-Ok-read_row.read.0
    c.loop-place.invariant (omega arith) (sym c.read_row.ensures ∙ ap reads c.in-Ok-read_row.is) c.in_ok-push.ensures.items

pub returns : goal.returns
returns c =
    times_end read_row (read_list read_row c.args.bytes.now) c.loop-place.rows (c.in-Ok.read.0 - c.loop-place._place) c.loop-place.left.now
    c.loop-place.invariant (omega arith)
