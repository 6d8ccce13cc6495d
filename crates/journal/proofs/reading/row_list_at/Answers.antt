use Rattle.std.proofs.Common.{◌-◌, ◌+◌, ap, sym, ◌∙◌, arith}
use Rattle.journal.specs.Words.{seen, words_behind}
use Rattle.journal.specs.Readings.{list_at, row_at}
use Rattle.journal.proofs.Times.{times_stop, times_more, times_end}
use Rattle.journal.proofs.reading.row_list_at.Goals as goal

pub returns-in_default-row_at : goal.returns-in_default-row_at
returns-in_default-row_at c =
    times_stop row_at (list_at row_at (words_behind c.args.rest)) c.loop-place.rows (c.in-Some.count - c.loop-place._place) (words_behind c.loop-place.left)
    c.loop-place.invariant (omega arith) (sym c.row_at.ensures ∙ ap seen c.in_default-row_at.is)

pub loop-place-preserved : goal.loop-place-preserved
loop-place-preserved c =
    times_more row_at (list_at row_at (words_behind c.args.rest)) c.loop-place.rows c.push.new.self (c.in-Some.count - c.loop-place._place)
    (c.in-Some.count - (c.loop-place._place + 1)) (words_behind c.loop-place.left) (words_behind c.in-Some-row_at.further) c.in-Some-row_at.row
    c.loop-place.invariant (omega arith) (sym c.row_at.ensures ∙ ap seen c.in-Some-row_at.is) c.in_ok-push.ensures.items

pub returns : goal.returns
returns c =
    times_end row_at (list_at row_at (words_behind c.args.rest)) c.loop-place.rows (c.in-Some.count - c.loop-place._place) (words_behind c.loop-place.left)
    c.loop-place.invariant (omega arith)
