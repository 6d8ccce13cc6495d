-- The list is what was read so far, and what is left.
use Rattle.std.proofs.Common.{◌≡◌, ◌-◌}
use Rattle.journal.specs.Words.{times, words_behind}
use Rattle.journal.specs.Readings.{list_at, row_at}
use Rattle.journal.proofs.Times.{onto}
use Rattle.journal.proofs.reading.row_list_at.Given as goal

abbrev pub invariant-loop-place : goal.invariant-loop-place
invariant-loop-place l = list_at row_at (words_behind l.rest) ≡ onto l.rows (times row_at (l.count - l._place) (words_behind l.left))
