-- The list is what was read so far, and what is left.
use Rattle.std.proofs.Common.{◌≡◌, ◌-◌}
use Rattle.packed_journal.specs.Readings.{times, read_list}
use Rattle.packed_journal.specs.Parts.{read_row}
use Rattle.packed_journal.proofs.Times.{onto}
use Rattle.packed_journal.proofs.reading.read_row_list.Given as goal

abbrev pub invariant-loop-place : goal.invariant-loop-place
invariant-loop-place l = read_list read_row l.bytes ≡ onto l.rows (times read_row (l.count - l._place) l.left)
