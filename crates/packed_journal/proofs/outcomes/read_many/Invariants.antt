-- The list is what was read so far, and what is left.
use Rattle.std.proofs.Common.{◌≡◌, ◌-◌}
use Rattle.packed_journal.specs.Readings.{times}
use Rattle.packed_journal.specs.Entries.{read_effect}
use Rattle.packed_journal.proofs.Times.{onto}
use Rattle.packed_journal.proofs.outcomes.read_many.Given as goal

abbrev pub invariant-loop-place : goal.invariant-loop-place
invariant-loop-place l = times read_effect l.count l.fn.bytes ≡ onto l.effects.items (times read_effect (l.count - l._place) l.left)
