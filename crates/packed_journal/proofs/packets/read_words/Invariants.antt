-- The words so far are read, and the others are left.
use Rattle.std.proofs.Common.{◌≡◌, ◌-◌, length, take}
use Rattle.packed_journal.specs.Readings.{read_words}
use Rattle.packed_journal.proofs.Times.{onto}
use Rattle.packed_journal.proofs.packets.read_words.Given as goal

abbrev pub invariant-loop-place : goal.invariant-loop-place
invariant-loop-place l = (read_words 8 l.mask l.bytes ≡ onto (take l.place l.words) (read_words (8 - l.place) l.left l.rest)) × (length l.words ≡ 8)
