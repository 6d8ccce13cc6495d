-- The rows so far are written behind their count.
use Rattle.std.proofs.Common.{◌≡◌, ◌++◌, ◌∷◌, take, length}
use Rattle.std.specs.Prelude.{flat_map}
use Rattle.packed_journal.specs.Words.{Number}
use Rattle.packed_journal.specs.Readings.{bytes_of}
use Rattle.packed_journal.specs.Parts.{words_of_row}
use Rattle.packed_journal.proofs.writing.write_row_list.Given as goal

abbrev pub invariant-loop-row : goal.invariant-loop-row
invariant-loop-row l = l.out.items ≡ l.fn.out.items ++ bytes_of (Number 64 (length l.rows) ∷ flat_map words_of_row (take l.row-index l.rows))
