-- The rows so far are written behind their count.
use Rattle.std.proofs.Common.{◌≡◌, ◌++◌, ◌∷◌, string_bytes, take, length}
use Rattle.std.specs.Prelude.{flat_map}
use Rattle.journal.specs.Words.{Number, behind_blanks}
use Rattle.journal.specs.Entries.{words_of_row}
use Rattle.journal.proofs.writing.write_rows.Given as goal

abbrev pub invariant-loop-row : goal.invariant-loop-row
invariant-loop-row l =
    string_bytes l.out ≡ string_bytes l.fn.out ++ behind_blanks (Number 64 (length l.rows) ∷ flat_map words_of_row (take l.row-index l.rows))
