-- The words of each item so far fit.
use Rattle.std.proofs.Common.{◌≡◌, true, take}
use Rattle.std.specs.List.{list_all}
use Rattle.packed_journal.specs.Readings.{fit}
use Rattle.packed_journal.specs.Parts.{words_of_row}
use Rattle.packed_journal.proofs.fitting.each_row_fits.Given as goal

abbrev pub invariant-loop-row : goal.invariant-loop-row
invariant-loop-row l = list_all (λ x. fit (words_of_row x)) (take l.row-index l.rows) ≡ true
