use Rattle.packed_journal.specs.Parts.{words_of_row}
use Rattle.packed_journal.proofs.Ranges.{list_fits}
use Rattle.packed_journal.proofs.fitting.rows_fit.Goals as goal

pub returns : goal.returns
returns c = list_fits words_of_row c.args.rows.now c.number_fits.ensures c.each_row_fits.ensures
