use Rattle.journal.specs.Entries.{words_of_row}
use Rattle.journal.proofs.Ranges.{list_fits}
use Rattle.journal.proofs.fitting.rows_fit.Goals as goal

pub returns : goal.returns
returns c = list_fits words_of_row c.args.rows.now c.number_fits.ensures c.each_row_fits.ensures
