use Rattle.std.proofs.Common.{rules}
use Rattle.packed_journal.specs.Readings.{words_of_list}
use Rattle.packed_journal.specs.Parts.{words_of_row}
use Rattle.packed_journal.proofs.Ranges.{joined}
use Rattle.packed_journal.proofs.fitting.policy_rows_fit.Goals as goal

pub returns : goal.returns
returns c =
    joined (words_of_list words_of_row c.args.rows.now.allows) (words_of_list words_of_row c.args.rows.now.denies) (search rules) (search rules)
