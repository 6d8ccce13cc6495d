use Rattle.std.proofs.Common.{[], ◌++◌, refl}
use Rattle.packed_journal.specs.Words.{Number}
use Rattle.packed_journal.specs.Parts.{words_of_grantee, words_of_target, words_of_rights}
use Rattle.packed_journal.proofs.Ranges.{joined, one_more}
use Rattle.packed_journal.proofs.fitting.row_fits.Goals as goal

pub returns : goal.returns
returns c =
    joined (words_of_grantee c.args.row.now.subject) (words_of_target c.args.row.now.target ++ words_of_rights c.args.row.now.rights) c.grantee_fits.ensures
    (joined (words_of_target c.args.row.now.target) (words_of_rights c.args.row.now.rights) c.target_fits.ensures (one_more (Number 6 c.args.row.now.rights.0) [] c.rights_fit.ensures refl))
