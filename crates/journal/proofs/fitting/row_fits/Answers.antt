use Rattle.std.proofs.Common.{rules, [], ◌∷◌, ◌++◌, refl}
use Rattle.journal.specs.Words.{Number}
use Rattle.journal.specs.Entries.{words_of_grantee, words_of_target}
use Rattle.journal.proofs.Ranges.{joined, one_more}
use Rattle.journal.proofs.fitting.row_fits.Goals as goal

pub returns : goal.returns
returns c =
    joined (words_of_grantee c.args.row.now.subject) (words_of_target c.args.row.now.target ++ Number 8 c.args.row.now.rights.0 ∷ []) c.grantee_fits.ensures
    (joined (words_of_target c.args.row.now.target) (Number 8 c.args.row.now.rights.0 ∷ []) c.target_fits.ensures (one_more (Number 8 c.args.row.now.rights.0) [] (search rules) refl))
