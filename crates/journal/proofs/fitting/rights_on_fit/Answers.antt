use Rattle.std.proofs.Common.{rules, [], ◌∷◌, ◌++◌, refl}
use Rattle.journal.specs.Words.{Number}
use Rattle.journal.specs.Entries.{words_of_object}
use Rattle.journal.proofs.Ranges.{joined, one_more}
use Rattle.journal.proofs.fitting.rights_on_fit.Goals as goal

pub returns : goal.returns
returns c =
    one_more (Number 32 c.args.client.0) (words_of_object c.args.object ++ Number 8 c.args.rights.0 ∷ []) c.small_fits.ensures
    (joined (words_of_object c.args.object) (Number 8 c.args.rights.0 ∷ []) c.object_fits.ensures (one_more (Number 8 c.args.rights.0) [] (search rules) refl))
