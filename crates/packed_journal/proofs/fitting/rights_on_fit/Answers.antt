use Rattle.std.proofs.Common.{[], ◌++◌, refl}
use Rattle.packed_journal.specs.Words.{Number}
use Rattle.packed_journal.specs.Parts.{words_of_client, words_of_object, words_of_rights}
use Rattle.packed_journal.proofs.Ranges.{joined, one_more}
use Rattle.packed_journal.proofs.fitting.rights_on_fit.Goals as goal

pub returns : goal.returns
returns c =
    joined (words_of_client c.args.client) (words_of_object c.args.object ++ words_of_rights c.args.rights) (one_more (Number 32 c.args.client.0) [] c.small_fits.ensures refl)
    (joined (words_of_object c.args.object) (words_of_rights c.args.rights) c.object_fits.ensures (one_more (Number 6 c.args.rights.0) [] c.rights_fit.ensures refl))
