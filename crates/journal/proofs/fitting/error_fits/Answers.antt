use Rattle.std.proofs.Common.{◌∷◌}
use Rattle.journal.specs.Words.{Name}
use Rattle.journal.specs.Entries.{words_of_packet, words_of_place}
use Rattle.queue_error.specs.Texts.{text_of_rule}
use Rattle.journal.proofs.Ranges.{joined, one_more}
use Rattle.journal.proofs.fitting.error_fits.Goals as goal

pub returns : goal.returns
returns c =
    joined (words_of_packet c.args.error.now.queue c.args.error.now.packet) (Name (text_of_rule c.args.error.now.rule) ∷ words_of_place c.args.error.now.place)
    c.packet_id_fits.ensures
    (one_more (Name (text_of_rule c.args.error.now.rule)) (words_of_place c.args.error.now.place) c.rule_fits.ensures c.place_fits.ensures)
