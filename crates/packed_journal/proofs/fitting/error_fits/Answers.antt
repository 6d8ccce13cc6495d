use Rattle.std.proofs.Common.{◌++◌, refl}
use Rattle.packed_journal.specs.Parts.{words_of_packet, words_of_place, words_of_rule}
use Rattle.packed_journal.proofs.Ranges.{joined}
use Rattle.packed_journal.proofs.fitting.error_fits.Goals as goal

pub returns : goal.returns
returns c =
    joined (words_of_packet (c.args.error.now.queue, c.args.error.now.packet)) (words_of_rule c.args.error.now.rule ++ words_of_place c.args.error.now.place)
    c.packet_id_fits.ensures (joined (words_of_rule c.args.error.now.rule) (words_of_place c.args.error.now.place) refl c.place_fits.ensures)
