use Rattle.packed_journal.specs.Entries.{words_of_effect}
use Rattle.packed_journal.proofs.Ranges.{list_fits}
use Rattle.packed_journal.proofs.fitting.effects_fit.Goals as goal

pub returns : goal.returns
returns c = list_fits words_of_effect c.args.effects.now c.number_fits.ensures c.each_effect_fits.ensures
