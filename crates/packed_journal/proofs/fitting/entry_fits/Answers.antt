use Rattle.std.proofs.Common.{◌++◌, rules}
use Rattle.packed_journal.specs.Readings.{words_of_list}
use Rattle.packed_journal.specs.Entries.{words_of_effect, words_of_event, words_of_outcome}
use Rattle.packed_journal.proofs.Ranges.{joined}
use Rattle.packed_journal.proofs.fitting.entry_fits.Goals as goal

pub returns : goal.returns
returns c =
    joined (words_of_event c.args.entry.now.event c.args.policy.now) (words_of_outcome c.args.entry.now.outcome ++ words_of_list words_of_effect c.args.entry.now.effects)
    c.event_fits.ensures
    (joined (words_of_outcome c.args.entry.now.outcome) (words_of_list words_of_effect c.args.entry.now.effects) c.outcome_fits.ensures (search rules))
