use Rattle.packed_journal.proofs.EntryForms.{entry_back}
use Rattle.packed_journal.proofs.fitting.entry_is_read_back.Goals as goal

pub returns : goal.returns
returns c rest = entry_back c.args.entry.now c.args.policy.now rest c.entry_fits.ensures
