use Rattle.packed_journal.proofs.EntryForms.{entry_told}
use Rattle.packed_journal.proofs.laws.law_read_entries_are_written.Goals as goal

pub returns : goal.returns
returns c bytes entry policy rest e = entry_told bytes entry policy rest e
