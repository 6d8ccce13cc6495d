use Rattle.packed_journal.proofs.EntryForms.{entry_back, entries_apart}
use Rattle.packed_journal.proofs.laws.law_written_entries_are_read.Goals as goal

pub returns-clause-read : goal.returns-clause-read
returns-clause-read c entry policy rest f = entry_back entry policy rest f

pub returns-clause-apart : goal.returns-clause-apart
returns-clause-apart c one other p q f g same = entries_apart one other p q f g same
