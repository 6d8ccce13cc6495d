use Rattle.journal.proofs.ReadBack.{entry_read_back, entries_apart}
use Rattle.journal.proofs.laws.law_written_entries_are_read.Goals as goal

pub returns-clause-read : goal.returns-clause-read
returns-clause-read c entry f = entry_read_back entry f

pub returns-clause-apart : goal.returns-clause-apart
returns-clause-apart c one other f g e = entries_apart one other f g e
