use Rattle.packed_journal.proofs.WholeJournals.{journal_back, journals_apart}
use Rattle.packed_journal.proofs.journal_laws.law_written_journals_are_read.Goals as goal

pub returns-clause-read : goal.returns-clause-read
returns-clause-read c head entries rest steps f fits few enough = journal_back head entries rest steps f fits few enough

pub returns-clause-apart : goal.returns-clause-apart
returns-clause-apart c one other xs ys f g fs gs few some same = journals_apart one other xs ys f g fs gs few some same
