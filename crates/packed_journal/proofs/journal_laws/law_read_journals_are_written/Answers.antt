use Rattle.packed_journal.proofs.JournalForms.{step_told}
use Rattle.packed_journal.proofs.WholeJournals.{journal_told}
use Rattle.packed_journal.proofs.journal_laws.law_read_journals_are_written.Goals as goal

pub returns-clause-whole : goal.returns-clause-whole
returns-clause-whole c steps bytes head entries rest e = journal_told steps bytes head entries rest e

pub returns-clause-step : goal.returns-clause-step
returns-clause-step c place bytes one rest e = (step_told place bytes one rest e).0
