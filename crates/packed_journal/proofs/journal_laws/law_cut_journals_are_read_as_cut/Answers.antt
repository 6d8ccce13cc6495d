use Rattle.packed_journal.proofs.JournalFronts.{body_cut}
use Rattle.packed_journal.proofs.journal_laws.law_cut_journals_are_read_as_cut.Goals as goal

pub returns : goal.returns
returns c place entries steps front more byte fits full few is = body_cut entries fits place steps front more byte full few is
