use Rattle.packed_journal.specs.declared.stepping.Step.TheVariants as step
use Rattle.packed_journal.proofs.JournalForms.{step_told}
use Rattle.packed_journal.proofs.journal_laws.law_blocks_end_where_they_are_full.Goals as goal

pub returns-clause-block : goal.returns-clause-block
returns-clause-block c place bytes rest e = (step_told place bytes step.Block rest e).1

pub returns-clause-entry : goal.returns-clause-entry
returns-clause-entry c place bytes entry policy rest e = (step_told place bytes (step.Entry entry policy) rest e).1

pub returns-clause-end : goal.returns-clause-end
returns-clause-end c place bytes rest e = (step_told place bytes step.End rest e).1
