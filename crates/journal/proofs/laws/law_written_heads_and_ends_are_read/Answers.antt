use Rattle.journal.proofs.LineLaws.{end_read, head_read}
use Rattle.journal.proofs.laws.law_written_heads_and_ends_are_read.Goals as goal

pub returns-clause-head : goal.returns-clause-head
returns-clause-head c head f = head_read head f

pub returns-clause-end : goal.returns-clause-end
returns-clause-end c chain = end_read chain
