use Rattle.journal.proofs.LineLaws.{fault_told, no_fault_read}
use Rattle.journal.proofs.laws.law_unread_lines_have_a_fault.Goals as goal

pub returns-clause-fault : goal.returns-clause-fault
returns-clause-fault c chain bytes fault e = fault_told chain bytes fault e

pub returns-clause-read : goal.returns-clause-read
returns-clause-read c chain bytes e = no_fault_read chain bytes e
