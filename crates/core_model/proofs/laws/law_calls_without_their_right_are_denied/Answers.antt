use Rattle.core_model.proofs.Denied.{write-denied, change-denied, opening-denied, read-denied, load-denied, test-denied}
use Rattle.core_model.proofs.laws.law_calls_without_their_right_are_denied.Goals as goal

pub returns-clause-write : goal.returns-clause-write
returns-clause-write c = λ start entries client address bytes known good none. write-denied start entries client known address bytes good none

pub returns-clause-change : goal.returns-clause-change
returns-clause-change c = λ start entries client signal operation known none. change-denied start entries client known signal operation none

pub returns-clause-opening : goal.returns-clause-opening
returns-clause-opening c = λ start entries client agent size known none. opening-denied start entries client known agent size none

pub returns-clause-read : goal.returns-clause-read
returns-clause-read c = λ start entries client address size known good none. read-denied start entries client known address size good none

pub returns-clause-load : goal.returns-clause-load
returns-clause-load c = λ start entries client signal known none. load-denied start entries client known signal none

pub returns-clause-test : goal.returns-clause-test
returns-clause-test c = λ start entries client signal condition value known none. test-denied start entries client known signal condition value none
