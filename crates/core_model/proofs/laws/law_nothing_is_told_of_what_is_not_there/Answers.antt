use Rattle.core_model.proofs.Absent.{launch-unfound, no-arguments-unfound, unheld-unfound, zero-outside}
use Rattle.core_model.proofs.Apart.{apart-legal, found-legal}
use Rattle.core_model.proofs.ClosedLaw.{nothing-told}
use Rattle.core_model.proofs.laws.law_nothing_is_told_of_what_is_not_there.Goals as goal

pub returns-clause-memory : goal.returns-clause-memory
returns-clause-memory c = λ start entries address fit legal outside. zero-outside start entries legal fit address outside

pub returns-clause-rights : goal.returns-clause-rights
returns-clause-rights c = λ start entries queue id client on right legal none. unheld-unfound start entries legal queue id client on right none

pub returns-clause-progress : goal.returns-clause-progress
returns-clause-progress c = λ start entries queue id legal none. launch-unfound start entries legal queue id none

pub returns-clause-named : goal.returns-clause-named
returns-clause-named c = λ start entries legal. found-legal start entries legal

pub returns-clause-arguments : goal.returns-clause-arguments
returns-clause-arguments c = λ start entries queue id legal none. no-arguments-unfound start entries legal queue id none

pub returns-clause-queues : goal.returns-clause-queues
returns-clause-queues c = λ start entries queue legal none. nothing-told start entries legal queue none

pub returns-clause-apart : goal.returns-clause-apart
returns-clause-apart c = λ start entries legal. apart-legal start entries legal
