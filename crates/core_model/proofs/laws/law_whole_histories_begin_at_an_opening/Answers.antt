use Rattle.core_model.proofs.States.{begin-opening, legal-whole, whole-legal}
use Rattle.core_model.proofs.laws.law_whole_histories_begin_at_an_opening.Goals as goal

pub returns-clause-opened : goal.returns-clause-opened
returns-clause-opened c = begin-opening

pub returns-clause-legal : goal.returns-clause-legal
returns-clause-legal c = λ start entries whole. whole-legal start entries whole

pub returns-clause-whole : goal.returns-clause-whole
returns-clause-whole c = λ start entries none legal. legal-whole start entries legal none
