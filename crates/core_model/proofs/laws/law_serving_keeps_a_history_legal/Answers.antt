use Rattle.core_model.proofs.ServedLaw.{event-goes_on, list-goes_on}
use Rattle.core_model.proofs.States.{legal-beginning}
use Rattle.core_model.proofs.laws.law_serving_keeps_a_history_legal.Goals as goal

pub returns-clause-call : goal.returns-clause-call
returns-clause-call c = λ old new event reply legal meets. event-goes_on old legal event new reply meets

pub returns-clause-list : goal.returns-clause-list
returns-clause-list c = λ old new requests replies legal are. list-goes_on old new requests replies legal are

pub returns-clause-beginnings : goal.returns-clause-beginnings
returns-clause-beginnings c = λ start before more legal. legal-beginning start before more legal
