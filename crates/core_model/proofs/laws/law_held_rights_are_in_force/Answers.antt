use Rattle.core_model.proofs.Behind.{granted-now}
use Rattle.core_model.proofs.Holding.{holding-legal}
use Rattle.core_model.proofs.laws.law_held_rights_are_in_force.Goals as goal

pub returns-clause-whole : goal.returns-clause-whole
returns-clause-whole c = λ start entries legal. holding-legal start entries legal

pub returns-clause-anywhere : goal.returns-clause-anywhere
returns-clause-anywhere c = λ start entries queue id flying legal found. granted-now start entries legal queue id flying found
