use Rattle.core_model.proofs.ClosedLaw.{gone, gone-before, unnamed, unnamed-since}
use Rattle.core_model.proofs.laws.law_closed_queues_stay_gone.Goals as goal

pub returns-clause-gone : goal.returns-clause-gone
returns-clause-gone c = λ start before more queue told effects legal. gone start before more queue told effects legal

pub returns-clause-unnamed : goal.returns-clause-unnamed
returns-clause-unnamed c = λ start before more queue told effects legal. unnamed start before more queue told effects legal

pub returns-clause-gone_before : goal.returns-clause-gone_before
returns-clause-gone_before c = λ start entries queue legal closed. gone-before start entries queue legal closed

pub returns-clause-unnamed_since : goal.returns-clause-unnamed_since
returns-clause-unnamed_since c = λ start entries queue legal closed. unnamed-since start entries queue legal closed
