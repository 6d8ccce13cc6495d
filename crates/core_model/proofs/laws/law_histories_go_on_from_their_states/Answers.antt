use Rattle.std.proofs.Common.{refl}
use Rattle.core_model.proofs.Behind.{same-state}
use Rattle.core_model.proofs.States.{answer-join, join-legal, owed-join, part-legal, rotate-legal, state-join}
use Rattle.core_model.proofs.laws.law_histories_go_on_from_their_states.Goals as goal

pub returns-clause-rotated : goal.returns-clause-rotated
returns-clause-rotated c = λ start entries legal. rotate-legal start entries legal

pub returns-clause-owed : goal.returns-clause-owed
returns-clause-owed c = λ start before more event. owed-join start before more event

pub returns-clause-answered : goal.returns-clause-answered
returns-clause-answered c = λ start before more asked other. answer-join start before more asked other

pub returns-clause-state : goal.returns-clause-state
returns-clause-state c = λ start before more. state-join start before more

pub returns-clause-behind : goal.returns-clause-behind
returns-clause-behind c = λ start entries legal. same-state start entries legal

pub returns-clause-parted : goal.returns-clause-parted
returns-clause-parted c = λ start before more legal. part-legal start before more legal

pub returns-clause-joined : goal.returns-clause-joined
returns-clause-joined c = λ start before more one two. join-legal start before _ more one two refl
