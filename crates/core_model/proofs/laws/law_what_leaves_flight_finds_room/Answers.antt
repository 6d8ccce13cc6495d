use Rattle.core_model.proofs.Room.{close-finds, failure-finds, fault-finds, finish-finds, never-owed, stop-finds}
use Rattle.core_model.proofs.laws.law_what_leaves_flight_finds_room.Goals as goal

pub returns-clause-completion : goal.returns-clause-completion
returns-clause-completion c = λ history queue id room. finish-finds history room queue id

pub returns-clause-fault : goal.returns-clause-fault
returns-clause-fault c = λ history queue id error effects room owing. fault-finds history room queue id error effects owing

pub returns-clause-failure : goal.returns-clause-failure
returns-clause-failure c = λ history queue id error effects room owing. failure-finds history room queue id error effects owing

pub returns-clause-stop : goal.returns-clause-stop
returns-clause-stop c = λ history queue barrier room some. stop-finds history room queue barrier some

pub returns-clause-close : goal.returns-clause-close
returns-clause-close c = λ history queue flying room there. close-finds history room queue flying there

pub returns-clause-owes : goal.returns-clause-owes
returns-clause-owes c = λ start entries event is. never-owed start entries event is
