use Rattle.core_model.proofs.Entered.{take-decided}
use Rattle.core_model.proofs.Launching.{legal-at}
use Rattle.core_model.proofs.Turns.{one-launch, taken-or-denied}
use Rattle.core_model.proofs.laws.law_each_packet_is_taken_in_turn.Goals as goal

pub returns-clause-turn : goal.returns-clause-turn
returns-clause-turn c = λ start entries before queue id bytes told effects legal place. (take-decided start before told effects queue id bytes (legal-at start entries before _ legal place).1).id_is_next

pub returns-clause-decided : goal.returns-clause-decided
returns-clause-decided c = λ start entries before queue id bytes told effects legal place. taken-or-denied start before told effects queue id bytes (legal-at start entries before _ legal place).1

pub returns-clause-once : goal.returns-clause-once
returns-clause-once c = λ start entries queue id legal one other. one-launch queue id start entries legal one other
