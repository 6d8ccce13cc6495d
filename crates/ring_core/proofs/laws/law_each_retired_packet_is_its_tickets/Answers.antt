use Rattle.ring_core.proofs.Own.{retired_eight, retired_words}
use Rattle.ring_core.proofs.laws.law_each_retired_packet_is_its_tickets.Goals as goal

pub returns-clause-eight : goal.returns-clause-eight
returns-clause-eight c = λ size producers steps machine id some leads lt. retired_eight size producers steps machine id some leads lt

pub returns-clause-words : goal.returns-clause-words
returns-clause-words c = λ size producers steps machine id some leads lt. retired_words size producers steps machine id some leads lt
