use Rattle.std.proofs.Common.{◌==◌, ap}
use Rattle.aql_packet.proofs.NumberLemmas.{barrier_of_word, type_of_word}
use Rattle.aql_packet.proofs.laws.law_header_in_first_word.Goals as goal

pub returns-clause-kind : goal.returns-clause-kind
returns-clause-kind c = λ bytes are. type_of_word bytes are.below

pub returns-clause-barrier : goal.returns-clause-barrier
returns-clause-barrier c = λ bytes are. ap (λ bit. bit == 1) (barrier_of_word bytes are.below)
