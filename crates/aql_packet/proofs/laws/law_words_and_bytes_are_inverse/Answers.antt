use Rattle.aql_packet.proofs.WordLemmas.{words_back, bytes_back}
use Rattle.aql_packet.proofs.laws.law_words_and_bytes_are_inverse.Goals as goal

pub returns-clause-words : goal.returns-clause-words
returns-clause-words c = words_back

pub returns-clause-bytes : goal.returns-clause-bytes
returns-clause-bytes c = bytes_back
