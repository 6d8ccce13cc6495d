use Rattle.aql_packet.proofs.SpellingLemmas.{law_one_spelling}
use Rattle.aql_packet.proofs.laws.law_one_spelling.Goals as goal

pub returns : goal.returns
returns c = law_one_spelling
