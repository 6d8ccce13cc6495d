use Rattle.aql_packet.proofs.ReadingLemmas.{decoded_is_laid}
use Rattle.aql_packet.proofs.SpellingLemmas.{laid_is_decoded}
use Rattle.aql_packet.proofs.laws.law_reading_is_layout.Goals as goal

pub returns-clause-laid : goal.returns-clause-laid
returns-clause-laid c = λ bytes packet lays. laid_is_decoded bytes packet lays

pub returns-clause-read : goal.returns-clause-read
returns-clause-read c = λ bytes packet found. decoded_is_laid bytes packet found
