use Rattle.hsail_reader.proofs.WordSpellings.{word_is_read, word_is_spelled}
use Rattle.hsail_reader.proofs.grammar.words_are_read_as_spelled.Goals as goal

pub returns : goal.returns
returns c = record { read = word_is_read; spelled = word_is_spelled }
