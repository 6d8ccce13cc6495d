use Rattle.hsail_reader.proofs.TextSpelled.{sample_is_text}
use Rattle.hsail_reader.proofs.TextSpelled.{text_is_read, text_is_spelled, one_module}
use Rattle.hsail_reader.proofs.grammar.texts_are_read_as_spelled.Goals as goal

pub returns : goal.returns
returns c = record {
  read = text_is_read;
  spelled = text_is_spelled;
  one = one_module;
  some = sample_is_text;
}
