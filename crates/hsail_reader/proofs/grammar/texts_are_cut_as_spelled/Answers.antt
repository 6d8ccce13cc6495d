use Rattle.hsail_reader.proofs.TextCut.{cut, spelled}
use Rattle.hsail_reader.proofs.grammar.texts_are_cut_as_spelled.Goals as goal

pub returns : goal.returns
returns c = record {
  cut = cut;
  spelled = spelled;
}
