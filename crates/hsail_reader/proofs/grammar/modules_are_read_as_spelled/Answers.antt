use Rattle.hsail_reader.proofs.TextSpelled.{module_read, module_spelled}
use Rattle.hsail_reader.proofs.grammar.modules_are_read_as_spelled.Goals as goal

pub returns : goal.returns
returns c = record { read = module_read; spelled = module_spelled }
