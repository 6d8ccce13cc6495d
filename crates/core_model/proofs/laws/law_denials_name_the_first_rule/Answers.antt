use Rattle.core_model.proofs.Launching.{legal-at}
use Rattle.core_model.proofs.Seeing.{denied}
use Rattle.core_model.proofs.laws.law_denials_name_the_first_rule.Goals as goal

pub returns : goal.returns
returns c = λ start entries before queue id bytes error effects legal place. denied start before queue id bytes error effects (legal-at start entries before _ legal place).1
