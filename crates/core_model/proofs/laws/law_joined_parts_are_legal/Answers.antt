use Rattle.core_model.proofs.States.{joined-part}
use Rattle.core_model.proofs.laws.law_joined_parts_are_legal.Goals as goal

pub returns : goal.returns
returns c = λ kernels first second one two follows. joined-part kernels first second one two follows
