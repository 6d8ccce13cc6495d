use Rattle.core_model.proofs.States.{rotated-part, rotated-rest}
use Rattle.core_model.proofs.laws.law_rotations_hand_out_legal_parts.Goals as goal

pub returns-clause-part : goal.returns-clause-part
returns-clause-part c = λ old new part legal is. rotated-part old new part legal is

pub returns-clause-rest : goal.returns-clause-rest
returns-clause-rest c = λ old new part legal is. rotated-rest old new part legal is
