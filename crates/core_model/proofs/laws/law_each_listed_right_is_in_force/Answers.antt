use Rattle.core_model.proofs.Seeing.{listing-told}
use Rattle.core_model.proofs.laws.law_each_listed_right_is_in_force.Goals as goal

pub returns : goal.returns
returns c = λ start entries client told same. listing-told start entries client told same
