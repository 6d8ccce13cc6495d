use Rattle.core_model.proofs.Allowed.{allowed-legal}
use Rattle.core_model.proofs.laws.law_each_right_in_force_is_allowed.Goals as goal

pub returns : goal.returns
returns c = λ start entries client on right legal granted. allowed-legal start client on right entries legal granted
