use Rattle.ring.proofs.Machines.{one_step}
use Rattle.ring.proofs.laws.law_each_access_is_one_step.Goals as goal

pub returns : goal.returns
returns c = one_step
