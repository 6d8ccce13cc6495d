use Rattle.ring.proofs.Machines.{kept_machine}
use Rattle.ring.proofs.laws.law_a_ring_is_a_machine_between_steps.Goals as goal

pub returns : goal.returns
returns c = kept_machine
