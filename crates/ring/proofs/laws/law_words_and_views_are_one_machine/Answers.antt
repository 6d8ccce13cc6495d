use Rattle.ring.proofs.Machines.{one_machine}
use Rattle.ring.proofs.laws.law_words_and_views_are_one_machine.Goals as goal

pub returns : goal.returns
returns c = one_machine
