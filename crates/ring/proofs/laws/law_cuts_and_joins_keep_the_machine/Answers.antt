use Rattle.ring.proofs.Machines.{cut_same, join_same}
use Rattle.ring.proofs.laws.law_cuts_and_joins_keep_the_machine.Goals as goal

pub returns-clause-cut : goal.returns-clause-cut
returns-clause-cut c = cut_same

pub returns-clause-joined : goal.returns-clause-joined
returns-clause-joined c = join_same
