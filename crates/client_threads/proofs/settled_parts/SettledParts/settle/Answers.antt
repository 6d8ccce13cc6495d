use Rattle.client_threads.proofs.HandingOver.{of_so}
use Rattle.client_threads.proofs.settled_parts.SettledParts.settle.Goals as goal

pub returns-clause-of : goal.returns-clause-of
returns-clause-of c = of_so c.args.lanes.now.items c.hand_over_all.new.lanes.items c.hand_over_all.ensures
