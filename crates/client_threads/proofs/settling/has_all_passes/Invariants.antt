use Rattle.client_threads.proofs.Looking.{RingsLeft}
use Rattle.client_threads.proofs.settling.has_all_passes.Given as goal

abbrev pub invariant-loop-desk : goal.invariant-loop-desk
invariant-loop-desk l = RingsLeft l.ends l.lanes l.desks l.desk-index
