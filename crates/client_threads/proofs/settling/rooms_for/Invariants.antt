use Rattle.client_threads.proofs.Readiness.{Roomed}
use Rattle.client_threads.proofs.settling.rooms_for.Given as goal

abbrev pub invariant-loop-desk : goal.invariant-loop-desk
invariant-loop-desk l = Roomed l.ends l.desks l.desk-index l.rooms.items
