use Rattle.std.proofs.Common.{arith}
use Rattle.client_threads.proofs.Readiness.{roomed_all}
use Rattle.client_threads.proofs.settling.rooms_for.Goals as goal

pub returns : goal.returns
returns c = roomed_all c.args.ends.now c.args.desks.now c.loop-desk.desk-index c.loop-desk.rooms.items (omega arith) c.loop-desk.invariant
