-- What is told so far, whatever blocks may be told.
use Rattle.std.proofs.Common.{List}
use Rattle.access_core.specs.inner.MovingOn.{MayTell}
use Rattle.access_core.proofs.Retelling.{AreRetold}
use Rattle.access_core.proofs.Terms.{ArgumentBlock}
use Rattle.access_core.proofs.access.truncating.tell_all.Given as goal

abbrev pub invariant-loop-turns : goal.invariant-loop-turns
invariant-loop-turns l = (blocks : List ArgumentBlock) → MayTell l.queues l.count l.told l.initial.fresh.packets l.initial.fresh blocks → AreRetold l.queues l.told blocks l.origins l.initial.fresh l.fresh l.from l.turns
