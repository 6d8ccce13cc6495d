-- What is told so far, whatever blocks are in order.
use Rattle.std.proofs.Common.{List}
use Rattle.access_core.specs.inner.Origins.{AreInOrder}
use Rattle.access_core.proofs.InOrder.{AreTold}
use Rattle.access_core.proofs.Terms.{ArgumentBlock}
use Rattle.access_core.proofs.access.rotating.packet_origins.Given as goal

abbrev pub invariant-loop-told : goal.invariant-loop-told
invariant-loop-told l = (blocks : List ArgumentBlock) → AreInOrder l.queues l.count blocks → AreTold l.queues blocks l.origins l.from l.told
