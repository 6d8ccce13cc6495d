-- What is kept of the queues so far.
use Rattle.std.proofs.Common.{◌≡◌, map, take}
use Rattle.access_core.specs.inner.Origins.{queue_origin}
use Rattle.access_core.proofs.access.rotating.tell_queues.Given as goal

abbrev pub invariant-loop-queue : goal.invariant-loop-queue
invariant-loop-queue l = l.origins ≡ map queue_origin (take l.queue-index l.queues)
