-- The queues so far were copied.
use Rattle.std.proofs.Common.{◌≡◌, take}
use Rattle.core_model.proofs.origin.copy_queues.Given as goal

abbrev pub invariant-loop-queue : goal.invariant-loop-queue
invariant-loop-queue l = l.copies ≡ take l.queue-index l.queues
