-- The queues so far have lanes.
use Rattle.std.proofs.Common.{◌≡◌, take}
use Rattle.picture.specs.Lanes.{lanes_from}
use Rattle.picture.proofs.lanes.lanes_from.Given as goal

abbrev pub invariant-loop-queue : goal.invariant-loop-queue
invariant-loop-queue l = l.lanes ≡ lanes_from (take l.queue-index l.queues)
