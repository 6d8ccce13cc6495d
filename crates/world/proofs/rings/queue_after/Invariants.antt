-- the nearest so far
use Rattle.std.proofs.Common.{◌≡◌, take}
use Rattle.world.specs.Making.{queue_after}
use Rattle.world.proofs.rings.queue_after.Given as goal

abbrev pub invariant-loop-place : goal.invariant-loop-place
invariant-loop-place l = l.next ≡ queue_after (take l.place l.rings.items) l.queue
