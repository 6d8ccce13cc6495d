-- no ring before is the queue's
use Rattle.world.proofs.Places.{IsLookedThrough}
use Rattle.world.proofs.rings.place_among.Given as goal

abbrev pub invariant-loop-place : goal.invariant-loop-place
invariant-loop-place l = IsLookedThrough l.rings.items l.queue l.place
