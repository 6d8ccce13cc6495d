-- None of the lanes so far is the queue's.
use Rattle.std.proofs.Common.{◌≡◌, ◌+◌, drop}
use Rattle.picture.specs.Lanes.{place_of}
use Rattle.picture.proofs.lanes.place_of.Given as goal

abbrev pub invariant-lanes : goal.invariant-lanes
invariant-lanes l = place_of l.lanes l.queue ≡ l.index + place_of (drop l.index l.lanes) l.queue
