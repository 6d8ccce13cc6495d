-- The lanes are as deep as the seats so far want.
use Rattle.std.proofs.Common.{◌≡◌, drop}
use Rattle.picture.specs.Lanes.{lanes_of}
use Rattle.picture.proofs.lanes.deepen_by_seats.Given as goal

abbrev pub invariant-seats : goal.invariant-seats
invariant-seats l = lanes_of l.fn.lanes l.seats ≡ lanes_of l.lanes (drop l.index l.seats)
