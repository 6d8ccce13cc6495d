-- The packets so far have seats.
use Rattle.std.proofs.Common.{◌≡◌, [], drop}
use Rattle.picture.specs.Seats.{seats_of}
use Rattle.picture.proofs.seats.seats_of.Given as goal

abbrev pub invariant-packets : goal.invariant-packets
invariant-packets l = seats_of [] l.packets ≡ seats_of l.seats.items (drop l.index l.packets)
