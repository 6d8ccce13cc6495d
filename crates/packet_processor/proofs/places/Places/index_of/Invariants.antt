-- the place is among those that are left
use Rattle.std.proofs.Common.{◌≡◌, drop, find}
use Rattle.packet_processor.specs.Queueing.{is_place_of}
use Rattle.packet_processor.proofs.places.Places.index_of.Given as goal

abbrev pub invariant-loop-index : goal.invariant-loop-index
invariant-loop-index l = find (is_place_of l.id) l.place-items ≡ find (is_place_of l.id) (drop l.index l.place-items)
