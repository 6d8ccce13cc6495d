-- The records so far are told, and those after them are as before.
use Rattle.std.proofs.Common.{◌≡◌, ◌++◌, drop, map, take}
use Rattle.hobbydresser_c.specs.Told.{held_told}
use Rattle.hobbydresser_c.proofs.listing.put_listing.Given as goal

abbrev pub invariant-rows : goal.invariant-rows
invariant-rows l = l.out ≡ map held_told (take l.place l.rows) ++ drop l.place l.initial.out
