-- The records so far are told, and those after them are as before.
use Rattle.std.proofs.Common.{◌≡◌, ◌++◌, drop, map, take}
use Rattle.hobbydresser_c.specs.Told.{error_told}
use Rattle.hobbydresser_c.proofs.errors.put_errors.Given as goal

abbrev pub invariant-rows : goal.invariant-rows
invariant-rows l = l.out ≡ map error_told (take l.place l.rows) ++ drop l.place l.initial.out
