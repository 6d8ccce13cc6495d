-- The entries so far are followed.
use Rattle.std.proofs.Common.{◌≡◌, fold, take}
use Rattle.core_model.specs.Flight.{flight_after}
use Rattle.readable.proofs.flight.follow_each.Given as goal

abbrev pub invariant-loop-entry : goal.invariant-loop-entry
invariant-loop-entry l = l.flight.items ≡ fold flight_after l.initial.flight.items (take l.entry-index l.entries)
