-- The packets that the changes so far release are dropped.
use Rattle.std.proofs.Common.{◌≡◌, fold, take}
use Rattle.core_model.specs.Flight.{flight_after_effect}
use Rattle.readable.proofs.flight.drop_each.Given as goal

abbrev pub invariant-loop-effect : goal.invariant-loop-effect
invariant-loop-effect l = l.flight.items ≡ fold flight_after_effect l.initial.flight.items (take l.effect-index l.effects)
