-- the first barrier is among the places that are left
use Rattle.std.proofs.Common.{◌≡◌, drop, find}
use Rattle.core_model.specs.LaunchRules.{is_barrier}
use Rattle.packet_processor.proofs.places.Places.barrier.Given as goal

abbrev pub invariant-loop-index : goal.invariant-loop-index
invariant-loop-index l = find (λ place. is_barrier place.packet) l.place-items ≡ find (λ place. is_barrier place.packet) (drop l.index l.place-items)
