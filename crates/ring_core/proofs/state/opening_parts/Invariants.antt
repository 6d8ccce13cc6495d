use Rattle.std.proofs.Common.{◌≡◌, ◌∷◌, replicate}
use Rattle.ring_core.specs.Parts.{new_producer, new_processor}
use Rattle.ring_core.proofs.state.opening_parts.Given as goal

abbrev pub invariant-loop-producer : goal.invariant-loop-producer
invariant-loop-producer l = l.parts.items ≡ new_processor ∷ replicate l._producer new_producer
