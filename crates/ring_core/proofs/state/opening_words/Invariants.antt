use Rattle.std.proofs.Common.{◌≡◌, ◌∷◌}
use Rattle.ring_core.specs.Machine.{free_slots}
use Rattle.ring_core.proofs.state.opening_words.Given as goal

abbrev pub invariant-loop-slot : goal.invariant-loop-slot
invariant-loop-slot l = l.words.items ≡ 0 ∷ 0 ∷ free_slots l._slot
