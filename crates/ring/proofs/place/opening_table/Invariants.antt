use Rattle.std.proofs.Common.{◌≡◌, ◌++◌, replicate}
use Rattle.ring_core.specs.Machine.{free_slots}
use Rattle.ring.proofs.place.opening_table.Given as goal

abbrev pub invariant-loop-slot : goal.invariant-loop-slot
invariant-loop-slot l = l.words.items ≡ replicate 48 0 ++ free_slots l._slot
