-- The items so far, in as much memory.
use Rattle.std.proofs.Common.{◌≡◌, take, vec_capacity}
use Rattle.sequences.proofs.pool.filled.Given as goal

abbrev pub invariant-loop-item : goal.invariant-loop-item
invariant-loop-item g l = (l.list.items ≡ take l.item-index l.items) × (vec_capacity l.list ≡ vec_capacity l.initial.list)
