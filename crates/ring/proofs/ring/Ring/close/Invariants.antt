use Rattle.std.proofs.Common.{◌≡◌, ◌+◌, ◌<◌, ℕ, length, get_or}
use Rattle.ring.proofs.ring.Ring.close.Given as goal

abbrev pub invariant-loop-index : goal.invariant-loop-index
invariant-loop-index l =
    (length l.slots.items ≡ length l.initial.slots.items)
    × ((j : ℕ) → j < l.index → get_or l.slots.items j 0 ≡ get_or l.closed.words.items (48 + j) 0)
