-- The entries so far stand behind the others, and took their room.
use Rattle.std.proofs.Common.{◌≡◌, ◌+◌, ◌++◌, take}
use Rattle.core_model.proofs.part.put_copies.Given as goal

abbrev pub invariant-loop-entry : goal.invariant-loop-entry
invariant-loop-entry l = (l.list.items ≡ l.initial.list.items ++ take l.entry-index l.entries) × (l.list.room + l.entry-index ≡ l.initial.list.room)
