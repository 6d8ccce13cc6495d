-- So many lists are there as were counted, each with the room of the others.
use Rattle.std.proofs.Common.{◌≡◌, ◌≤◌, length}
use Rattle.sequences.specs.Room.{HaveRoom}
use Rattle.sequences.proofs.pool.Pool.lengthen.Given as goal

abbrev pub invariant-loop-have : goal.invariant-loop-have
invariant-loop-have g l =
    (length l.self-inside.lists.items ≡ l.have) × (l.initial.have ≤ l.have) × (l.self-inside.each ≡ l.initial.self-inside.each)
    × HaveRoom l.self-inside.each l.self-inside.lists.items
