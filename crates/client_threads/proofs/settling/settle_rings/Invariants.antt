use Rattle.std.proofs.Common.{◌≡◌, ◌+◌, ◌≤◌, length, map, vec_capacity}
use Rattle.std.specs.Prelude.{All}
use Rattle.client_threads.specs.Desks.{seen}
use Rattle.client_threads.specs.inner.Gatherings.{HasGathered, IsOnBoard, KnowsAll}
use Rattle.client_threads.proofs.Readiness.{Going}
use Rattle.client_threads.proofs.settling.settle_rings.Given as goal

abbrev pub invariant-loop-desks : goal.invariant-loop-desks
invariant-loop-desks l =
    Going (map seen l.initial.desks.items) l.initial.ends.items l.initial.lanes.items (map seen l.desks.items) l.rooms.items l.ends.items l.lanes.items l.settled.items
    × (length l.desks.items + length l.settled.items ≤ vec_capacity l.settled)
    × HasGathered l.initial.keeper l.initial.lanes.items l.keeper l.lanes.items
    × KnowsAll l.keeper
    × All (IsOnBoard l.board) l.lanes.items
    × (l.keeper.board ≡ l.board)

abbrev pub decreases-loop-desks : goal.decreases-loop-desks
decreases-loop-desks l = length l.desks.items
