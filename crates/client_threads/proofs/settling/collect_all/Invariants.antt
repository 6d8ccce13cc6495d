use Rattle.std.proofs.Common.{◌≡◌}
use Rattle.std.specs.Prelude.{All}
use Rattle.client_threads.specs.inner.Gatherings.{HasGathered, IsOnBoard, KnowsAll}
use Rattle.client_threads.proofs.settling.collect_all.Given as goal

abbrev pub invariant-loop-lane : goal.invariant-loop-lane
invariant-loop-lane l =
    HasGathered l.initial.keeper l.fn.lanes.items l.keeper l.lane-iterator.rest.items
    × KnowsAll l.keeper
    × (l.keeper.board ≡ l.board)
    × All (IsOnBoard l.board) l.lane-iterator.rest.items
