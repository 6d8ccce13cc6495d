-- The ends and the lanes of the queues so far are of the broker, and these are the first of the plan.
use Rattle.std.proofs.Common.{◌≡◌, [], take, length}
use Rattle.std.specs.Prelude.{All}
use mathlib.Core.List.{IsPrefix}
use Rattle.client_threads.specs.HandedOver.{KeepsAll}
use Rattle.client_threads.specs.Running.{IsEndOf, IsLaneOf}
use Rattle.threads_load.specs.Publications.{IsUnused}
use Rattle.threads_load.specs.Stages.{AreOf, HaveShares, IsLoadRing}
use Rattle.threads_load.proofs.opening.open_queues.Given as goal

abbrev pub invariant-loop-planned : goal.invariant-loop-planned
invariant-loop-planned g l =
    (l.front.board ≡ g.B.Room.board) × All (λ end. IsEndOf l.broker end) l.ends.items × All (λ lane. IsLaneOf g.B.Room.board l.broker lane) l.lanes.items
    × IsPrefix l.initial.front.left l.front.left
    × (AreOf 0 l.initial.lanes.items → AreOf (length (take l.planned-index l.plan)) l.lanes.items)
    × (All KeepsAll l.initial.lanes.items → All KeepsAll l.lanes.items)
    × HaveShares l.front l.lanes.items
    × (All (IsLoadRing l.producers) l.initial.broker → All (IsLoadRing l.producers) l.broker)
    × (All IsUnused l.initial.ends.items → All IsUnused l.ends.items)
