-- The lanes are the broker's, what was handed out is settled and counted, and the front has seen more.
use Rattle.std.proofs.Common.{◌≡◌, ℕ}
use Rattle.std.specs.Prelude.{All}
use mathlib.Core.List.{IsPrefix}
use Rattle.core_model.specs.Legal.{IsLegalPart}
use Rattle.core_model.specs.Rotation.{entries_in}
use Rattle.client_threads.specs.HandedOver.{AreSettledWith}
use Rattle.client_threads.specs.Running.{IsLaneOf}
use Rattle.threads_load.specs.Counts.{AreCounts}
use Rattle.threads_load.specs.Stages.{AreOf, KeepShares}
use Rattle.threads_load.proofs.running.run_rounds.Given as goal

abbrev pub invariant-loop-round : goal.invariant-loop-round
invariant-loop-round g l =
    (l.front.board ≡ g.B.Room.board) × IsPrefix l.initial.front.left l.front.left × All (λ lane. IsLaneOf g.B.Room.board l.broker lane) l.lanes.items
    × ((queues : ℕ) → AreOf queues l.initial.lanes.items → AreOf queues l.lanes.items)
    × AreSettledWith l.settled l.lanes.items × All (IsLegalPart g.B.Room.opened.history.kernels) l.settled
    × (l.front.share ≡ l.initial.front.share) × KeepShares l.initial.lanes.items l.lanes.items
    × ((queues : ℕ) → AreCounts (entries_in l.initial.settled) queues l.initial.counts.items → AreCounts (entries_in l.settled) queues l.counts.items)
