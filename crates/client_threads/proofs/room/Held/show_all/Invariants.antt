use Rattle.std.proofs.Common.{◌≡◌}
use Rattle.client_threads.proofs.Showing.{ShownTo}
use Rattle.client_threads.proofs.room.Held.show_all.Given as goal

abbrev pub invariant-loop-place : goal.invariant-loop-place
invariant-loop-place g l =
    (l.self ≡ l.initial.self)
    × (l.lanes.items ≡ l.initial.lanes.items)
    × ShownTo g.B.Room.opened l.initial.self.left l.initial.lanes.items l.place
