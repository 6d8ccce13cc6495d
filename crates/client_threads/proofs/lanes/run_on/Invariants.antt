use Rattle.client_threads.specs.inner.Turns.{HasTurned, StaysOn}
use Rattle.client_threads.proofs.lanes.run_on.Given as goal

abbrev pub invariant-loop-before : goal.invariant-loop-before
invariant-loop-before g l = StaysOn g.B.Room.board l.broker l.initial.lane l.lane × HasTurned g.B.Room.opened l.ring l.initial.lane l.lane
