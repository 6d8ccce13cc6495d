-- The packets so far are worked on.
use Rattle.std.proofs.Common.{List, take}
use Rattle.readable.specs.Moves.{Made}
use Rattle.readable.specs.Rounds.{AreWorkedOn}
use Rattle.readable.specs.inner.Keeping.{Asks}
use Rattle.readable.proofs.rounds.work_on_each.Given as goal

abbrev pub invariant-packets : goal.invariant-packets
invariant-packets l = (made : List Made) × AreWorkedOn (take l.place l.flight) made × Asks l.initial.world l.initial.log made l.world l.log
