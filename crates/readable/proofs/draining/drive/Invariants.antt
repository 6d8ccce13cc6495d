-- The rounds so far are made and counted.
use Rattle.std.proofs.Common.{List}
use Rattle.readable.specs.Moves.{Made}
use Rattle.readable.specs.inner.Keeping.{Rounds}
use Rattle.readable.proofs.draining.drive.Given as goal

abbrev pub invariant-rounds : goal.invariant-rounds
invariant-rounds l = (made : List Made) × Rounds l.initial.world l.initial.log made l.world l.log
