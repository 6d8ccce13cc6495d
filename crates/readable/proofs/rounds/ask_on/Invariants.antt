-- The requests so far are made and kept.
use Rattle.std.proofs.Common.{List}
use Rattle.readable.specs.Moves.{Made}
use Rattle.readable.specs.inner.Keeping.{Asks}
use Rattle.readable.proofs.rounds.ask_on.Given as goal

abbrev pub invariant-asked : goal.invariant-asked
invariant-asked l = (made : List Made) × Asks l.initial.world l.initial.log made l.world l.log
