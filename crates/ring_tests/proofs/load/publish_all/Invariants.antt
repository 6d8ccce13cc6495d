use Rattle.std.proofs.Common.{◌≡◌}
use Rattle.ring_tests.proofs.load.publish_all.Given as goal

abbrev pub invariant-loop-turn : goal.invariant-loop-turn
invariant-loop-turn l = l.pass.table ≡ l.initial.pass.table
