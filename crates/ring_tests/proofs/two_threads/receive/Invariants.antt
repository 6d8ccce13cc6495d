use Rattle.std.proofs.Common.{◌≡◌}
use Rattle.ring_tests.proofs.two_threads.receive.Given as goal

abbrev pub invariant-loop-look : goal.invariant-loop-look
invariant-loop-look l = l.pass.table ≡ l.initial.pass.table
