use Rattle.std.proofs.Common.{◌≡◌}
use Rattle.bench.proofs.lane.take_all.Given as goal

abbrev pub invariant-loop-taken : goal.invariant-loop-taken
invariant-loop-taken l = l.pass.table ≡ l.initial.pass.table
