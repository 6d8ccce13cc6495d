use Rattle.std.proofs.Common.{◌≡◌}
use Rattle.bench.proofs.lane.send_all.Given as goal

abbrev pub invariant-loop-number : goal.invariant-loop-number
invariant-loop-number l = l.pass.table ≡ l.initial.pass.table
