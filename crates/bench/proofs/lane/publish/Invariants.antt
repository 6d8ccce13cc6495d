use Rattle.std.proofs.Common.{◌≡◌}
use Rattle.ring.specs.Publishing.{IsOpen}
use Rattle.bench.proofs.lane.publish.Given as goal

abbrev pub invariant-loop-look : goal.invariant-loop-look
invariant-loop-look l = (l.pass.table ≡ l.initial.pass.table) × IsOpen l.ticket.id.0 l.pass
