use Rattle.std.proofs.Common.{◌≡◌}
use Rattle.ring.specs.Publishing.{IsOpen}
use Rattle.ring_tests.proofs.load.publish_under.Given as goal

abbrev pub invariant-loop-look : goal.invariant-loop-look
invariant-loop-look l = (l.pass.table ≡ l.initial.pass.table) × IsOpen l.ticket.id.0 l.pass
