use Rattle.std.proofs.Common.{◌≡◌}
use Rattle.ring.specs.inner.Halfway.{body_stored}
use Rattle.ring.specs.Steps.{HasGained}
use Rattle.ring.proofs.ring.Ring.store_packet.Given as goal

abbrev pub invariant-loop-before : goal.invariant-loop-before
invariant-loop-before l =
    (l.seat.table_id ≡ l.initial.seat.table_id)
    × HasGained l.self.size l.self.producers l.initial.seat.me (body_stored l.id.0 l.words l.before) l.seat.me
