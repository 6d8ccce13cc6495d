use Rattle.std.proofs.Common.{◌≡◌, length, get_or}
use Rattle.ring.specs.inner.Halfway.{body_read}
use Rattle.ring.specs.Steps.{HasGained}
use Rattle.ring.proofs.ring.Ring.load_packet.Given as goal

abbrev pub invariant-loop-before : goal.invariant-loop-before
invariant-loop-before l =
    (l.seat.table_id ≡ l.initial.seat.table_id)
    × (length l.words ≡ 8)
    × (get_or l.words 0 0 ≡ get_or l.initial.words 0 0)
    × HasGained l.self.size l.self.producers l.initial.seat.me (body_read l.words l.before) l.seat.me
