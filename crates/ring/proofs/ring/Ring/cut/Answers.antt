use Rattle.std.proofs.Common.{rules, arith}
use Rattle.ring.proofs.Kept.{cuts}
use Rattle.ring.proofs.ring.Ring.cut.Goals as goal

pub split_seat-requires : goal.split_seat-requires
split_seat-requires c = (search rules, omega (arith, c.self.invariant.words), cuts c.self.inside.table.shared.key c.args.seat.now.id c.args.seat.now.me.0)
