-- All packets have seats.
use Rattle.std.proofs.Common.{sym, ◌∙◌, arith}
use Rattle.picture.proofs.Walks.{seats_step, seats_end}
use Rattle.picture.proofs.seats.seats_of.Goals as goal

pub packets-preserved : goal.packets-preserved
packets-preserved c =
    rw c.in_ok-put_seat.ensures (c.packets.invariant ∙ seats_step c.packets.index c.packets.seats.items c.args.packets.now
    c.index-packets-index.result (omega arith) c.index-packets-index.is)

pub returns : goal.returns
returns c = sym (c.packets.invariant ∙ seats_end c.packets.index c.packets.seats.items c.args.packets.now (omega arith))
