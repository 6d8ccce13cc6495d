-- The lanes are as deep as the seats want.
use Rattle.std.proofs.Common.{sym, ◌∙◌, arith}
use Rattle.picture.proofs.Walks.{depths_step, depths_end}
use Rattle.picture.proofs.lanes.deepen_by_seats.Goals as goal

pub seats-preserved : goal.seats-preserved
seats-preserved c =
    rw c.deepen.ensures (c.seats.invariant ∙ depths_step c.seats.lanes c.seats.index c.args.seats.now _ (omega arith))

pub returns : goal.returns
returns c = sym (c.seats.invariant ∙ depths_end c.seats.lanes c.seats.index c.args.seats.now (omega arith))
