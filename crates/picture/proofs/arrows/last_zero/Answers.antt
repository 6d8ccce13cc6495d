-- The last zero of the signal is found.
use Rattle.std.proofs.Common.{sym, ◌∙◌, arith}
use Rattle.picture.proofs.Walks.{zero_step, zero_end}
use Rattle.picture.proofs.arrows.last_zero.Goals as goal

pub zeros-preserved : goal.zeros-preserved
zeros-preserved c =
    rw c.latest-found.ensures (c.zeros.invariant ∙ zero_step c.args.signal c.zeros.index c.zeros.found c.args.zeros.now _ (omega arith))

pub returns : goal.returns
returns c = sym (c.zeros.invariant ∙ zero_end c.args.signal c.zeros.index c.zeros.found c.args.zeros.now (omega arith))
