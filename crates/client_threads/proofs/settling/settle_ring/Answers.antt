use Rattle.client_threads.specs.inner.Kept.{lane_of}
use Rattle.client_threads.proofs.Settled.{are_served}
use Rattle.client_threads.proofs.settling.settle_ring.Goals as goal

pub returns-clause-settled : goal.returns-clause-settled
returns-clause-settled c =
    rw (← c.lane.view_is)
    (record {
      settled = c.settle_in.ensures;
      served = are_served c.args.ring c.args.passes.items (lane_of c.lane.inside) c.settle_in.result.write_index c.settle_in.result.read_index c.settle_in.result.slots c.lane.invariant.lane c.settle_in.ensures;
    })
