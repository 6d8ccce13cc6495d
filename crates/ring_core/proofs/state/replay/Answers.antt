use Rattle.ring_core.proofs.Sizes.{ring_size_bounds}
use Rattle.ring_core.proofs.States.{leads_more, leads_all, fault_stops}
use Rattle.ring_core.proofs.Kept.{replays_keep}
use Rattle.ring_core.proofs.state.replay.Goals as goal

pub loop-index-preserved : goal.loop-index-preserved
loop-index-preserved c = leads_more _ _ _ _ _ _ _ c.loop-index-test.true c.loop-index.invariant c.in-Ok.ensures.made

pub returns-in-Err-clause-stops : goal.returns-in-Err-clause-stops
returns-in-Err-clause-stops c = rw c.fault_at.ensures (fault_stops _ _ _ _ _ _ c.step.result c.in-Err.fault c.loop-index-test.true c.loop-index.invariant c.step.ensures.exact.0 c.in-Err.is)

pub returns-clause-rule : goal.returns-clause-rule
returns-clause-rule c = replays_keep c.args.size c.args.producers c.args.steps.now c.loop-index.ring (ring_size_bounds c.args.size c.requires.size).0 (leads_all _ _ _ _ c.loop-index-test.false c.loop-index.invariant)
