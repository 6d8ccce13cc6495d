use Rattle.std.proofs.Common.{◌≡◌, ◌<◌, List, arith, length, subst, take}
use Rattle.std.proofs.lemmas.List.{take_all}
use Rattle.client_threads.proofs.Fronts.{prefix_trans}
use Rattle.threads_load.specs.declared.plan.PlannedQueue.{PlannedQueue}
use Rattle.threads_load.specs.Stages.{AreOf}
use Rattle.threads_load.proofs.Planned.{next_too}
use Rattle.threads_load.proofs.opening.open_queues.Goals as goal

pub loop-planned-preserved : goal.loop-planned-preserved
loop-planned-preserved g c = (
  c.open_next.ensures.front,
  c.in_ok-open_next.ensures.ends,
  c.in_ok-open_next.ensures.lanes,
  prefix_trans c.args.front.now.left c.loop-planned.front.left c.open_next.new.front.left c.loop-planned.invariant.3 c.open_next.ensures.begins,
  λ lanes.
      let within : c.loop-planned.planned-index < length c.args.plan.now = omega arith in
      next_too (λ (ps : List PlannedQueue). AreOf (length ps) c.open_next.new.lanes.items)
      c.args.plan.now c.loop-planned.planned-index _ within
      (c.in_ok-open_next.ensures.queues (take c.loop-planned.planned-index c.args.plan.now) (c.loop-planned.invariant.4 lanes)),
  λ keep. c.in_ok-open_next.ensures.keeps (c.loop-planned.invariant.5 keep),
  c.in_ok-open_next.ensures.shares,
  λ its. c.in_ok-open_next.ensures.rings (c.loop-planned.invariant.7 its),
  λ unused. c.in_ok-open_next.ensures.unused (c.loop-planned.invariant.8 unused),
)

pub returns-clause-queues : goal.returns-clause-queues
returns-clause-queues g c = λ lanes.
    let whole : take c.loop-planned.planned-index c.args.plan.now ≡ c.args.plan.now = take_all c.loop-planned.planned-index c.args.plan.now (omega arith) in
    subst (λ (ps : List PlannedQueue). AreOf (length ps) c.loop-planned.lanes.items) whole (c.loop-planned.invariant.4 lanes)
