use Rattle.std.proofs.Common.{◌+◌, refl}
use Rattle.threads_load.specs.Plans.{queue_for}
use Rattle.threads_load.proofs.Ranges.{gathered_more}
use Rattle.threads_load.proofs.plan.plan_region.Goals as goal

pub loop-before-preserved : goal.loop-before-preserved
loop-before-preserved c =
    gathered_more (queue_for c.args.policy.now c.args.client c.args.region) c.loop-before.before (c.loop-before.before + 1) c.args.queues.now.items c.loop-before.queues.items c.plan_queue.new.queues.items
    refl c.loop-before.invariant c.in_ok-plan_queue.ensures
