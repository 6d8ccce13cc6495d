use Rattle.std.proofs.Common.{◌+◌, [], refl}
use Rattle.threads_load.specs.Plans.{client_queues}
use Rattle.threads_load.proofs.Ranges.{gathered_more}
use Rattle.threads_load.proofs.plan.plan_clients.Goals as goal

pub loop-before-preserved : goal.loop-before-preserved
loop-before-preserved c =
    gathered_more (client_queues c.args.policy.now) c.loop-before.before (c.loop-before.before + 1) [] c.loop-before.queues.items c.plan_client.new.queues.items
    refl c.loop-before.invariant c.in_ok-plan_client.ensures
