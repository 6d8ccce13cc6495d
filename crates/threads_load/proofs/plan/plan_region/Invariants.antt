-- The queues on the agents so far stand behind the others.
use Rattle.std.proofs.Common.{◌≡◌, ◌++◌, flat_map}
use Rattle.std.specs.List.{range_with_len}
use Rattle.threads_load.specs.Plans.{queue_for}
use Rattle.threads_load.proofs.plan.plan_region.Given as goal

abbrev pub invariant-loop-before : goal.invariant-loop-before
invariant-loop-before l = l.queues.items ≡ l.fn.queues.items ++ flat_map (queue_for l.policy l.client l.region) (range_with_len 1 l.before)
