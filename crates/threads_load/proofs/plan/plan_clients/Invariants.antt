-- The queues of the clients so far are there.
use Rattle.std.proofs.Common.{◌≡◌, ◌++◌, [], flat_map}
use Rattle.std.specs.List.{range_with_len}
use Rattle.threads_load.specs.Plans.{client_queues}
use Rattle.threads_load.proofs.plan.plan_clients.Given as goal

abbrev pub invariant-loop-before : goal.invariant-loop-before
invariant-loop-before l = l.queues.items ≡ flat_map (client_queues l.policy) (range_with_len 1 l.before)
