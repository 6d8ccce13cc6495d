-- The queues of the plan so far are open.
use Rattle.std.proofs.Common.{ℕ, ◌<◌}
use Rattle.threads_load.specs.Stages.{HasQueueAt}
use Rattle.threads_load.proofs.looking.find_queues.Given as goal

abbrev pub invariant-loop-place : goal.invariant-loop-place
invariant-loop-place l = (place : ℕ) → place < l.place → HasQueueAt l.core l.plan place
