-- No queue from here on has the number.
use Rattle.access_core.specs.inner.Numbers.{IsNotFrom}
use Rattle.access_core.proofs.access.lookups.index_before.Given as goal

abbrev pub invariant-loop-index : goal.invariant-loop-index
invariant-loop-index l = IsNotFrom l.queues l.queue l.index
