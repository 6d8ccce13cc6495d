-- The soonest of the queues so far.
use Rattle.std.proofs.Common.{◌≡◌, None, fold, take}
use Rattle.std.specs.Option.{option_copied}
use Rattle.access_core.specs.inner.Origins.{sooner}
use Rattle.access_core.proofs.Terms.{all_blocks}
use Rattle.access_core.proofs.access.rotating.next_launched.Given as goal

abbrev pub invariant-loop-queue : goal.invariant-loop-queue
invariant-loop-queue l = option_copied l.next ≡ fold (sooner l.from) None (all_blocks (take l.queue-index l.queues))
