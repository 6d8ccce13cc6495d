-- None of the queues so far lists one.
use Rattle.std.proofs.Common.{◌≡◌, drop, find}
use Rattle.access_core.proofs.Terms.{all_blocks, lists_one}
use Rattle.access_core.proofs.holders.first_holding.Given as goal

abbrev pub invariant-loop-queue : goal.invariant-loop-queue
invariant-loop-queue l = find (lists_one l.client l.object l.rights) (all_blocks (drop l.queue-index l.queues)) ≡ find (lists_one l.client l.object l.rights) (all_blocks l.queues)
