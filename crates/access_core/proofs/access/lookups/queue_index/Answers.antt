-- At the place of its number lies the queue, or it lies before.
use Rattle.std.proofs.Common.{◌≡◌, ◌-◌, ◌<◌, length, sym, true, arith}
use Rattle.access_core.proofs.Numbered.{index-is, not-last}
use Rattle.access_core.proofs.Terms.{has_number}
use Rattle.access_core.proofs.access.lookups.queue_index.Goals as goal

pub returns-then-eq : goal.returns-then-eq
returns-then-eq c =
    let one = c.index-queues-behind.result in
    let within : c.args.queue.0 - 1 < length c.args.queues.now = grind arith in
    let passes : has_number c.args.queue one ≡ true = grind arith in
    index-is c.args.queues.now c.args.queue (c.args.queue.0 - 1) one c.requires within (sym c.index-queues-behind.is) passes

pub index_before-requires-clause-none : goal.index_before-requires-clause-none
index_before-requires-clause-none c = not-last c.args.queues.now c.args.queue _ c.requires c.min.ensures
