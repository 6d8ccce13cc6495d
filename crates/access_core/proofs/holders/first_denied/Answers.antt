-- A block that the next queue has is the first, if those before it have none.
use Rattle.std.proofs.Common.{◌∙◌, ap, sym}
use Rattle.std.specs.Option.{option_copied}
use Rattle.access_core.proofs.FirstOf.{walk-found, walk-on}
use Rattle.access_core.proofs.Terms.{lists_denied}
use Rattle.access_core.proofs.holders.first_denied.Goals as goal

pub returns-in-Some : goal.returns-in-Some
returns-in-Some c =
    walk-found (lists_denied c.args.rows.now) c.args.queues.now c.loop-queue.queue-index c.queue-item.result c.loop-queue-test.true (sym c.queue-item.is) c.loop-queue.invariant c.in-Some.block.now
    (sym c.first_of_queue.ensures ∙ ap option_copied c.in-Some.is)

pub loop-queue-preserved : goal.loop-queue-preserved
loop-queue-preserved c =
    walk-on (lists_denied c.args.rows.now) c.args.queues.now c.loop-queue.queue-index c.queue-item.result c.loop-queue-test.true (sym c.queue-item.is) c.loop-queue.invariant
    (sym c.first_of_queue.ensures ∙ ap option_copied c.in_default.is)
