-- No two rings are of one queue, so one that is of the queue is the first.
use Rattle.std.proofs.Common.{◌-◌, ◌<◌, arith, length}
use Rattle.world.proofs.Places.{place_at}
use Rattle.world.proofs.rings.place_of.Goals as goal

pub returns-then-index-queue : goal.returns-then-index-queue
returns-then-index-queue c =
    let within : c.min-behind.result - 1 < length c.args.rings.now.items = grind arith in
    place_at c.args.rings.now.items c.args.queue (c.min-behind.result - 1) c.index.result.now c.requires within c.index.ensures c.if-index-queue.true
