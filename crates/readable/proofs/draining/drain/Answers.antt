-- Behind its rounds a drain is over, and what is told is their story.
use Rattle.readable.specs.Drains.{queues_of}
use Rattle.readable.proofs.Making.{drained, made_over}
use Rattle.readable.proofs.draining.drain.Goals as goal

pub returns-in-Ok-clause-made : goal.returns-in-Ok-clause-made
returns-in-Ok-clause-made c = made_over c.queues_of.result c.args.world.now c.drive.new.world c.new-log.result c.drive.new.log c.in-Ok.ensures

pub returns-in-Ok-clause-over : goal.returns-in-Ok-clause-over
returns-in-Ok-clause-over c =
    drained (queues_of c.args.queue) c.args.world.now c.drive.new.world c.new-log.result c.drive.new.log c.ended.result.tally c.ended.result.fates.items
    c.new-log.ensures.tally c.new-log.ensures.fates (rw c.queues_of.ensures at c.in-Ok.ensures) c.ended.ensures.tally c.ended.ensures.fates
