-- There is a place for each queue, and each has few errors.
use Rattle.std.proofs.Common.{◌≡◌, ◌∙◌, ◌≤◌, ap, arith, length, length-take-le, subst, sym, take}
use Rattle.access_core.specs.inner.Cached.{IsSound}
use Rattle.access_core.specs.inner.Origins.{queue_origin}
use Rattle.access_core.proofs.Terms.{length-map}
use Rattle.access_core.proofs.access.rotating.tell_queues.Goals as goal

pub push-requires : goal.push-requires
push-requires c =
    let i = c.loop-queue.queue-index in
    let many = ap length c.loop-queue.invariant ∙ length-map (take i c.args.queues.now) queue_origin ∙ length-take-le i c.args.queues.now (omega arith) in
    let few = c.requires.few in
    omega (arith, many, few)

pub queue_origin-requires : goal.queue_origin-requires
queue_origin-requires c =
    let sound = subst IsSound (sym c.queue-item.is) (c.requires.sound c.loop-queue.queue-index c.queue-item.result (omega arith)) in
    let free = sound.free in
    omega (arith, free)
