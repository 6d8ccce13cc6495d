-- The rings are those of the open queues.
use Rattle.std.proofs.Common.{Option, subst, sym}
use Rattle.aql_packet.specs.declared.ids.QueueId.{QueueId}
use Rattle.world.specs.Making.{rings_of}
use Rattle.world.specs.States.{IsNextOpen, Joined}
use Rattle.world.proofs.Nearest.{next_open}
use Rattle.world.proofs.Obeyed.{World}
use Rattle.world.proofs.world.World.queue_after.Goals as goal

pub returns : goal.returns
returns c =
    let s = c.self.inside in
    subst (λ (w : Joined). IsNextOpen w c.args.queue c.queue_after.result) c.self.view_is
    (subst (λ (next : Option QueueId). IsNextOpen (World s.core.history s.rings.items s.closed) c.args.queue next) (sym c.queue_after.ensures)
    (next_open s.core.history s.rings.items (rings_of s.closed) c.args.queue))
