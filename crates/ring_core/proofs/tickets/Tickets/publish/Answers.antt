use Rattle.ring_core.proofs.Opened.{open_rises, publish_keeps}
use Rattle.ring_core.proofs.tickets.Tickets.publish.Goals as goal

pub close-requires : goal.close-requires
close-requires c = open_rises _ c.self.inside.changes c.self.invariant

pub invariant_of-self : goal.invariant_of-self
invariant_of-self c =
    publish_keeps c.args.id c.args.word _ _ _ c.self.inside.changes c.push.new.self c.push.ensures c.self.invariant c.self.view_is c.requires c.close.ensures.rest c.close.ensures.eight
