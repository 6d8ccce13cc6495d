use Rattle.ring_core.proofs.Opened.{open_rises, saw_keeps}
use Rattle.ring_core.proofs.tickets.Tickets.note_read_index.Goals as goal

pub see-requires : goal.see-requires
see-requires c = open_rises _ c.self.inside.changes c.self.invariant

pub invariant_of-self : goal.invariant_of-self
invariant_of-self c = saw_keeps c.args.id c.args.read_index _ _ _ c.self.inside.changes c.push.new.self c.push.ensures c.self.invariant c.self.view_is c.requires c.see.ensures.saw
