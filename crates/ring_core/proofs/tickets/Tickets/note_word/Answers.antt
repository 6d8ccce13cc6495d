use Rattle.ring_core.proofs.Opened.{open_rises, wrote_keeps}
use Rattle.ring_core.proofs.tickets.Tickets.note_word.Goals as goal

pub write-requires : goal.write-requires
write-requires c = open_rises _ c.self.inside.changes c.self.invariant

pub invariant_of-self : goal.invariant_of-self
invariant_of-self c =
    wrote_keeps c.args.id c.args.place c.args.word _ _ _ c.self.inside.changes c.push.new.self c.requires.body c.push.ensures c.self.invariant c.self.view_is c.requires.ticket c.write.ensures
