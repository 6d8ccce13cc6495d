use Rattle.std.proofs.Common.{◌∷◌, ◌∙◌, [], sym}
use Rattle.ring_core.specs.declared.ticket.TicketChange.TheVariants.{Saw}
use Rattle.ring_core.proofs.Opened.{open_rises, look_keeps, look_missed, told_open, changes_show}
use Rattle.ring_core.proofs.tickets.Tickets.look.Goals as goal

pub see-requires : goal.see-requires
see-requires c = open_rises _ c.self.inside.changes c.self.invariant

pub invariant_of-self : goal.invariant_of-self
invariant_of-self c = look_missed c.args.id _ _ c.self.inside.changes _ c.self.invariant c.self.view_is c.see.ensures.found c.args.read_index _ c.if-not-see.true c.see.ensures.saw

pub returns-then-not-see : goal.returns-then-not-see
returns-then-not-see c = (sym c.if-not-see.true ∙ told_open c.args.id _ _ c.self.inside.changes _ c.self.invariant c.self.view_is c.see.ensures.found, c.self.view_is)

pub invariant_of-self-2 : goal.invariant_of-self-2
invariant_of-self-2 c =
    look_keeps c.args.id _ _ c.self.inside.changes _ c.self.invariant c.self.view_is c.see.ensures.found c.args.read_index _ c.push.new.self c.if-not-see.false c.see.ensures.saw c.push.ensures

pub returns : goal.returns
returns c = (
  sym c.if-not-see.false ∙ told_open c.args.id _ _ c.self.inside.changes _ c.self.invariant c.self.view_is c.see.ensures.found,
  changes_show c.args.id _ _ c.self.inside.changes _ c.self.invariant c.self.view_is c.see.ensures.found (Saw c.args.id c.args.read_index ∷ []) c.push.new.self c.push.ensures,
)
