use Rattle.std.proofs.Common.{◌∙◌, ap, ◌++◌, ◌∷◌, []}
use Rattle.ring_core.specs.declared.ticket.Ticket.{Ticket}
use Rattle.ring_core.proofs.Opened.{push_keeps}
use Rattle.ring_core.proofs.tickets.Tickets.push.Goals as goal

pub invariant_of-self-2 : goal.invariant_of-self-2
invariant_of-self-2 c =
    push_keeps c.args.id _ _ _ c.self.inside.changes c.push-2.new.self c.push-2.ensures c.self.invariant c.self.view_is c.requires
    (c.in_ok-push.ensures.items ∙ ap (λ (t : Ticket). c.self.inside.open_tickets.items ++ record { id = c.args.id; ticket = t } ∷ []) c.blank.ensures)
