use Rattle.std.proofs.Common.{◌∙◌, ap, sym, subst}
use Rattle.ring_core.specs.Tickets.{held, IsAscending}
use Rattle.ring_core.proofs.Opened.{open_rises, found_open}
use Rattle.ring_core.proofs.tickets.Tickets.get_open.Goals as goal

pub ticket_under-requires : goal.ticket_under-requires
ticket_under-requires c = subst IsAscending (sym c.as_slice.ensures.value) (open_rises _ c.self.inside.changes c.self.invariant)

pub returns : goal.returns
returns c = c.ticket_under.ensures ∙ ap (held c.args.id.0) c.as_slice.ensures.value ∙ found_open _ _ _ c.self.inside.changes c.self.invariant c.self.view_is
