use Rattle.std.proofs.Common.{refl, sym, ◌∙◌}
use Rattle.ring_core.proofs.Entries.{held_here, held_missed}
use Rattle.ring_core.proofs.tickets.ticket_under.Goals as goal

pub returns : goal.returns
returns c = held_here _ _ _ _ c.before.in_ok-index.ensures

pub returns-in_err-index : goal.returns-in_err-index
returns-in_err-index c = c.from_residual.ensures ∙ sym (held_missed _ _ _ _ refl refl c.in_err-index.ensures)
