-- They are put behind nothing.
use Rattle.packet_processor.proofs.holding.held_by_needs.Goals as goal

pub returns : goal.returns
returns c = λ client. rw c.new-held.ensures at (c.in_ok-hold_needs.ensures client)
