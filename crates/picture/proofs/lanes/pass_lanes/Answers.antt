-- The lanes are as deep as the entry's row, and then those behind its event.
use Rattle.picture.proofs.lanes.pass_lanes.Goals as goal

pub returns : goal.returns
returns c = rw (c.deepen.ensures, c.spot_of-spot.ensures) at c.pass_event.ensures
