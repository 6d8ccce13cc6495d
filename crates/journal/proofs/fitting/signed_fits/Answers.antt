use Rattle.journal.proofs.Ranges.{signed_in_range}
use Rattle.journal.proofs.fitting.signed_fits.Goals as goal

pub returns : goal.returns
returns c = signed_in_range c.args._number c.ranges._number.sfits
