use Rattle.packed_journal.proofs.Ranges.{signed_in_range}
use Rattle.packed_journal.proofs.fitting.signed_fits.Goals as goal

pub returns : goal.returns
returns c = signed_in_range c.args._number c.ranges._number.sfits
