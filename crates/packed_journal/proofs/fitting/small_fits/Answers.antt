use Rattle.std.proofs.Common.{arith}
use Rattle.packed_journal.proofs.Ranges.{number_in_range}
use Rattle.packed_journal.proofs.fitting.small_fits.Goals as goal

pub returns : goal.returns
returns c = number_in_range 32 c.args._number c.ranges._number.fits (omega (arith, c.ranges._number.fits))
