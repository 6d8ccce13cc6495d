use Rattle.std.specs.Prelude.{length}
use Rattle.session.proofs.rows.+fits.Given as goal

abbrev pub decreases-fits : goal.decreases-fits
decreases-fits l = length l.rows.now
