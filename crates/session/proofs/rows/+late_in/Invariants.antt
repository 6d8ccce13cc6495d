use Rattle.std.specs.Prelude.{length}
use Rattle.session.proofs.rows.+late_in.Given as goal

abbrev pub decreases-late_in : goal.decreases-late_in
decreases-late_in l = length l.rows.now
