use Rattle.std.specs.Prelude.{length}
use Rattle.session.proofs.rows.+comer_in.Given as goal

abbrev pub decreases-comer_in : goal.decreases-comer_in
decreases-comer_in l = length l.rows.now
