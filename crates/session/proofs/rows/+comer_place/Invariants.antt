use Rattle.std.specs.Prelude.{length}
use Rattle.session.proofs.rows.+comer_place.Given as goal

abbrev pub decreases-comer_place : goal.decreases-comer_place
decreases-comer_place l = length l.rows.now
