use Rattle.std.specs.Prelude.{length}
use Rattle.session.proofs.rows.+session_place.Given as goal

abbrev pub decreases-session_place : goal.decreases-session_place
decreases-session_place l = length l.rows.now
