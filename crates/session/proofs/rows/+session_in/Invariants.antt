use Rattle.std.specs.Prelude.{length}
use Rattle.session.proofs.rows.+session_in.Given as goal

abbrev pub decreases-session_in : goal.decreases-session_in
decreases-session_in l = length l.rows.now
