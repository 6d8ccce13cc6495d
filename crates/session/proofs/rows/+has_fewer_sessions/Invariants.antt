use Rattle.std.specs.Prelude.{length}
use Rattle.session.proofs.rows.+has_fewer_sessions.Given as goal

abbrev pub decreases-has_fewer_sessions : goal.decreases-has_fewer_sessions
decreases-has_fewer_sessions l = length l.rows.now
