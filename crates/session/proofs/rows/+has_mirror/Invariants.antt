use Rattle.std.specs.Prelude.{length}
use Rattle.session.proofs.rows.+has_mirror.Given as goal

abbrev pub decreases-has_mirror : goal.decreases-has_mirror
decreases-has_mirror l = length l.rows.now
