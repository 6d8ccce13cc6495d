use Rattle.std.specs.Prelude.{length}
use Rattle.session.proofs.judging.+has_fewer.Given as goal

abbrev pub decreases-has_fewer : goal.decreases-has_fewer
decreases-has_fewer l = length l.open.now
