use Rattle.std.specs.Prelude.{length}
use Rattle.session.proofs.who.+limit_among.Given as goal

abbrev pub decreases-limit_among : goal.decreases-limit_among
decreases-limit_among l = length l.limits.now
