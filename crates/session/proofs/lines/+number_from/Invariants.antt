use Rattle.std.specs.Prelude.{length}
use Rattle.session.proofs.lines.+number_from.Given as goal

abbrev pub decreases-number_from : goal.decreases-number_from
decreases-number_from l = length l.digits.now
