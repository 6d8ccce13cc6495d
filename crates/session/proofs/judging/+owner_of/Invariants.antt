use Rattle.std.specs.Prelude.{length}
use Rattle.session.proofs.judging.+owner_of.Given as goal

abbrev pub decreases-owner_of : goal.decreases-owner_of
decreases-owner_of l = length l.open.now
