use Rattle.replay.proofs.Alike.{outcome-alike}
use Rattle.replay.proofs.sameness.is_same_outcome.Goals as goal

pub returns : goal.returns
returns c = outcome-alike c.args.one.now c.args.other.now c.eq.result c.eq.ensures
