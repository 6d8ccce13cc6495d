use Rattle.ring_core.proofs.Kept.{replays_keep}
use Rattle.ring_core.proofs.laws.law_every_run_meets_the_rule.Goals as goal

pub returns : goal.returns
returns c = λ size producers steps machine some leads. replays_keep size producers steps machine some leads
