use Rattle.ring_core.proofs.Own.{knows_its_own}
use Rattle.ring_core.proofs.laws.law_each_part_follows_from_its_own_steps.Goals as goal

pub returns : goal.returns
returns c = λ size producers steps machine seat leads le. knows_its_own size producers steps machine seat leads le
