use Rattle.ring.proofs.Places.{gaps_kept, seen_set, wide}
use Rattle.ring.proofs.laws.law_stores_are_seen_and_leave_the_gaps.Goals as goal

pub returns-clause-seen : goal.returns-clause-seen
returns-clause-seen c = λ words place word least. seen_set words place word (wide words least)

pub returns-clause-others : goal.returns-clause-others
returns-clause-others c = gaps_kept
