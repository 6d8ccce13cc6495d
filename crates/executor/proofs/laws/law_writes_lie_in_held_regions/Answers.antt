use Rattle.executor.proofs.HeldWrites.{group_held}
use Rattle.executor.proofs.laws.law_writes_lie_in_held_regions.Goals as goal

pub returns : goal.returns
returns c = λ input runs short is. group_held input runs short is
