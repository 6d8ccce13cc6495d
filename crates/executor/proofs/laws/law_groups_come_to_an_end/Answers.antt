use Rattle.executor.proofs.GroupEnds.{comes_to_an_end}
use Rattle.executor.proofs.laws.law_groups_come_to_an_end.Goals as goal

pub returns : goal.returns
returns c = comes_to_an_end
