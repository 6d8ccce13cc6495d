use Rattle.client_threads.proofs.HandingOver.{keeps_all_settled}
use Rattle.client_threads.proofs.laws.law_lanes_that_keep_all_are_settled.Goals as goal

pub returns : goal.returns
returns c = keeps_all_settled
