use Rattle.client_threads.proofs.Belonging.{kept, ends_are_of, lane_is_of}
use Rattle.client_threads.proofs.laws.law_opened_queues_belong.Goals as goal

pub returns-clause-kept : goal.returns-clause-kept
returns-clause-kept c = kept

pub returns-clause-ends : goal.returns-clause-ends
returns-clause-ends c = ends_are_of

pub returns-clause-lane : goal.returns-clause-lane
returns-clause-lane c = lane_is_of
