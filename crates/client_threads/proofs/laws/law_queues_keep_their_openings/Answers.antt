use Rattle.client_threads.proofs.Runs.{opening_stays}
use Rattle.client_threads.proofs.laws.law_queues_keep_their_openings.Goals as goal

pub returns : goal.returns
returns c = opening_stays
