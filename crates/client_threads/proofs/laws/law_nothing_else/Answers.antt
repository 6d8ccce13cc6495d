use Rattle.client_threads.proofs.Places.{nothing_else}
use Rattle.client_threads.proofs.laws.law_nothing_else.Goals as goal

pub returns : goal.returns
returns c = nothing_else
