use Rattle.grants.proofs.LawLemmas.{law_of_calls}
use Rattle.grants.proofs.laws.law_of_calls.Goals as goal

pub returns : goal.returns
returns c = law_of_calls
