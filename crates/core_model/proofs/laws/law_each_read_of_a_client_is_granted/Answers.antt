use Rattle.core_model.proofs.Seeing.{read-told}
use Rattle.core_model.proofs.laws.law_each_read_of_a_client_is_granted.Goals as goal

pub returns : goal.returns
returns c = λ start entries client address size told same. read-told start entries client told address size same
