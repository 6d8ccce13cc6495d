use Rattle.core_model.proofs.Seeing.{load-told, test-told}
use Rattle.core_model.proofs.laws.law_each_look_at_a_signal_is_granted.Goals as goal

pub returns-clause-load : goal.returns-clause-load
returns-clause-load c = λ start entries client signal told same. load-told start entries client told signal same

pub returns-clause-test : goal.returns-clause-test
returns-clause-test c = λ start entries client signal condition value told same. test-told start entries client told signal condition value same
