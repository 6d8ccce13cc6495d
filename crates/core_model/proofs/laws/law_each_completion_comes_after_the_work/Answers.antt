use Rattle.core_model.proofs.Launching.{legal-at}
use Rattle.core_model.proofs.Working.{completion-due}
use Rattle.core_model.proofs.laws.law_each_completion_comes_after_the_work.Goals as goal

pub returns : goal.returns
returns c = λ start entries before queue id told effects legal place.
    let here = legal-at start entries before _ legal place in
    completion-due start before here.0 told effects queue id here.1
