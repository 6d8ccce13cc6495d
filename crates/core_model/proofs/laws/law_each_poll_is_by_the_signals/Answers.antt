use Rattle.core_model.proofs.Launching.{legal-at}
use Rattle.core_model.proofs.Working.{poll-due}
use Rattle.core_model.proofs.laws.law_each_poll_is_by_the_signals.Goals as goal

pub returns : goal.returns
returns c = λ start entries before queue id told effects legal place.
    let here = legal-at start entries before _ legal place in
    poll-due start before here.0 told effects queue id here.1
