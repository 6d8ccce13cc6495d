use Rattle.core_model.proofs.Launching.{legal-at}
use Rattle.core_model.proofs.Turns.{queue-opened}
use Rattle.core_model.proofs.laws.law_each_queue_is_its_openers.Goals as goal

pub returns : goal.returns
returns c = λ start entries before client agent size told effects legal place.
    let here = legal-at start entries before _ legal place in
    queue-opened start before here.0 told effects client agent size here.1
