use Rattle.core_model.proofs.ClosedLaw.{close-due}
use Rattle.core_model.proofs.Launching.{legal-at}
use Rattle.core_model.proofs.laws.law_each_close_releases_all.Goals as goal

pub returns : goal.returns
returns c = λ start entries before queue told effects legal place.
    let here = legal-at start entries before _ legal place in
    close-due start before here.0 told effects queue here.1
