use Rattle.core_model.proofs.Changes.{release-due}
use Rattle.core_model.proofs.Launching.{legal-at}
use Rattle.core_model.proofs.laws.law_each_release_is_due.Goals as goal

pub returns : goal.returns
returns c = λ start entries before entry legal place.
    let here = legal-at start entries before entry legal place in
    release-due start before here.0 entry.event entry.outcome entry.effects here.1
