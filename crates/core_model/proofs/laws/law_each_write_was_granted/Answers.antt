use Rattle.core_model.proofs.Changes.{write-granted}
use Rattle.core_model.proofs.Launching.{legal-at}
use Rattle.core_model.proofs.laws.law_each_write_was_granted.Goals as goal

pub returns : goal.returns
returns c = λ start entries before entry fit legal place.
    let here = legal-at start entries before entry legal place in
    write-granted start before here.0 fit entry.event entry.outcome entry.effects here.1
