use Rattle.core_model.proofs.Changes.{change-granted}
use Rattle.core_model.proofs.Launching.{legal-at}
use Rattle.core_model.proofs.laws.law_each_signal_change_was_granted.Goals as goal

pub returns : goal.returns
returns c = λ start entries before entry legal place.
    let here = legal-at start entries before entry legal place in
    change-granted start before here.0 entry.event entry.outcome entry.effects here.1
