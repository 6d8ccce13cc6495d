use Rattle.core_model.proofs.Changes.{error-named, fault-released}
use Rattle.core_model.proofs.Launching.{legal-at}
use Rattle.core_model.proofs.laws.law_faults_release_alone.Goals as goal

pub returns-clause-names : goal.returns-clause-names
returns-clause-names c = λ start entries before entry error legal place is.
    let here = legal-at start entries before entry legal place in
    error-named start before here.0 entry.event entry.outcome entry.effects error here.1 is

pub returns-clause-releases : goal.returns-clause-releases
returns-clause-releases c = λ start entries before entry error legal place faults.
    let here = legal-at start entries before entry legal place in
    fault-released start before here.0 entry.event entry.outcome entry.effects error here.1 faults
