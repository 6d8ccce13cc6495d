use Rattle.core_model.proofs.Launching.{legal-at}
use Rattle.core_model.proofs.Seeing.{group-reads, group-effects, group-means}
use Rattle.core_model.proofs.laws.law_each_read_of_a_group_was_granted.Goals as goal

pub returns-clause-reads : goal.returns-clause-reads
returns-clause-reads c = λ start entries before queue id told effects legal place.
    let here = legal-at start entries before _ legal place in
    group-reads start before told effects queue id here.0 here.1

pub returns-clause-agents : goal.returns-clause-agents
returns-clause-agents c = λ start entries before queue id told effects flying dispatch legal place found is.
    group-effects start before told effects queue id flying dispatch (legal-at start entries before _ legal place).1 found is

pub returns-clause-means : goal.returns-clause-means
returns-clause-means c = λ start entries before queue id told effects flying legal place found.
    group-means start before told effects queue id flying (legal-at start entries before _ legal place).1 found
