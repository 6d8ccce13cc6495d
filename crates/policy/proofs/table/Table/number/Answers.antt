use Rattle.policy.specs.Names.{names}
use Rattle.policy.proofs.NameLemmas.{numbered_place}
use Rattle.policy.proofs.table.Table.number.Goals as goal

pub returns-in-Some-clause-back : goal.returns-in-Some-clause-back
returns-in-Some-clause-back g c = λ _. numbered_place (names c.args.self.now) c.args.name.now c.in-Some.index c.in-Some.ensures.place
