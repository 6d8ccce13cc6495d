use Rattle.policy.proofs.NameLemmas.{names_apart}
use Rattle.policy.proofs.table.Table.names_are_distinct.Goals as goal

pub returns : goal.returns
returns g c = names_apart c.self.inside.rows.entries c.args.self.now c.len-count.ensures.unique c.self.view_is
