use Rattle.policy.proofs.NameLemmas.{found_place, no_place}
use Rattle.policy.proofs.table.Table.index_of.Goals as goal

pub returns-in-Ok-clause-place : goal.returns-in-Ok-clause-place
returns-in-Ok-clause-place g c = found_place c.args.name.now c.in-Ok.text.now c.self.inside.rows.entries c.args.self.now c.get_index_of.result c.get_index_of.ensures.index c.in-Ok.ensures.cases.0 c.self.view_is

pub returns-in-Err-clause-place : goal.returns-in-Err-clause-place
returns-in-Err-clause-place g c = no_place c.args.name.now c.self.inside.rows.entries c.args.self.now c.in-Err.ensures.cases.0 c.self.view_is
