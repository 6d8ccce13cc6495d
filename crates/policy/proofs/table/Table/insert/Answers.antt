use Rattle.policy.proofs.NameLemmas.{inserted}
use Rattle.policy.proofs.table.Table.insert.Goals as goal

pub returns-clause-ok : goal.returns-clause-ok
returns-clause-ok g c = inserted c.self.inside.rows c.args.self.now c.args.name c.args.row c.insert.new.self.entries c.requires.new_name c.self.view_is c.in_ok-insert.ensures.entries
