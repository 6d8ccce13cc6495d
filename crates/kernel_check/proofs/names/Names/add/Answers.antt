use Rattle.kernel_check.proofs.NameLemmas.{added}
use Rattle.kernel_check.proofs.names.Names.add.Goals as goal

pub returns-clause-ok : goal.returns-clause-ok
returns-clause-ok g c = added c.args.name c.args.value c.self.inside.entries c.args.self.now c.insert.new.self.entries c.requires c.self.view_is c.in_ok-insert.ensures.entries
