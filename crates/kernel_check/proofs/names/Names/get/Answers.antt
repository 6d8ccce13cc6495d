use Rattle.std.proofs.Common.{◌∙◌}
use Rattle.kernel_check.proofs.NameLemmas.{found}
use Rattle.kernel_check.proofs.names.Names.get.Goals as goal

pub returns : goal.returns
returns g c = found c.args.name c.self.inside.entries.entries c.args.self.now c.copied.result (c.copied.ensures ∙ c.get.ensures.value) c.self.view_is
