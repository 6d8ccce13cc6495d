use Rattle.std.proofs.Common.{◌∙◌}
use Rattle.policy.proofs.CopyLemmas.{copied}
use Rattle.policy.proofs.table.Table.copy.Goals as goal

pub returns : goal.returns
returns g c = λ exact. copied g.V.Clone.is_clone exact c.self.inside.rows.entries c.in_ok-clone.field-0.entries c.in_ok-clone.ensures.cases ∙ c.self.view_is
