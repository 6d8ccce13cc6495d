use Rattle.policy.proofs.CopyLemmas.{same_tables}
use Rattle.policy.proofs.table.Table.is_same.Goals as goal

pub returns : goal.returns
returns g c = λ decides.
    same_tables g.V.PartialEq.eq decides c.self.inside.rows.entries c.other.inside.rows.entries c.as_slice.result c.as_slice-2.result c.args.self.now c.args.other.now c.eq.result
    c.eq.ensures c.as_slice.ensures.entries c.as_slice-2.ensures.entries c.self.view_is c.other.view_is
