use Rattle.std.proofs.Common.{◌∙◌, ap, Some, None, string_bytes}
use Rattle.policy.proofs.NameLemmas.{name_at, number_back}
use Rattle.policy.proofs.table.Table.name.Goals as goal

pub returns-in-Some-clause-back : goal.returns-in-Some-clause-back
returns-in-Some-clause-back g c =
    number_back c.self.inside.rows.entries c.args.self.now c.args.number c.as_str.result.now c.len-count.ensures.unique c.self.view_is
    (ap (λ x. Some x) c.as_str.ensures.value ∙ name_at c.args.self.now c.args.number (Some (string_bytes c.in-Some.name.now, c.in-Some.field-0-1.now)) c.in-Some.ensures.row)

pub returns-in-None-clause-value : goal.returns-in-None-clause-value
returns-in-None-clause-value g c = name_at c.args.self.now c.args.number None c.in-None.ensures.row
