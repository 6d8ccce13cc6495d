use Rattle.std.proofs.Common.{◌≡◌, arith, subst, Some}
use Rattle.toml.specs.Parse.{parse_document}
use Rattle.toml.specs.View.{table_view}
use Rattle.policy.proofs.FileLemmas.{refused_in_file}
use Rattle.policy.proofs.read.file.read_policy.Goals as goal

pub returns-in-Ok-table_from_str-clause-refused : goal.returns-in-Ok-table_from_str-clause-refused
returns-in-Ok-table_from_str-clause-refused c =
    refused_in_file c.args.text.now (table_view c.in-Ok-table_from_str.file) (omega arith) (c.in-Ok.ensures.cases.1, subst (λ t. parse_document t ≡ Some (table_view c.in-Ok-table_from_str.file)) c.in-Ok.ensures.cases.0 c.in-Ok-table_from_str.ensures.ok) c.read_file.result c.read_file.ensures
