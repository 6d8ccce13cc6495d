use Rattle.std.proofs.Common.{sym}
use Rattle.std.proofs.lemmas.Result.{err_from_is_err_and}
use Rattle.toml.specs.View.{table_view}
use Rattle.policy.proofs.FileLemmas.{fails_at_rows}
use Rattle.policy.proofs.LimitLemmas.{few_rights_rows}
use Rattle.policy.proofs.read.file.read_file.Goals as goal

pub returns-in_err-rows : goal.returns-in_err-rows
returns-in_err-rows c =
    let p = err_from_is_err_and c.from_residual-in_err-rows.result c.from_residual-in_err-rows.ensures.1 in
    rw (p.1, p.2) (fails_at_rows (table_view c.args.file.now) c.in_ok-version.version c.in_ok-policy.policy c.in_err-rows.field-0.0 (sym c.in_ok-version.ensures) c.in_ok-policy.ensures c.in_err-rows.ensures)

pub set_rows-requires : goal.set_rows-requires
set_rows-requires c =
    let few = few_rights_rows c.in_ok-policy.policy (table_view c.args.file.now) c.in_ok-rows.rows c.in_ok-rows.ensures in
    record { allows = few.0; denies = few.1 }
