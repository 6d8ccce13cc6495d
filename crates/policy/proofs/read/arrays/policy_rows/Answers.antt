use Rattle.std.proofs.lemmas.Result.{err_from_is_err_and}
use Rattle.toml.specs.View.{table_view}
use Rattle.policy.proofs.FileLemmas.{fails_at_denies}
use Rattle.policy.proofs.read.arrays.policy_rows.Goals as goal

pub returns-in_err-denies : goal.returns-in_err-denies
returns-in_err-denies c =
    let p = err_from_is_err_and c.from_residual-in_err-denies.result c.from_residual-in_err-denies.ensures.1 in
    rw (p.1, p.2) (fails_at_denies (table_view c.args.file.now) c.args.policy.now c.in_ok-allows.allows c.in_err-denies.field-0.0 c.in_ok-allows.ensures c.in_err-denies.ensures)
