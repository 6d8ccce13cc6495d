use Rattle.std.proofs.lemmas.Result.{err_from_is_err_and}
use Rattle.toml.specs.View.{table_view}
use Rattle.policy.proofs.FileLemmas.{fails_at_kernels}
use Rattle.policy.proofs.LimitLemmas.{objects_within}
use Rattle.policy.proofs.read.file.read_objects.Goals as goal

pub returns-in_err-kernels : goal.returns-in_err-kernels
returns-in_err-kernels c =
    let p = err_from_is_err_and c.from_residual-in_err-kernels.result c.from_residual-in_err-kernels.ensures.1 in
    rw (p.1, p.2) (fails_at_kernels c.args.version (table_view c.args.file.now) c.in_ok-clients.clients c.in_ok-agents.agents c.in_ok-regions.regions c.in_ok-signals.signals c.in_err-kernels.field-0.0 c.in_ok-clients.ensures c.in_ok-agents.ensures c.in_ok-regions.ensures c.in_ok-signals.ensures c.in_err-kernels.ensures)

pub new-requires : goal.new-requires
new-requires c =
    objects_within c.args.version (table_view c.args.file.now) c.in_ok-clients.clients c.in_ok-agents.agents c.in_ok-regions.regions c.in_ok-signals.signals c.in_ok-kernels.kernels c.in_ok-clients.ensures c.in_ok-agents.ensures c.in_ok-regions.ensures c.in_ok-signals.ensures c.in_ok-kernels.ensures
