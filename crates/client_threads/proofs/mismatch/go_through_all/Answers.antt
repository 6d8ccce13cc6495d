use Rattle.core_model.specs.Rotation.{entries_in}
use Rattle.client_threads.proofs.Differences.{ok_behind}
use Rattle.client_threads.proofs.mismatch.go_through_all.Goals as goal

pub returns-in-Ok-clause-same : goal.returns-in-Ok-clause-same
returns-in-Ok-clause-same c =
    ok_behind (λ left. left.now) c.go_through.result (entries_in c.args.parts.now) c.args.entries.now c.args.queue.0 c.args.served.now c.in-Ok.left.now c.in-Ok.ensures.same c.go_through.ensures.same
