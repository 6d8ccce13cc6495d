use Rattle.std.proofs.Common.{length}
use Rattle.threads_load.proofs.Planned.{ready_still}
use Rattle.threads_load.proofs.running.run_rotated.Goals as goal

pub returns-clause-ready : goal.returns-clause-ready
returns-clause-ready g c = λ plan r. ready_still plan c.args.stage _ r c.run_beside-ends.ensures.front.1 (c.run_beside-ends.ensures.queues (length plan))
