use Rattle.std.proofs.Common.{List, length, subst, sym}
use Rattle.std.specs.Prelude.{All}
use Rattle.client_threads.specs.Rings.{QueueRing}
use Rattle.threads_load.specs.Stages.{IsLoadRing}
use Rattle.threads_load.proofs.load.run_over.Goals as goal

pub finish_rotated-requires-clause-ready : goal.finish_rotated-requires-clause-ready
finish_rotated-requires-clause-ready g c = c.run_rotated-stage.ensures.ready c.args.plan.now c.requires.ready

pub finish_rotated-requires-clause-counts : goal.finish_rotated-requires-clause-counts
finish_rotated-requires-clause-counts g c = c.run_rotated-stage.ensures.counts (length c.args.plan.now) c.requires.counts

pub returns : goal.returns
returns g c = λ producers its unused.
    c.finish_rotated.ensures producers c.args.share.packets (subst (λ (rings : List QueueRing). All (IsLoadRing producers) rings) (sym c.run_rotated-stage.ensures.rings) its) (c.run_rotated-stage.ensures.planned unused)
