use Rattle.std.proofs.Common.{List, sym, subst}
use Rattle.client_threads.specs.Rings.{QueueRing}
use Rattle.client_threads.specs.Running.{IsEndOf}
use Rattle.threads_tests.proofs.endings.settles_with_its_last.Goals as goal

pub with_end-requires-clause-end : goal.with_end-requires-clause-end
with_end-requires-clause-end g c =
    subst (λ (rings : List QueueRing). IsEndOf rings c.in_ok-stage.last) (sym c.in_ok-fault.ensures.broker) c.in_ok-stage.ensures.end
