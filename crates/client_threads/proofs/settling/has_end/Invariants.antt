use Rattle.client_threads.proofs.Looking.{EndsLeft}
use Rattle.client_threads.proofs.settling.has_end.Given as goal

abbrev pub invariant-loop-end : goal.invariant-loop-end
invariant-loop-end l = EndsLeft l.queue.0 l.number l.ends l.end-index
