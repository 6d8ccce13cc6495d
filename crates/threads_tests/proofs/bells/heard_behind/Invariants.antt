use Rattle.client_threads.specs.Running.{IsEndOf}
use Rattle.threads_tests.proofs.bells.heard_behind.Given as goal

abbrev pub invariant-loop-turn : goal.invariant-loop-turn
invariant-loop-turn g l = IsEndOf l.broker l.end
