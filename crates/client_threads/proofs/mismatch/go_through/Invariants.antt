use Rattle.client_threads.proofs.Differences.{Reached}
use Rattle.client_threads.proofs.mismatch.go_through.Given as goal

abbrev pub invariant-loop-entry : goal.invariant-loop-entry
invariant-loop-entry l = Reached l.entries l.queue.0 l.entry-index l.served l.left
