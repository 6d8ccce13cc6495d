use Rattle.client_threads.proofs.Differences.{Handed}
use Rattle.client_threads.proofs.mismatch.go_through_parts.Given as goal

abbrev pub invariant-loop-part : goal.invariant-loop-part
invariant-loop-part l = Handed l.parts l.queue.0 l.part-index l.served l.left
