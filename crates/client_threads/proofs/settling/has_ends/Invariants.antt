use Rattle.std.proofs.Common.{◌≡◌, true}
use Rattle.ring.specs.Settling.{has_passes}
use Rattle.client_threads.specs.Settling.{passes_of}
use Rattle.client_threads.proofs.settling.has_ends.Given as goal

abbrev pub invariant-loop-before : goal.invariant-loop-before
invariant-loop-before l = has_passes l.before (passes_of l.queue.0 l.ends) ≡ true
