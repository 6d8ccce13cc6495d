-- So many are of no entry.
use Rattle.std.proofs.Common.{[]}
use Rattle.threads_load.specs.Counts.{AreCounts}
use Rattle.threads_load.proofs.counting.count_none.Given as goal

abbrev pub invariant-loop-queue : goal.invariant-loop-queue
invariant-loop-queue l = AreCounts [] l._queue l.counts.items
