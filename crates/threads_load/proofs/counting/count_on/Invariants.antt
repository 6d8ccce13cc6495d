-- The first are counted on.
use Rattle.std.proofs.Common.{◌≡◌, ℕ, List, ◌++◌, length}
use Rattle.core_model.specs.declared.entry.Entry.{Entry}
use Rattle.threads_load.specs.Counts.{AreCounts}
use Rattle.threads_load.proofs.Counted.{AreHalf}
use Rattle.threads_load.proofs.counting.count_on.Given as goal

abbrev pub invariant-loop-place : goal.invariant-loop-place
invariant-loop-place l =
    (length l.counts.items ≡ length l.initial.counts.items)
    × ((before : List Entry) (queues : ℕ) → AreCounts before queues l.initial.counts.items → AreHalf before (before ++ l.entries) queues l.place l.counts.items)
