use Rattle.std.proofs.Common.{◌≡◌, ℕ, ◌<◌, ◌++◌}
use Rattle.core_model.specs.Rotation.{entries_in}
use Rattle.client_threads.specs.Takes.{takes, served_by}
use Rattle.client_threads.proofs.mismatch.least_mismatch.Given as goal

abbrev pub invariant-loop-queue : goal.invariant-loop-queue
invariant-loop-queue l = (queue : ℕ) → queue < l.queue → takes (entries_in l.settled ++ (entries_in l.parts ++ l.entries)) queue ≡ served_by l.lanes queue
