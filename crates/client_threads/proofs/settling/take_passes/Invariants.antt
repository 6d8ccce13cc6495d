use Rattle.std.proofs.Common.{◌-◌, ◌≤◌, length, vec_capacity}
use Rattle.client_threads.specs.Settling.{passes_of}
use Rattle.client_threads.proofs.Ends.{Moving}
use Rattle.client_threads.proofs.settling.take_passes.Given as goal

abbrev pub invariant-loop-place : goal.invariant-loop-place
invariant-loop-place l = Moving l.initial.ends.items l.queue.0 l.place l.ends.items l.passes.items × (length (passes_of l.queue.0 l.initial.ends.items) ≤ vec_capacity l.passes)

abbrev pub decreases-loop-place : goal.decreases-loop-place
decreases-loop-place l = length l.ends.items - l.place
