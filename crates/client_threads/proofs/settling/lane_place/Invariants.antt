use Rattle.std.proofs.Common.{◌≡◌, drop}
use Rattle.client_threads.specs.Takes.{lane_at}
use Rattle.client_threads.proofs.settling.lane_place.Given as goal

abbrev pub invariant-loop-place : goal.invariant-loop-place
invariant-loop-place l = lane_at l.queue.0 (drop l.place l.lanes) ≡ lane_at l.queue.0 l.lanes
