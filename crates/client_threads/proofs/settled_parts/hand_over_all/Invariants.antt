use Rattle.std.proofs.Common.{◌≡◌}
use Rattle.client_threads.proofs.HandingOver.{handed_until}
use Rattle.client_threads.proofs.settled_parts.hand_over_all.Given as goal

abbrev pub invariant-loop-place : goal.invariant-loop-place
invariant-loop-place l = l.lanes.items ≡ handed_until l.place l.initial.lanes.items
