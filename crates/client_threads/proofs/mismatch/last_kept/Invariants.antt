use Rattle.std.proofs.Common.{suc, ◌<◌}
use Rattle.std.specs.List.{AllWithin}
use Rattle.client_threads.proofs.mismatch.last_kept.Given as goal

abbrev pub invariant-loop-lane : goal.invariant-loop-lane
invariant-loop-lane l = AllWithin (λ lane. lane.queue.0 < suc l.last) l.lanes 0 l.lane-index
