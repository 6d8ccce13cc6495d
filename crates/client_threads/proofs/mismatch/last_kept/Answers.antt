use Rattle.std.proofs.Common.{arith}
use Rattle.client_threads.proofs.Lasts.{none_kept}
use Rattle.client_threads.proofs.mismatch.last_kept.Goals as goal

pub returns : goal.returns
returns c = λ queue lt. none_kept c.args.lanes.now c.loop-lane.last queue lt (λ k d low l. c.loop-lane.invariant k d low (omega arith))
