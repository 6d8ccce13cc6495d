use Rattle.std.proofs.Common.{◌≡◌, ◌+◌, take}
use Rattle.std.specs.List.{sum_by}
use Rattle.client_threads.specs.Boards.{all_shares}
use Rattle.client_threads.specs.Lanes.{share_of}
use Rattle.client_threads.proofs.still.have_all_shares.Given as goal

abbrev pub invariant-loop-lane : goal.invariant-loop-lane
invariant-loop-lane l = l.missing + sum_by share_of (take l.lane-index l.lanes) ≡ all_shares
