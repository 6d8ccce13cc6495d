use Rattle.std.proofs.Common.{◌≡◌, ◌+◌, ◌≤◌}
use Rattle.client_threads.specs.Boards.{all_shares}
use Rattle.threads_tests.proofs.openings.opens_all.Given as goal

abbrev pub invariant-loop-before : goal.invariant-loop-before
invariant-loop-before g l = (l.front.board ≡ g.B.Room.board) × (all_shares ≤ l.front.share + l.before)
