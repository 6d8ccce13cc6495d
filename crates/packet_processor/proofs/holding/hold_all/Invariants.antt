-- What is still to be held, of the needs that are left.
use Rattle.std.proofs.Common.{◌≡◌, ◌++◌, drop}
use Rattle.packet_processor.proofs.HeldByRule.{all_held}
use Rattle.packet_processor.proofs.holding.hold_all.Given as goal

abbrev pub invariant-loop-need : goal.invariant-loop-need
invariant-loop-need l = l.held ++ all_held (drop l.need-index l.needs) ≡ l.fn.held ++ all_held l.needs
