use Rattle.std.proofs.Common.{arith}
use Rattle.packet_processor.proofs.HeldByPointer.{at_place, more}
use Rattle.packet_processor.proofs.HeldByRule.{all_held, held_if_any, all_held-splits}
use Rattle.packet_processor.proofs.holding.hold_all.Goals as goal

pub loop-need-preserved : goal.loop-need-preserved
loop-need-preserved c =
    more all_held held_if_any all_held-splits _ _ _ _ _ _
    (at_place c.args.needs.now c.loop-need.need-index _ (omega arith)) c.in_ok-hold_one.ensures c.loop-need.invariant
