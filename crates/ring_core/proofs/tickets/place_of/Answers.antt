use Rattle.std.proofs.Common.{ℕ, get_or, ◌<◌, ◌≤◌, ◌+◌, ◌-◌, ◌/◌, length, arith}
use Rattle.ring_core.specs.Tickets.{unnamed}
use Rattle.ring_core.proofs.Entries.{rise_below, rise_above, rise_missed}
use Rattle.ring_core.proofs.tickets.place_of.Goals as goal
use Rattle.ring_core.proofs.tickets.place_of.Goals.{else-low-reserved-via-then-low-reserved+else-reserved-low, else-low-reserved-via-else-low-reserved}

pub loop-low-preserved-then-reserved-middle : goal.loop-low-preserved-then-reserved-middle
loop-low-preserved-then-reserved-middle c =
    let i = c.loop-low.invariant.inside in
    let lt : c.loop-low.low + (c.loop-low.high - c.loop-low.low) / 2 < length c.args.reserved.now = omega (arith, i.0, i.1) in
    record {
      inside = (omega (arith, i.0), i.1);
      below = rise_below _ _ _ _ c.requires lt c.if-reserved-middle.true;
      above = c.loop-low.invariant.above;
    }

pub loop-low-preserved : goal.loop-low-preserved
loop-low-preserved c =
    let i = c.loop-low.invariant.inside in
    let lt : c.loop-low.low + (c.loop-low.high - c.loop-low.low) / 2 < length c.args.reserved.now = omega (arith, i.0, i.1) in
    record {
      inside = (omega arith, omega (arith, lt));
      below = c.loop-low.invariant.below;
      above = rise_above _ _ _ _ c.requires lt c.if-reserved-middle.false;
    }

pub returns-else-low-reserved : goal.returns-else-low-reserved
returns-else-low-reserved c =
    let past : c.loop-low.high ≤ c.loop-low.low = c.loop-low-test.false in
    let above : (k : ℕ) → c.loop-low.low ≤ k → k < length c.args.reserved.now → c.args.id.0 ≤ (get_or c.args.reserved.now k unnamed).id.0 = λ k le. c.loop-low.invariant.above k (omega (arith, past, le)) in
    elim c.else-low-reserved.branch [
      | else-low-reserved-via-then-low-reserved+else-reserved-low w ↦ rise_missed _ _ _ _ c.requires c.loop-low.invariant.below above (λ _. w.if-reserved-low.false)
      | else-low-reserved-via-else-low-reserved w ↦
          rise_missed _ _ _ unnamed c.requires c.loop-low.invariant.below above (λ lt. absurd (omega (arith, lt, w.if-low-reserved.false)))
    ]
