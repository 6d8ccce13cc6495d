-- The first lane that is the queue's is its lane.
use Rattle.std.proofs.Common.{sym, ◌∙◌, arith}
use Rattle.picture.proofs.Walks.{place_here, place_later, place_end}
use Rattle.picture.proofs.lanes.place_of.Goals as goal

pub returns-then-is_lane_of : goal.returns-then-is_lane_of
returns-then-is_lane_of c =
    sym (c.lanes.invariant ∙ place_here c.args.queue c.lanes.index c.args.lanes.now _ (omega arith) (sym c.is_lane_of.ensures ∙ c.if-is_lane_of.true))

pub lanes-preserved : goal.lanes-preserved
lanes-preserved c =
    c.lanes.invariant ∙ place_later c.args.queue c.lanes.index c.args.lanes.now _ (omega arith) (sym c.is_lane_of.ensures ∙ c.if-is_lane_of.false)

pub returns : goal.returns
returns c = sym (c.lanes.invariant ∙ place_end c.args.queue c.lanes.index c.args.lanes.now (omega arith))
