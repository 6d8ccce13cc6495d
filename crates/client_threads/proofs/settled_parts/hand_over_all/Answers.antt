use Rattle.std.proofs.Common.{rules, ◌≡◌, ◌∙◌, ◌<◌, arith, length}
use Rattle.client_threads.proofs.HandingOver.{all_handed, handed_next}
use Rattle.client_threads.proofs.settled_parts.hand_over_all.Goals as goal

pub loop-place-preserved : goal.loop-place-preserved
loop-place-preserved c =
    let lt : c.loop-place.place < length c.args.lanes.now.items = search rules in
    handed_next c.args.lanes.now.items c.loop-place.lanes.items c.loop-place.place c.index_mut.result.now c.hand_over.new.self lt c.loop-place.invariant c.index_mut.ensures.value c.hand_over.ensures

pub returns : goal.returns
returns c = c.loop-place.invariant ∙ all_handed c.loop-place.place c.args.lanes.now.items (omega arith)
