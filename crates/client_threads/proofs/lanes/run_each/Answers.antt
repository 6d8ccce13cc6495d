use Rattle.std.proofs.Common.{rules, subst, slice_index_or}
use Rattle.client_threads.specs.Running.{IsLaneOf, KeepsOn}
use Rattle.client_threads.proofs.GoingOn.{at_place}
use Rattle.client_threads.proofs.lanes.run_each.Goals as goal

pub for_each_mut-requires-clause-accepts : goal.for_each_mut-requires-clause-accepts
for_each_mut-requires-clause-accepts g c κs within =
    λ i p lt is. let h : IsLaneOf g.B.Room.board c.args.broker.now p.now = at_place g.B.Room.board c.args.broker.now c.args.lanes.now i p.now c.requires.lanes lt is in search rules

pub returns : goal.returns
returns g c =
    λ place d lt. let k = (c.for_each_mut.ensures place d lt).1 in
    let call = k.call in
    let on : KeepsOn g.B.Room.opened g.B.Room.board c.args.broker.now k.argument.now k.after_call.now = search rules in
    subst (λ l. KeepsOn g.B.Room.opened g.B.Room.board c.args.broker.now (slice_index_or c.args.lanes.now place d) l) k.left (subst (λ l. KeepsOn g.B.Room.opened g.B.Room.board c.args.broker.now l k.after_call.now) k.argument_is on)
