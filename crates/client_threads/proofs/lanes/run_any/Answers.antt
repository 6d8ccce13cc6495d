use Rattle.std.proofs.Common.{rules, ◌≡◌, length, subst, List}
use Rattle.client_threads.specs.Lanes.{LaneSeen}
use Rattle.client_threads.specs.Running.{EachGoesOn}
use Rattle.client_threads.proofs.GoingOn.{put_back}
use Rattle.client_threads.proofs.lanes.run_any.Goals as goal

pub returns-then-len-gt0-clause-each : goal.returns-then-len-gt0-clause-each
returns-then-len-gt0-clause-each g c =
    let own : c.as_mut_slice.result.now ≡ c.args.lanes.items = search rules in
    let each : EachGoesOn g.B.Room.opened g.B.Room.board c.args.broker.now c.as_mut_slice.result.now c.run_each.new.lanes = c.run_each.ensures in
    let count : c.args.lanes.len ≡ length c.run_each.new.lanes = search rules in
    put_back g.B.Room.opened g.B.Room.board c.args.broker.now c.args.lanes.len c.args.lanes.items c.run_each.new.lanes _ count
    (subst (λ (xs : List LaneSeen). EachGoesOn g.B.Room.opened g.B.Room.board c.args.broker.now xs c.run_each.new.lanes) own each)
