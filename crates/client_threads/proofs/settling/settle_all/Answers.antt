use Rattle.std.proofs.Common.{◌≡◌, ◌++◌, List, length, rules, subst, sym, true, ap, ◌∙◌}
use Rattle.std.specs.List.{flat_map}
use Rattle.client_threads.specs.Boards.{AreAllBelow, FrontSeen}
use Rattle.access_core.specs.Cores.{Core}
use Rattle.client_threads.specs.Lanes.{LaneSeen, own_of}
use Rattle.client_threads.specs.Rings.{QueueRing}
use Rattle.client_threads.specs.Settling.{IsClosed, StillSeen, has_all_passes}
use Rattle.client_threads.specs.inner.Rooms.{AreReady, AreRoomy}
use Rattle.client_threads.proofs.Gathering.{closed_of}
use Rattle.client_threads.proofs.Readiness.{all_ready}
use Rattle.client_threads.proofs.settling.settle_all.Goals as goal

pub settle-requires-clause-ready : goal.settle-requires-clause-ready
settle-requires-clause-ready g c =
    let board = g.B.Room.board in
    let rings : c.end.new.self.rings ≡ c.args.broker = ap (λ (s : StillSeen). s.rings) c.end.ensures.same.0 ∙ c.of-broker.ensures in
    let same : c.end.new.lanes.items ≡ c.args.lanes.items = c.end.ensures.same.2 in
    let roomy : AreRoomy c.args.ends.items c.args.broker c.in-Ok.rooms.0.items = search rules in
    let complete : has_all_passes c.args.broker c.args.ends.items c.args.lanes.items ≡ true = search rules in
    subst (λ (rs : List QueueRing). AreReady c.args.ends.items c.end.new.lanes.items rs c.in-Ok.rooms.0.items c.args.ends.items c.end.new.lanes.items) (sym rings)
    (subst (λ (ls : List LaneSeen). AreReady c.args.ends.items ls c.args.broker c.in-Ok.rooms.0.items c.args.ends.items ls) (sym same)
    (all_ready board c.args.broker c.args.ends.items c.args.lanes.items c.requires.ends c.requires.lanes c.in-Ok.rooms.0.items (search rules) roomy complete))

pub returns-in-Ok-clause-closed : goal.returns-in-Ok-clause-closed
returns-in-Ok-clause-closed g c =
    let still : c.end.new.self ≡ c.of-broker.result = c.end.ensures.same.0 in
    let front : c.end.new.front ≡ c.args.front = c.end.ensures.same.1 in
    let lanes : c.end.new.lanes.items ≡ c.args.lanes.items = c.end.ensures.same.2 in
    let only : AreAllBelow (length c.of-broker.result.left) (c.args.front.own ++ flat_map own_of c.args.lanes.items) =
    subst (λ (s : StillSeen). AreAllBelow (length s.left) (c.args.front.own ++ flat_map own_of c.args.lanes.items)) still
    (subst (λ (f : FrontSeen). AreAllBelow (length c.end.new.self.left) (f.own ++ flat_map own_of c.args.lanes.items)) front
    (subst (λ (ls : List LaneSeen). AreAllBelow (length c.end.new.self.left) (c.end.new.front.own ++ flat_map own_of ls)) lanes c.settle.ensures.only)) in
    let core = c.settle.ensures.core ∙ ap (λ (s : StillSeen). s.core) still in
    subst (λ (k : Core). IsClosed g.B.Room.opened c.args.front c.args.lanes.items k) (sym core)
    (closed_of g.B.Room.opened c.of-broker.result.left c.args.front c.args.lanes.items c.of-broker.result.core c.end.ensures.end only)
