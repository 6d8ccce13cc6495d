use Rattle.std.proofs.Common.{◌≡◌, ◌∙◌, ◌+◌, ◌++◌, [], List, ap, length, subst}
use Rattle.std.specs.List.{flat_map}
use Rattle.client_threads.specs.Boards.{AreAllBelow, KeeperSeen, resting_keeper}
use Rattle.client_threads.specs.Lanes.{own_of}
use Rattle.client_threads.specs.Settling.{StillSeen}
use Rattle.client_threads.proofs.Gathering.{gathered_all}
use Rattle.client_threads.proofs.still.StillBroker.settle.Goals as goal

pub returns-clause-only : goal.returns-clause-only
returns-clause-only g c =
    let front = c.args.front in
    let left = c.held.inside.keeper.left in
    let one : c.collect.new.keeper ≡ record (resting_keeper g.B.Room.board left) { share = 0 + front.share; own = [] ++ front.own } =
    c.collect.ensures.keeper ∙ ap (λ (k : KeeperSeen). record k { share = k.share + front.share; own = k.own ++ front.own }) c.held.invariant.0 in
    let left_is : c.held.inside.keeper.left ≡ c.args.self.left = ap (λ h. h.left) c.held.view_is ∙ ap (λ (s : StillSeen). s.left) c.self.view_is in
    subst (λ l. AreAllBelow (length l) (front.own ++ flat_map own_of c.args.lanes.items)) left_is
    (gathered_all g.B.Room.board left front c.args.lanes.items c.collect.new.keeper c.settle_in_rooms.new.keeper c.requires.complete.shares one c.settle_in_rooms.ensures.gathered c.settle_in_rooms.ensures.knows)
