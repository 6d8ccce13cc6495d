use Rattle.std.proofs.Common.{◌≡◌, ◌∙◌, ◌+◌, ◌++◌, ◌∷◌, [], List, sym, ap, subst, arith}
use Rattle.std.specs.Prelude.{All}
use Rattle.client_threads.specs.Boards.{FrontSeen, KeeperSeen}
use Rattle.client_threads.specs.Lanes.{LaneSeen}
use Rattle.client_threads.specs.inner.Gatherings.{HasGathered, IsOnBoard}
use Rattle.client_threads.proofs.Gathering.{all_behind, first_sums, gathered_both, gathered_one, none_left}
use Rattle.client_threads.proofs.settling.collect_all.Goals as goal

pub loop-lane-preserved : goal.loop-lane-preserved
loop-lane-preserved c =
    let lane : LaneSeen = c.in-Some.lane in
    let rest : List LaneSeen = c.next.new.self.rest.items in
    let before = c.loop-lane.keeper in
    let front : c.into_front.result ≡ lane.front = c.into_front.ensures in
    let is : c.loop-lane.lane-iterator.rest.items ≡ lane ∷ rest = c.in-Some.ensures.steps.0 in
    let got : c.collect.new.keeper ≡ record before { share = before.share + lane.front.share; own = before.own ++ lane.front.own } =
    c.collect.ensures.keeper ∙ ap (λ (f : FrontSeen). record before { share = before.share + f.share; own = before.own ++ f.own }) front in
    let one : HasGathered before (lane ∷ rest) c.collect.new.keeper rest = gathered_one before c.collect.new.keeper (lane ∷ rest) rest lane (first_sums lane rest) got in (
      gathered_both c.args.keeper.now c.args.lanes.items before (lane ∷ rest) c.collect.new.keeper rest (subst (λ (ls : List LaneSeen). HasGathered c.args.keeper.now c.args.lanes.items before ls) is c.loop-lane.invariant.0) one,
      c.collect.ensures.all,
      ap (λ (k : KeeperSeen). k.board) got ∙ c.loop-lane.invariant.2,
      all_behind c.args.board.now lane rest (subst (λ (ls : List LaneSeen). All (IsOnBoard c.args.board.now) ls) is c.loop-lane.invariant.3),
    )

pub collect-requires : goal.collect-requires
collect-requires c =
    let lane : LaneSeen = c.in-Some.lane in
    let rest : List LaneSeen = c.next.new.self.rest.items in
    let is : c.loop-lane.lane-iterator.rest.items ≡ lane ∷ rest = c.in-Some.ensures.steps.0 in
    let all : All (IsOnBoard c.args.board.now) (lane ∷ rest) = subst (λ (ls : List LaneSeen). All (IsOnBoard c.args.board.now) ls) is c.loop-lane.invariant.3 in
    (c.loop-lane.invariant.2, ap (λ (f : FrontSeen). f.board) c.into_front.ensures ∙ all 0 lane (omega arith))

pub returns-clause-gathered : goal.returns-clause-gathered
returns-clause-gathered c =
    let none : [] ≡ c.loop-lane.lane-iterator.rest.items = none_left c.loop-lane.lane-iterator.rest.items (sym c.in-None.ensures.steps.0 ∙ c.loop-lane.lane-iterator.rest.ok.0) in
    subst (λ (ls : List LaneSeen). HasGathered c.args.keeper.now c.args.lanes.items c.loop-lane.keeper ls) (sym none) c.loop-lane.invariant.0
