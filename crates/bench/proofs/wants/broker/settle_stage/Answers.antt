use Rattle.std.proofs.Common.{◌≡◌, List, [], sym, subst, ap, ◌∙◌}
use Rattle.std.specs.Prelude.{All}
use Rattle.client_threads.specs.declared.client_end.ClientEnd.{ClientEnd}
use Rattle.client_threads.specs.Boards.{FrontSeen}
use Rattle.client_threads.specs.HandedOver.{AreSettledWith}
use Rattle.client_threads.specs.Lanes.{LaneSeen}
use Rattle.client_threads.specs.Rings.{QueueRing}
use Rattle.client_threads.specs.Running.{IsEndOf, IsLaneOf}
use Rattle.threads_load.specs.Stages.{HaveShares}
use Rattle.bench.proofs.wants.broker.settle_stage.Goals as goal

pub returns : goal.returns
returns g c =
    let back = c.in-Err.ensures.back in
    let rings : c.again.result ≡ c.args.stage.broker = c.again.ensures ∙ back.0 in
    record {
      front = ap (λ (f : FrontSeen). f.board) back.1 ∙ c.requires.front;
      ends = subst (λ (rings : List QueueRing). All (λ end. IsEndOf rings end) c.in-Err.back.ends.items) (sym rings)
          (subst (λ (ends : List ClientEnd). All (λ end. IsEndOf c.args.stage.broker end) ends) (sym back.2) c.requires.ends);
      lanes = subst (λ (rings : List QueueRing). All (λ lane. IsLaneOf g.B.Room.board rings lane) c.in-Err.back.lanes.items) (sym rings)
          (subst (λ (lanes : List LaneSeen). All (λ lane. IsLaneOf g.B.Room.board c.args.stage.broker lane) lanes) (sym back.3) c.requires.lanes);
      settled = subst (λ (lanes : List LaneSeen). AreSettledWith [] lanes) (sym back.3) c.requires.settled;
      shares = subst (λ (f : FrontSeen). HaveShares f c.in-Err.back.lanes.items) (sym back.1) (subst (HaveShares c.args.stage.front) (sym back.3) c.requires.shares);
    }
