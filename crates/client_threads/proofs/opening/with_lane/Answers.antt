use Rattle.std.proofs.Common.{◌≡◌, ◌∙◌, List, ap, subst, sym}
use Rattle.std.specs.Prelude.{IfOk}
use Rattle.client_threads.specs.Boards.{FrontSeen, fresh_of}
use Rattle.client_threads.specs.Lanes.{LaneSeen}
use Rattle.client_threads.specs.Opening.{IsOpened, new_lane}
use Rattle.client_threads.proofs.opening.with_lane.Goals as goal

pub returns-in-Ok-clause-opened : goal.returns-in-Ok-clause-opened
returns-in-Ok-clause-opened c = λ old new size producers made.
    let queue = c.in-Ok.queue in
    let front : FrontSeen = fresh_of c.again.new.front in
    let same : c.again.result ≡ front = c.again.ensures.1 ∙ sym (ap fresh_of c.again.ensures.0) in
    let lane : c.lane_of-lane.result ≡ new_lane queue c.in-Ok.pass front = c.lane_of-lane.ensures ∙ ap (new_lane queue c.in-Ok.pass) same in
    subst (λ (l : LaneSeen). IsOpened old size producers front queue c.in-Ok.ends.items l new) (sym lane)
    (subst (λ r. IfOk r (λ o. IsOpened old size producers front o.0 o.1.items (new_lane o.0 o.2 front) new)) c.in-Ok.is (made front))
