use Rattle.std.proofs.Common.{◌≡◌, [], List, rules, subst, sym}
use Rattle.std.specs.Prelude.{All}
use Rattle.client_threads.specs.Rings.{QueueRing}
use Rattle.client_threads.specs.Running.{IsEndOf, IsLaneOf}
use Rattle.client_threads.proofs.HandingOver.{keeps_all_settled}
use Rattle.threads_load.proofs.Belonging.{none_keep}
use Rattle.threads_load.proofs.Planned.{is_ready}
use Rattle.threads_load.proofs.Produced.{none_unused}
use Rattle.threads_load.specs.Stages.{IsLoadRing}
use Rattle.threads_load.proofs.Shares.{first_shares, section_share, still_shares}
use Rattle.threads_load.proofs.opening.open_stage.Goals as goal

pub returns-clause-stage : goal.returns-clause-stage
returns-clause-stage g c =
    let none : c.new-lanes.result.items ≡ [] = search rules in
    record {
      front = c.look_alone.ensures.front;
      ends = subst (λ (rings : List QueueRing). All (λ end. IsEndOf rings end) c.open_queues.new.ends.items) (sym c.look_alone.ensures.rings) c.in_ok-open_queues.ensures.ends;
      lanes = subst (λ (rings : List QueueRing). All (λ lane. IsLaneOf g.B.Room.board rings lane) c.open_queues.new.lanes.items) (sym c.look_alone.ensures.rings) c.in_ok-open_queues.ensures.lanes;
      shares = still_shares c.open_queues.new.front c.look_alone.new.front c.open_queues.new.lanes.items (section_share g.B.Room.opened c.open_queues.new.front c.look_alone.new.front c.look_alone.ensures.section) c.in_ok-open_queues.ensures.shares;
      settled = keeps_all_settled _ (c.in_ok-open_queues.ensures.keeps (none_keep c.new-lanes.result.items none));
    }

pub returns-clause-ready : goal.returns-clause-ready
returns-clause-ready g c = λ granted.
    let none : c.new-lanes.result.items ≡ [] = search rules in
    is_ready g.B.Room.opened c.args.plan.now c.args.front.left c.open_queues.new.front _ granted c.open_queues.ensures.begins c.in_ok-look_alone.ensures.section c.new-lanes.result.items none c.in_ok-open_queues.ensures.queues

pub open_queues-requires-clause-shares : goal.open_queues-requires-clause-shares
open_queues-requires-clause-shares g c =
    let none : c.new-lanes.result.items ≡ [] = search rules in
    first_shares c.args.front c.requires.1 c.new-lanes.result.items none

pub returns-clause-unused : goal.returns-clause-unused
returns-clause-unused g c =
    let none : c.new-ends.result.items ≡ [] = search rules in
    c.in_ok-open_queues.ensures.unused (none_unused c.new-ends.result.items none)

pub returns-clause-rings : goal.returns-clause-rings
returns-clause-rings g c = λ its. subst (λ (rings : List QueueRing). All (IsLoadRing c.args.producers) rings) (sym c.look_alone.ensures.rings) (c.in_ok-open_queues.ensures.rings its)
