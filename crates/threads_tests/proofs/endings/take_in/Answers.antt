use Rattle.std.proofs.Common.{List, sym, subst}
use Rattle.std.specs.Prelude.{All}
use Rattle.client_threads.specs.Rings.{QueueRing}
use Rattle.client_threads.specs.Running.{IsEndOf, IsLaneOf}
use Rattle.threads_load.proofs.Shares.{section_share, still_shares}
use Rattle.threads_tests.proofs.endings.take_in.Goals as goal

pub returns : goal.returns
returns g c =
    record {
      front = c.with_core_alone.ensures.front;
      ends = subst (λ (rings : List QueueRing). All (λ end. IsEndOf rings end) c.args.stage.now.ends.items) (sym c.with_core_alone.ensures.rings) c.requires.ends;
      lanes = subst (λ (rings : List QueueRing). All (λ lane. IsLaneOf g.B.Room.board rings lane) c.args.stage.now.lanes.items) (sym c.with_core_alone.ensures.rings) c.requires.lanes;
      settled = c.requires.settled;
      shares = still_shares c.args.stage.now.front c.with_core_alone.new.front c.args.stage.now.lanes.items (section_share g.B.Room.opened c.args.stage.now.front c.with_core_alone.new.front c.with_core_alone.ensures.section) c.requires.shares;
    }
