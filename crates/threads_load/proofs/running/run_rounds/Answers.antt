use Rattle.std.proofs.Common.{rules, ◌≡◌, ◌∙◌, true, List}
use Rattle.std.specs.Prelude.{All}
use Rattle.core_model.specs.History.{Part}
use Rattle.core_model.specs.Legal.{IsLegalPart}
use Rattle.core_model.specs.Rotation.{entries_in}
use Rattle.client_threads.proofs.Fronts.{prefix_trans}
use Rattle.threads_load.specs.Counts.{AreCounts}
use Rattle.threads_load.proofs.Handing.{none_was, with_none}
use Rattle.threads_load.proofs.Shares.{keep_both}
use Rattle.threads_load.proofs.running.run_rounds.Goals as goal

pub hand_out-handed_out-requires-clause-settled : goal.hand_out-handed_out-requires-clause-settled
hand_out-handed_out-requires-clause-settled g c = c.run_all-lanes.ensures.settled c.loop-round.settled c.loop-round.invariant.4

pub loop-round-preserved : goal.loop-round-preserved
loop-round-preserved g c =
    let went : c.goes_on.result ≡ true = search rules in (
      c.hand_out-handed_out.ensures.front,
      prefix_trans c.args.front.now.left c.loop-round.front.left c.hand_out-handed_out.new.front.left c.loop-round.invariant.1 c.hand_out-handed_out.ensures.begins,
      c.hand_out-handed_out.ensures.lanes,
      λ queues are. c.hand_out-handed_out.ensures.queues queues (c.run_all-lanes.ensures.queues queues (c.loop-round.invariant.3 queues are)),
      c.hand_out-handed_out.ensures.settled,
      c.hand_out-handed_out.ensures.parts,
      c.hand_out-handed_out.ensures.share ∙ c.loop-round.invariant.6,
      keep_both c.args.lanes.items c.run_all-lanes.result.items c.hand_out-handed_out.new.lanes.items (keep_both c.args.lanes.items c.loop-round.lanes.items c.run_all-lanes.result.items c.loop-round.invariant.7 c.run_all-lanes.ensures.shares) c.hand_out-handed_out.ensures.shares,
      λ queues are. none_was (λ (ps : List Part). AreCounts (entries_in ps) queues c.hand_out-handed_out.new.counts.items) c.hand_out-handed_out.new.settled c.hand_out-handed_out.result (c.goes_on.ensures went)
          (c.hand_out-handed_out.ensures.counts queues (c.loop-round.invariant.8 queues are)),
    )

pub returns-then-not-begin_next-clause-left : goal.returns-then-not-begin_next-clause-left
returns-then-not-begin_next-clause-left g c = with_none (λ (ps : List Part). All (IsLegalPart g.B.Room.opened.history.kernels) ps) c.loop-round.settled c.loop-round.invariant.5

pub returns-then-not-begin_next-clause-counts : goal.returns-then-not-begin_next-clause-counts
returns-then-not-begin_next-clause-counts g c = λ queues are. with_none (λ (ps : List Part). AreCounts (entries_in ps) queues c.loop-round.counts.items) c.loop-round.settled (c.loop-round.invariant.8 queues are)

pub returns-clause-left : goal.returns-clause-left
returns-clause-left g c = with_none (λ (ps : List Part). All (IsLegalPart g.B.Room.opened.history.kernels) ps) c.loop-round.settled c.loop-round.invariant.5

pub returns-clause-counts : goal.returns-clause-counts
returns-clause-counts g c = λ queues are. with_none (λ (ps : List Part). AreCounts (entries_in ps) queues c.loop-round.counts.items) c.loop-round.settled (c.loop-round.invariant.8 queues are)

pub returns-then-not-goes_on-clause-begins : goal.returns-then-not-goes_on-clause-begins
returns-then-not-goes_on-clause-begins g c = prefix_trans c.args.front.now.left c.loop-round.front.left c.hand_out-handed_out.new.front.left c.loop-round.invariant.1 c.hand_out-handed_out.ensures.begins

pub returns-then-not-goes_on-clause-counts : goal.returns-then-not-goes_on-clause-counts
returns-then-not-goes_on-clause-counts g c = λ queues are. c.hand_out-handed_out.ensures.counts queues (c.loop-round.invariant.8 queues are)

pub returns-then-not-begin_next-clause-queues : goal.returns-then-not-begin_next-clause-queues
returns-then-not-begin_next-clause-queues g c = λ queues are. c.run_all-lanes.ensures.queues queues (c.loop-round.invariant.3 queues are)

pub returns-then-not-goes_on-clause-queues : goal.returns-then-not-goes_on-clause-queues
returns-then-not-goes_on-clause-queues g c = λ queues are. c.hand_out-handed_out.ensures.queues queues (c.run_all-lanes.ensures.queues queues (c.loop-round.invariant.3 queues are))

pub returns-then-not-begin_next-clause-shares : goal.returns-then-not-begin_next-clause-shares
returns-then-not-begin_next-clause-shares g c = keep_both c.args.lanes.items c.loop-round.lanes.items c.run_all-lanes.result.items c.loop-round.invariant.7 c.run_all-lanes.ensures.shares

pub returns-then-not-goes_on-clause-shares : goal.returns-then-not-goes_on-clause-shares
returns-then-not-goes_on-clause-shares g c =
    keep_both c.args.lanes.items c.run_all-lanes.result.items c.hand_out-handed_out.new.lanes.items (keep_both c.args.lanes.items c.loop-round.lanes.items c.run_all-lanes.result.items c.loop-round.invariant.7 c.run_all-lanes.ensures.shares) c.hand_out-handed_out.ensures.shares
