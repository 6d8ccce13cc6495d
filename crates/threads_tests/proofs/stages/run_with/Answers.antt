use Rattle.std.proofs.Common.{[]}
use Rattle.threads_load.proofs.Shares.{kept_shares, ran_keep}
use Rattle.threads_tests.proofs.stages.run_with.Goals as goal

pub returns : goal.returns
returns g c = record {
  front = c.requires.front;
  ends = c.requires.ends;
  lanes = c.run_lanes-lanes.ensures.lanes;
  settled = c.run_lanes-lanes.ensures.settled [] c.requires.settled;
  shares = kept_shares c.args.stage.front c.args.stage.lanes.items c.run_lanes-lanes.result.items (ran_keep c.args.stage.lanes.items c.run_lanes-lanes.result.items c.run_lanes-lanes.ensures.count c.run_lanes-lanes.ensures.shares) c.requires.shares;
}
