use Rattle.std.proofs.Common.{[]}
use Rattle.threads_load.proofs.Shares.{kept_shares}
use Rattle.threads_load.proofs.running.run_stage.Goals as goal

pub returns : goal.returns
returns g c = record {
  front = c.requires.front;
  ends = c.run_both-ends.ensures.ends;
  lanes = c.run_both-ends.ensures.lanes;
  settled = c.run_both-ends.ensures.settled [] c.requires.settled;
  shares = kept_shares c.args.stage.front c.args.stage.lanes.items c.run_both-ends.result.1.items c.run_both-ends.ensures.shares c.requires.shares;
}
