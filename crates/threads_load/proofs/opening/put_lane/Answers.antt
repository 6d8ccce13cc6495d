use Rattle.std.specs.Prelude.{is_ok}
use Rattle.threads_load.proofs.Belonging.{lane_put, one_lane_more}
use Rattle.threads_load.proofs.opening.put_lane.Goals as goal

pub returns : goal.returns
returns g c = record {
  lanes = one_lane_more g.B.Room.board c.args.broker.now (is_ok c.push.result) c.args.lanes.now.items c.push.new.self.items c.args.lane c.requires.lanes c.requires.lane c.push.ensures.items;
  put = lane_put c.push.result c.args.lanes.now.items c.push.new.self.items c.args.lane c.push.ensures.items;
}
