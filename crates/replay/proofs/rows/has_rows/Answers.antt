use Rattle.replay.proofs.Alike.{rows-had}
use Rattle.replay.proofs.rows.has_rows.Goals as goal

pub returns : goal.returns
returns c =
    rows-had c.args.declared.now c.args.policy.now c.args.rows.now c.rows.result.now c.declares_as.result c.is_same_rows.result c.declares_as.ensures c.is_same_rows.ensures c.rows.ensures.rows
