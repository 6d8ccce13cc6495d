use Rattle.replay.proofs.Alike.{rows-alike}
use Rattle.replay.proofs.rows.is_same_rows.Goals as goal

pub returns : goal.returns
returns c = rows-alike c.args.one.now c.args.other.now c.eq.result c.eq.ensures
