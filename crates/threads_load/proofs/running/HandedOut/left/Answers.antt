use Rattle.threads_load.proofs.Handing.{left_listed}
use Rattle.threads_load.proofs.running.HandedOut.left.Goals as goal

pub returns : goal.returns
returns c = left_listed c.args.self.now.left c.as_slice.result.now c.as_slice.ensures
