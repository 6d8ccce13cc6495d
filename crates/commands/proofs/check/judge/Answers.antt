use Rattle.commands.proofs.Judging.{judged, unread}
use Rattle.commands.proofs.check.judge.Goals as goal

pub returns-in-Ok : goal.returns-in-Ok
returns-in-Ok c = judged c.args.text.now c.in-Ok.policy c.checked.result c.in-Ok.ensures.declares c.checked.ensures

pub returns-in-Err : goal.returns-in-Err
returns-in-Err c = rw c.of_reading.ensures (unread c.args.text.now c.in-Err.why c.in-Err.ensures.refused)
