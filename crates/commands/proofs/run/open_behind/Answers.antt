-- The further policies are read, or one of them isn't.
use Rattle.std.proofs.Common.{Ok, Err, refl}
use Rattle.commands.proofs.run.open_behind.Goals as goal

pub returns-in-Ok : goal.returns-in-Ok
returns-in-Ok c = (Ok c.in-Ok.later, c.in-Ok.ensures.passed, refl)

pub returns-in-Err : goal.returns-in-Err
returns-in-Err c = (Err c.in-Err.fault.why, c.in-Err.ensures.refused, (c.saturating_add.result, rw c.of_reading.ensures refl))
