-- The two follow each other where the test says so.
use Rattle.std.proofs.Common.{refl}
use Rattle.core_model.proofs.part.join.Goals as goal

pub returns-in-Ok : goal.returns-in-Ok
returns-in-Ok c = (c.is_followed_by.ensures.0 c.if-not-is_followed_by.false, c.joined.ensures)

pub returns-in-Err : goal.returns-in-Err
returns-in-Err c = (c.is_followed_by.ensures.0 c.if-not-is_followed_by.false, refl, refl)
