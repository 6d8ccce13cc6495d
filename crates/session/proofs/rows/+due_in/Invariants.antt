use Rattle.std.specs.Prelude.{length}
use Rattle.session.proofs.rows.+due_in.Given as goal

abbrev pub decreases-due_in : goal.decreases-due_in
decreases-due_in l = length l.rows.now
