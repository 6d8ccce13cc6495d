-- No region is found in none.
use Rattle.std.proofs.Common.{subst, sym, arith}
use Rattle.executor.specs.inner.Places.{IsView}
use Rattle.executor.proofs.view.View.new.Goals as goal

pub invariant_of-result : goal.invariant_of-result
invariant_of-result c = subst IsView (sym c.new.ensures.items) (record { numbered = tt; few = λ number all. omega arith })
