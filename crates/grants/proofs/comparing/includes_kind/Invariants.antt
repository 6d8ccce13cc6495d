use Rattle.grants.specs.inner.Comparing.{IsIncluded}
use Rattle.grants.specs.inner.Reloading.{of_kind_up_to}
use Rattle.grants.proofs.comparing.includes_kind.Given as goal

-- the objects so far are included
abbrev pub invariant-loop-before : goal.invariant-loop-before
invariant-loop-before l = IsIncluded (of_kind_up_to l.client l.kind l.before) l.table l.other
