use Rattle.grants.specs.inner.Comparing.{IsIncluded}
use Rattle.grants.specs.inner.Reloading.{of_clients_up_to}
use Rattle.grants.proofs.comparing.includes_all.Given as goal

-- the clients so far are included
abbrev pub invariant-loop-before : goal.invariant-loop-before
invariant-loop-before l = IsIncluded (of_clients_up_to l.before) l.table l.other
