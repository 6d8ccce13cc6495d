use Rattle.std.proofs.Common.{take}
use Rattle.grants.proofs.Terms.{IsFirstTo}
use Rattle.grants.specs.inner.Reloading.{has_denied}
use Rattle.grants.proofs.hold.first_denied.Given as goal

-- the first holder so far
abbrev pub invariant-loop-hold : goal.invariant-loop-hold
invariant-loop-hold l = IsFirstTo (has_denied l.rows (take l.hold-index l.holds)) l.first
