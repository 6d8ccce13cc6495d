use Rattle.std.proofs.Common.{◌≡◌, take}
use Rattle.std.specs.List.{list_any}
use Rattle.policy.specs.declared.rights.Right.{Right}
use Rattle.policy.specs.Rules.{covers_right}
use Rattle.policy.specs.Rights.{has}
use Rattle.policy.proofs.coverage.covered.Given as goal

-- so far the set has the rights that some earlier row covers
abbrev pub invariant-loop-row : goal.invariant-loop-row
invariant-loop-row l = (right : Right) → has l.covered right ≡ list_any (covers_right l.client l.object right) (take l.row-index l.rows)
