-- so far what the rows before hold is there
use Rattle.std.proofs.Common.{◌≡◌, map, take}
use Rattle.access_core.proofs.access.opening.region_lengths.Given as goal

abbrev pub invariant-loop-before : goal.invariant-loop-before
invariant-loop-before l = l.lengths ≡ map (λ row. row.1) (take l.before l.policy.regions)
