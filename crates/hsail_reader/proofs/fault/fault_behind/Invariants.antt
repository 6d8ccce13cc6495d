use Rattle.std.proofs.Common.{◌≡◌, ◌+◌, ◌≤◌, length}
use Rattle.hsail_reader.specs.Faults.{fault_at}
use Rattle.hsail_reader.proofs.fault.fault_behind.Given as goal

abbrev pub invariant-loop-rest : goal.invariant-loop-rest
invariant-loop-rest l =
    (fault_at l.line l.column l.rest l.cause ≡ fault_at 1 1 l.before l.cause)
    × (l.line + length l.rest ≤ length l.before + 1) × (l.column + length l.rest ≤ length l.before + 1)

abbrev pub decreases-loop-rest : goal.decreases-loop-rest
decreases-loop-rest l = length l.rest
