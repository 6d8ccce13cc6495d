use Rattle.std.proofs.Common.{◌≡◌, ◌+◌, length}
use Rattle.hsail_reader.specs.Bytes.{closing_at}
use Rattle.hsail_reader.proofs.scan.closing.Given as goal

abbrev pub invariant-loop-rest : goal.invariant-loop-rest
invariant-loop-rest l =
    (closing_at l.length l.rest ≡ closing_at 0 l.bytes) × (l.length + length l.rest ≡ length l.bytes)

abbrev pub decreases-loop-rest : goal.decreases-loop-rest
decreases-loop-rest l = length l.rest
