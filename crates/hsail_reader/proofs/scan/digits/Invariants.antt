use Rattle.std.proofs.Common.{◌≡◌, ◌+◌, length}
use Rattle.hsail_reader.specs.Bytes.{digits_at}
use Rattle.hsail_reader.proofs.scan.digits.Given as goal

abbrev pub invariant-loop-rest : goal.invariant-loop-rest
invariant-loop-rest l =
    (digits_at l.radix l.total l.length l.rest ≡ digits_at l.radix l.value l.before l.bytes)
    × (l.length + length l.rest ≡ l.before + length l.bytes)

abbrev pub decreases-loop-rest : goal.decreases-loop-rest
decreases-loop-rest l = length l.rest
