use Rattle.std.proofs.Common.{◌≡◌, ◌+◌, length}
use Rattle.hsail_reader.specs.Bytes.{behind}
use Rattle.hsail_reader.proofs.scan.strip.Given as goal

abbrev pub invariant-loop-wanted : goal.invariant-loop-wanted
invariant-loop-wanted l =
    (behind l.wanted l.rest ≡ behind l.front l.bytes)
    × (length l.rest + length l.front ≡ length l.bytes + length l.wanted)

abbrev pub decreases-loop-wanted : goal.decreases-loop-wanted
decreases-loop-wanted l = length l.wanted
