use Rattle.std.proofs.Common.{◌≡◌, ◌+◌, ◌<◌, length}
use Rattle.hsail_reader.specs.Lexemes.{pieces_length}
use Rattle.hsail_reader.proofs.lexeme.pieces.Given as goal

abbrev pub invariant-loop-rest : goal.invariant-loop-rest
invariant-loop-rest l =
    (pieces_length 0 l.length l.rest ≡ pieces_length 0 1 l.bytes)
    × (l.length + length l.rest ≡ length l.bytes + 1) × (0 < l.length)

abbrev pub decreases-loop-rest : goal.decreases-loop-rest
decreases-loop-rest l = length l.rest
