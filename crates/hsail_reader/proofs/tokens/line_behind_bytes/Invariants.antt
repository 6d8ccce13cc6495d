use Rattle.std.proofs.Common.{◌≡◌, ◌+◌, ◌≤◌, length}
use Rattle.hsail_reader.specs.TextTokens.{line_after}
use Rattle.hsail_reader.proofs.tokens.line_behind_bytes.Given as goal

abbrev pub invariant-loop-rest : goal.invariant-loop-rest
invariant-loop-rest l =
    (line_after l.reached l.rest ≡ line_after l.line l.bytes)
    × (l.reached + length l.rest ≤ l.line + length l.bytes)

abbrev pub decreases-loop-rest : goal.decreases-loop-rest
decreases-loop-rest l = length l.rest
