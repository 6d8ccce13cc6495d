-- The digits left are bytes where all are.
use Rattle.std.proofs.Common.{◌≡◌, length}
use Rattle.std.specs.Option.{is_some}
use Rattle.words.specs.Bytes.{bytes_word}
use Rattle.words.proofs.hexadecimal.are_bytes.Given as goal

abbrev pub invariant-loop-high : goal.invariant-loop-high
invariant-loop-high l = is_some (bytes_word l.word) ≡ is_some (bytes_word l.rest)

abbrev pub decreases-loop-high : goal.decreases-loop-high
decreases-loop-high l = length l.rest
