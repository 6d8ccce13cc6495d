-- The bytes so far and the digits left make the bytes of all.
use Rattle.std.proofs.Common.{◌≡◌, ◌++◌, length}
use Rattle.std.specs.Prelude.{option_map}
use Rattle.words.specs.Bytes.{bytes_word}
use Rattle.words.proofs.hexadecimal.bytes.Given as goal

abbrev pub invariant-loop-high : goal.invariant-loop-high
invariant-loop-high l = bytes_word l.word ≡ option_map (λ further. l.read.items ++ further) (bytes_word l.rest)

abbrev pub decreases-loop-high : goal.decreases-loop-high
decreases-loop-high l = length l.rest
