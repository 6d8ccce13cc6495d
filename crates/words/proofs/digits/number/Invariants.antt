-- The number so far and the bytes left make the number of all.
use Rattle.std.proofs.Common.{◌≡◌, drop}
use Rattle.words.specs.Numbers.{number_from}
use Rattle.words.proofs.digits.number.Given as goal

abbrev pub invariant-loop-byte : goal.invariant-loop-byte
invariant-loop-byte l = number_from l.base l.number (drop l.byte-index l.word) ≡ number_from l.base 0 l.word
