-- The bytes so far are the begin of the first word, and the number so far is theirs.
use Rattle.std.proofs.Common.{◌≡◌, drop, take, Some}
use Rattle.words.specs.Lines.{words, words_from}
use Rattle.words.specs.Numbers.{number_from}
use Rattle.words.proofs.numbers.split_decimal.Given as goal

abbrev pub invariant-loop-index : goal.invariant-loop-index
invariant-loop-index l =
    (words_from (take l.index l.text) (drop l.index l.text) ≡ words l.text) × (number_from 10 0 (take l.index l.text) ≡ Some l.number)
