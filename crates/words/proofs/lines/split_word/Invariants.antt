-- The bytes so far are the begin of the first word.
use Rattle.std.proofs.Common.{◌≡◌, drop, take}
use Rattle.words.specs.Lines.{words, words_from}
use Rattle.words.proofs.lines.split_word.Given as goal

abbrev pub invariant-loop-index : goal.invariant-loop-index
invariant-loop-index l = words_from (take l.index l.text) (drop l.index l.text) ≡ words l.text
