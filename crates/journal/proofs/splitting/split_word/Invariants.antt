-- The bytes so far belong to the first word.
use Rattle.std.proofs.Common.{◌≡◌, take, drop, []}
use Rattle.journal.specs.Words.{words_from}
use Rattle.journal.proofs.splitting.split_word.Given as goal

abbrev pub invariant-loop-index : goal.invariant-loop-index
invariant-loop-index l = words_from (take l.index l.text) (drop l.index l.text) ≡ words_from [] l.text
