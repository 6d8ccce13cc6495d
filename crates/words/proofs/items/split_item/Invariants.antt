-- The bytes so far belong to the first item.
use Rattle.std.proofs.Common.{◌≡◌, take, drop, []}
use Rattle.words.specs.Items.{items_from}
use Rattle.words.proofs.items.split_item.Given as goal

abbrev pub invariant-loop-index : goal.invariant-loop-index
invariant-loop-index l = items_from (take l.index l.word) (drop l.index l.word) ≡ items_from [] l.word
