-- There are as many values as arguments.
use Rattle.std.proofs.Common.{◌≡◌, length}
use Rattle.assemble.proofs.named.read_named.Given as goal

abbrev pub invariant-words : goal.invariant-words
invariant-words l = length l.values.items ≡ length l.shape.arguments
