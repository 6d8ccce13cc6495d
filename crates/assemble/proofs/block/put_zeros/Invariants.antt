-- The zeros so far stand behind the bytes.
use Rattle.std.proofs.Common.{◌≡◌, ◌++◌}
use Rattle.assemble.specs.Blocks.{zeros}
use Rattle.assemble.proofs.block.put_zeros.Given as goal

abbrev pub invariant-zeros : goal.invariant-zeros
invariant-zeros l = l.block.items ≡ l.fn.block.items ++ zeros l.done
