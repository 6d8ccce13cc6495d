-- There are as many values as were put.
use Rattle.std.proofs.Common.{◌≡◌, length}
use Rattle.assemble.proofs.named.no_values.Given as goal

abbrev pub invariant-values : goal.invariant-values
invariant-values l = length l.values.items ≡ l.done
