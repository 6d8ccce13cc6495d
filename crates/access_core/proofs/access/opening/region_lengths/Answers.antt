-- What the next row holds is put behind what the rows before hold.
use Rattle.std.proofs.Common.{arith}
use Rattle.access_core.proofs.PolicyRows.{rows-next}
use Rattle.access_core.proofs.access.opening.region_lengths.Goals as goal

pub loop-before-preserved : goal.loop-before-preserved
loop-before-preserved = grind (arith, rows-next)
