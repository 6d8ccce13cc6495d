use Rattle.std.proofs.Common.{rules, append_assoc}
use Rattle.assemble.proofs.Blocks.{zeros_none, zeros_more}
use Rattle.assemble.proofs.block.put_zeros.Goals as goal

pub zeros-init : goal.zeros-init
zeros-init c = rw zeros_none (search rules)

pub zeros-preserved : goal.zeros-preserved
zeros-preserved c = rw (zeros_more c.zeros.done) (search (rules, append_assoc))
