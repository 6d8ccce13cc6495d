use Rattle.std.proofs.Common.{arith}
use Rattle.kernel_check.proofs.FlatLemmas.{all_before}
use Rattle.kernel_check.proofs.flattening.flat_steps.Goals as goal

pub returns : goal.returns
returns c = all_before c.steps.flats.items c.args.steps.now c.steps.step-index (omega arith) c.steps.invariant
