use Rattle.kernel_check.proofs.LayoutLemmas.{wide_ascends}
use Rattle.kernel_check.proofs.laws.law_wide_arguments_ascend.Goals as goal

pub returns : goal.returns
returns c = λ k. wide_ascends 0 k.arguments
