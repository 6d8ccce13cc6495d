use Rattle.kernel_check.proofs.LawLemmas.{faithful}
use Rattle.kernel_check.proofs.OrderLemmas.{keeps_order}
use Rattle.kernel_check.proofs.laws.law_steps_are_faithful.Goals as goal

pub returns : goal.returns
returns c = record { faithful = faithful; order = keeps_order }
