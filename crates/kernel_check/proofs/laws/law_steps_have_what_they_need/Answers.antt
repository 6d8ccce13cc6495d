use Rattle.kernel_check.proofs.ExactLemmas.{keeps_all}
use Rattle.kernel_check.proofs.NeedLemmas.{nothing_is_left_out}
use Rattle.kernel_check.proofs.laws.law_steps_have_what_they_need.Goals as goal

pub returns : goal.returns
returns c = record { needed = nothing_is_left_out; all = keeps_all }
