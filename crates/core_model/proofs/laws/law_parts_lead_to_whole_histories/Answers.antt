use Rattle.core_model.proofs.Handed.{lead_to-whole}
use Rattle.core_model.proofs.laws.law_parts_lead_to_whole_histories.Goals as goal

pub returns : goal.returns
returns c = λ kernels parts origin entries legal lead own. lead_to-whole kernels parts origin entries legal lead own
