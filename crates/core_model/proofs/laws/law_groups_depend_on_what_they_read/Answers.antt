use Rattle.core_model.proofs.Seeing.{same-group}
use Rattle.core_model.proofs.laws.law_groups_depend_on_what_they_read.Goals as goal

pub returns : goal.returns
returns c = λ start one other queue id own p so_far same. same-group start one other queue id own p so_far same
