use Rattle.executor.proofs.ReadBytes.{same_result}
use Rattle.executor.proofs.laws.law_groups_read_where_they_may.Goals as goal

pub returns : goal.returns
returns c = λ input others alike. same_result input others alike
