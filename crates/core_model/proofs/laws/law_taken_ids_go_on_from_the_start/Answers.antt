use Rattle.std.proofs.Common.{[]}
use Rattle.core_model.proofs.TakenIds.{count, ids}
use Rattle.core_model.proofs.laws.law_taken_ids_go_on_from_the_start.Goals as goal

pub returns-clause-ids : goal.returns-clause-ids
returns-clause-ids c = λ start entries queue place served legal found. ids start entries queue place served legal found

pub returns-clause-count : goal.returns-clause-count
returns-clause-count c = λ start entries queue unclosed. count start [] entries queue unclosed
