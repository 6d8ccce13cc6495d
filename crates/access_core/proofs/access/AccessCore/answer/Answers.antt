-- The audit's entries are answered as they are.
use Rattle.std.proofs.Common.{arith}
use Rattle.core_model.specs.Queries.{query_answer}
use Rattle.access_core.proofs.access.AccessCore.answer.Goals as goal

pub returns-in-Ok : goal.returns-in-Ok
unfolding query_answer
returns-in-Ok = grind arith

pub returns-in-Err : goal.returns-in-Err
unfolding query_answer
returns-in-Err = grind arith
