use Rattle.std.proofs.lemmas.Result.{err_from_is_err_and}
use Rattle.world.proofs.TakeReplies.{take_answers, took}
use Rattle.world.proofs.lane.hand_over.Goals as goal

pub returns-in_err-answer : goal.returns-in_err-answer
returns-in_err-answer c =
    let p = err_from_is_err_and c.from_residual.result c.from_residual.ensures.1 in
    rw (p.1, p.2) c.in_err-answer.ensures

pub served_by-requires : goal.served_by-requires
served_by-requires c = take_answers _ _ _ _ c.in_ok-answer.ensures

pub returns : goal.returns
returns c = took _ _ _ _ _ c.served_by.ensures c.in_ok-answer.ensures
