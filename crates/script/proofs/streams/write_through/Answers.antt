use Rattle.std.proofs.Common.{◌∙◌, refl}
use Rattle.script.proofs.Writing.{kept_all, pieces_begin, pieces_more, pieces_stop}
use Rattle.script.proofs.streams.write_through.Goals as goal

pub returns-in-None-clause-begun : goal.returns-in-None-clause-begun
returns-in-None-clause-begun g c = pieces_stop _ _ _ _ c.split_at.result.1.now c.loop.taken c.loop.invariant.1 c.in-None.ensures.taken

pub loop-preserved : goal.loop-preserved
loop-preserved g c =
    let more = pieces_more _ _ _ c.args.bytes.now c.split_at.result.1.now c.loop.taken c.in-Some.count c.loop.invariant.0 c.loop.invariant.1 c.split_at.ensures.back c.in-Some.ensures.taken in
    (more.0, more.1, c.in-Some.ensures.noted ∙ c.loop.invariant.2)

pub returns-clause-begun : goal.returns-clause-begun
returns-clause-begun g c = pieces_begin _ _ _ c.loop.taken (kept_all _ _ _ _ _ refl c.loop.invariant.1 c.give_up.ensures.kept)
