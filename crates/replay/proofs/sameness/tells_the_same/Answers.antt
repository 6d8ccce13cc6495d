use Rattle.replay.proofs.Alike.{told-alike}
use Rattle.replay.proofs.sameness.tells_the_same.Goals as goal

pub returns : goal.returns
returns c =
    told-alike c.args.one.now c.args.other.now c.as_slice.result.now c.as_slice-2.result.now c.is_same_outcome.result c.are_same_effects.result
    c.is_same_outcome.ensures c.are_same_effects.ensures c.as_slice.ensures c.as_slice-2.ensures
