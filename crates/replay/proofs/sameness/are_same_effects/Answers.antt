use Rattle.std.proofs.lemmas.Slice.Eq.{slice_eq-Decides}
use Rattle.replay.proofs.Alike.{effect_decides}
use Rattle.replay.proofs.sameness.are_same_effects.Goals as goal

pub returns : goal.returns
returns c = slice_eq-Decides effect_decides _ _ _ c.eq.ensures
