use Rattle.std.proofs.lemmas.Slice.Eq.{slice_eq-Decides}
use Rattle.core_model.proofs.Alike.{queue_origin_decides}
use Rattle.core_model.proofs.origin.are_same_queues.Goals as goal

pub returns : goal.returns
returns c = slice_eq-Decides queue_origin_decides _ _ _ c.eq.ensures
