-- The signals that the changes so far make 0 are noted.
use Rattle.std.proofs.Common.{◌≡◌, ◌++◌, take, flat_map}
use Rattle.picture.specs.Arrows.{zero_by}
use Rattle.picture.proofs.arrows.note_zeros.Given as goal

abbrev pub invariant-loop-effect : goal.invariant-loop-effect
invariant-loop-effect l = l.zeros.items ≡ l.fn.zeros.items ++ flat_map (zero_by l.spot) (take l.effect-index l.effects)
