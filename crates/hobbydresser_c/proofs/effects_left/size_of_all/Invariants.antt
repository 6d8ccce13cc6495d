-- The size so far is that of the changes so far.
use Rattle.std.proofs.Common.{◌≡◌, length, take}
use Rattle.hobbydresser_c.specs.Effects.{all_laid_out, size_told}
use Rattle.hobbydresser_c.proofs.effects_left.size_of_all.Given as goal

abbrev pub invariant-effects : goal.invariant-effects
invariant-effects l = l.size ≡ size_told (length (all_laid_out (take l.place l.effects)))
