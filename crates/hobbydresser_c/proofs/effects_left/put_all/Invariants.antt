-- The changes so far are laid, and those bytes after them are as before.
use Rattle.std.proofs.Common.{◌≡◌, ◌++◌, drop, length, take}
use Rattle.hobbydresser_c.specs.Effects.{all_laid_out}
use Rattle.hobbydresser_c.proofs.effects_left.put_all.Given as goal

abbrev pub invariant-effects : goal.invariant-effects
invariant-effects l =
    (l.at ≡ length (all_laid_out (take l.place l.effects)))
    × (l.out ≡ all_laid_out (take l.place l.effects) ++ drop (length (all_laid_out (take l.place l.effects))) l.initial.out)
