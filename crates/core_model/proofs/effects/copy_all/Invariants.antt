-- The changes so far were copied.
use Rattle.std.proofs.Common.{◌≡◌, take}
use Rattle.core_model.proofs.effects.copy_all.Given as goal

abbrev pub invariant-loop-effect : goal.invariant-loop-effect
invariant-loop-effect l = l.copies.items ≡ take l.effect-index l.effects
