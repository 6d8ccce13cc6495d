-- The changes so far are written.
use Rattle.std.proofs.Common.{◌≡◌, ◌++◌, string_bytes, take, flat_map}
use Rattle.picture.specs.Words.{words_of_effect}
use Rattle.picture.proofs.said.write_effects.Given as goal

abbrev pub invariant-loop-effect : goal.invariant-loop-effect
invariant-loop-effect l = string_bytes l.out ≡ string_bytes l.fn.out ++ flat_map (words_of_effect l.policy) (take l.effect-index l.effects)
