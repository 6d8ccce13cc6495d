-- The words of each item so far fit.
use Rattle.std.proofs.Common.{◌≡◌, true, take}
use Rattle.std.specs.List.{list_all}
use Rattle.packed_journal.specs.Readings.{fit}
use Rattle.packed_journal.specs.Entries.{words_of_effect}
use Rattle.packed_journal.proofs.fitting.each_effect_fits.Given as goal

abbrev pub invariant-loop-effect : goal.invariant-loop-effect
invariant-loop-effect l = list_all (λ x. fit (words_of_effect x)) (take l.effect-index l.effects) ≡ true
