-- The changes so far are written behind their count.
use Rattle.std.proofs.Common.{◌≡◌, ◌++◌, ◌∷◌, take, length}
use Rattle.std.specs.Prelude.{flat_map}
use Rattle.packed_journal.specs.Words.{Number}
use Rattle.packed_journal.specs.Readings.{bytes_of}
use Rattle.packed_journal.specs.Entries.{words_of_effect}
use Rattle.packed_journal.proofs.entry_writing.write_effects.Given as goal

abbrev pub invariant-loop-effect : goal.invariant-loop-effect
invariant-loop-effect l = l.out.items ≡ l.fn.out.items ++ bytes_of (Number 64 (length l.effects) ∷ flat_map words_of_effect (take l.effect-index l.effects))
