-- The changes so far are written behind their count.
use Rattle.std.proofs.Common.{◌≡◌, ◌++◌, ◌∷◌, string_bytes, take, length}
use Rattle.std.specs.Prelude.{flat_map}
use Rattle.journal.specs.Words.{Number, behind_blanks}
use Rattle.journal.specs.Entries.{words_of_effect}
use Rattle.journal.proofs.writing.write_effects.Given as goal

abbrev pub invariant-loop-effect : goal.invariant-loop-effect
invariant-loop-effect l =
    string_bytes l.out ≡ string_bytes l.fn.out ++ behind_blanks (Number 64 (length l.effects) ∷ flat_map words_of_effect (take l.effect-index l.effects))
