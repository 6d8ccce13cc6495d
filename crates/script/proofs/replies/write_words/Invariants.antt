-- The words so far are written.
use Rattle.std.proofs.Common.{◌≡◌, ◌++◌, string_bytes, take, flat_map}
use Rattle.words.specs.Packets.{text_of_word}
use Rattle.script.proofs.replies.write_words.Given as goal

abbrev pub invariant-loop-word : goal.invariant-loop-word
invariant-loop-word l = string_bytes l.out ≡ string_bytes l.initial.out ++ flat_map text_of_word (take l.word-index l.words)
