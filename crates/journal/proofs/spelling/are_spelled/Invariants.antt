-- The digits left are those of the bytes left just where all are those of all.
use Rattle.std.proofs.Common.{◌≡◌, drop}
use Rattle.std.specs.Prelude.{bytes_eq}
use Rattle.journal.specs.Words.{text_of_bytes}
use Rattle.journal.proofs.spelling.are_spelled.Given as goal

abbrev pub invariant-loop-byte : goal.invariant-loop-byte
invariant-loop-byte l = bytes_eq l.told (text_of_bytes l.bytes) ≡ bytes_eq l.rest (text_of_bytes (drop l.byte-index l.bytes))
