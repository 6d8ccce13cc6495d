-- The bytes so far are written.
use Rattle.std.proofs.Common.{◌≡◌, ◌++◌, string_bytes, take}
use Rattle.words.specs.Bytes.{text_of_bytes}
use Rattle.words.proofs.hexadecimal.write_bytes.Given as goal

abbrev pub invariant-loop-byte : goal.invariant-loop-byte
invariant-loop-byte l = string_bytes l.out ≡ string_bytes l.fn.out ++ text_of_bytes (take l.byte-index l.bytes)
