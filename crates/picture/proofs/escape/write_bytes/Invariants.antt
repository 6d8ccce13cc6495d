-- The bytes so far are written.
use Rattle.std.proofs.Common.{◌≡◌, ◌++◌, string_bytes, take, flat_map}
use Rattle.picture.specs.Escaping.{escaped_byte}
use Rattle.picture.proofs.escape.write_bytes.Given as goal

abbrev pub invariant-loop-byte : goal.invariant-loop-byte
invariant-loop-byte l = string_bytes l.out ≡ string_bytes l.fn.out ++ flat_map escaped_byte (take l.byte-index l.bytes)
