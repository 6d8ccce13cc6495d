-- The flags so far are written.
use Rattle.std.proofs.Common.{◌≡◌, ◌++◌, string_bytes, take, map}
use Rattle.journal.specs.Words.{flag_digit}
use Rattle.journal.proofs.spelling.write_flags.Given as goal

abbrev pub invariant-loop-flag : goal.invariant-loop-flag
invariant-loop-flag l = string_bytes l.out ≡ string_bytes l.fn.out ++ map flag_digit (take l.flag-index l.flags)
