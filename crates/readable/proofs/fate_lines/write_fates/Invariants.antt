-- The lines so far are written.
use Rattle.std.proofs.Common.{◌≡◌, ◌++◌, take}
use Rattle.std.specs.Prelude.{string_bytes}
use Rattle.readable.specs.FateLines.{text_of_fates}
use Rattle.readable.proofs.fate_lines.write_fates.Given as goal

abbrev pub invariant-loop-fate : goal.invariant-loop-fate
invariant-loop-fate l = string_bytes l.out ≡ string_bytes l.initial.out ++ text_of_fates l.policy (take l.fate-index l.fates)
