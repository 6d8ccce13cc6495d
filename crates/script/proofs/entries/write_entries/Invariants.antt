-- The entries so far are written, and numbers go on from those before.
use Rattle.std.proofs.Common.{◌≡◌, ◌+◌, ◌++◌, string_bytes, take}
use Rattle.script.specs.Entries.{text_of_entries}
use Rattle.script.proofs.entries.write_entries.Given as goal

abbrev pub invariant-loop-entry : goal.invariant-loop-entry
invariant-loop-entry l =
    (string_bytes l.out ≡ string_bytes l.initial.out ++ text_of_entries l.policy (l.before + 1) (take l.entry-index l.entries))
    × (l.number ≡ l.before + 1 + l.entry-index)
