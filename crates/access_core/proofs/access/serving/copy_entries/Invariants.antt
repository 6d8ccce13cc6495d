-- The entries so far were copied.
use Rattle.std.proofs.Common.{◌≡◌, take}
use Rattle.access_core.proofs.access.serving.copy_entries.Given as goal

abbrev pub invariant-loop-entry : goal.invariant-loop-entry
invariant-loop-entry l = l.copies ≡ take l.entry-index l.entries
