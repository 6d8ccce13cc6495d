-- What is told of each entry so far fits.
use Rattle.std.proofs.Common.{◌≡◌, true, take}
use Rattle.journal.specs.Entries.{all_fit}
use Rattle.journal.proofs.fitting.entries_fit.Given as goal

abbrev pub invariant-loop-entry : goal.invariant-loop-entry
invariant-loop-entry l = all_fit (take l.entry-index l.entries) ≡ true
