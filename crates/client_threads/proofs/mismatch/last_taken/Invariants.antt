use Rattle.std.proofs.Common.{◌≡◌, ℕ, ◌<◌}
use Rattle.std.specs.Prelude.{None}
use Rattle.std.specs.List.{AllWithin}
use Rattle.client_threads.specs.Takes.{taken_by}
use Rattle.client_threads.proofs.mismatch.last_taken.Given as goal

abbrev pub invariant-loop-entry : goal.invariant-loop-entry
invariant-loop-entry l = (queue : ℕ) → l.last < queue → AllWithin (λ e. taken_by queue e.event ≡ None) l.entries 0 l.entry-index
