use Rattle.std.proofs.Common.{◌≡◌, ℕ, ◌<◌, []}
use Rattle.std.specs.List.{AllWithin}
use Rattle.client_threads.specs.Takes.{takes}
use Rattle.client_threads.proofs.mismatch.last_taken_in.Given as goal

abbrev pub invariant-loop-part : goal.invariant-loop-part
invariant-loop-part l = (queue : ℕ) → l.last < queue → AllWithin (λ p. takes p.entries queue ≡ []) l.parts 0 l.part-index
