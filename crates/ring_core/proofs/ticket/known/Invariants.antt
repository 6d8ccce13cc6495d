use Rattle.std.proofs.Common.{◌≡◌, ℕ, ◌<◌, length, get_or}
use Rattle.std.specs.Prelude.{Some, None}
use Rattle.ring_core.proofs.ticket.known.Given as goal

abbrev pub invariant-loop-place : goal.invariant-loop-place
invariant-loop-place l = (length l.all ≡ 8) × ((k : ℕ) → k < l.place → get_or l.all k None ≡ Some (get_or l.words k 0))
