use Rattle.std.proofs.Common.{ℕ, ◌<◌, ◌≤◌, ◌-◌, length, get_or}
use Rattle.ring_core.specs.Tickets.{unnamed}
use Rattle.ring_core.proofs.tickets.place_of.Given as goal

abbrev pub invariant-loop-low : goal.invariant-loop-low
invariant-loop-low l = record {
  inside : (l.low ≤ l.high) × (l.high ≤ length l.reserved);
  below : (k : ℕ) → k < l.low → (get_or l.reserved k unnamed).id.0 < l.id.0;
  above : (k : ℕ) → l.high ≤ k → k < length l.reserved → l.id.0 ≤ (get_or l.reserved k unnamed).id.0;
}

abbrev pub decreases-loop-low : goal.decreases-loop-low
decreases-loop-low l = l.high - l.low
