use Rattle.std.proofs.Common.{◌≡◌, ℕ, ◌<◌, length, get_or}
use Rattle.std.specs.Prelude.{unwrap_or, None}
use Rattle.ring_core.proofs.ticket.packet_of.Given as goal

abbrev pub invariant-loop-place : goal.invariant-loop-place
invariant-loop-place l = (length l.packet ≡ 8) × ((k : ℕ) → k < l.place → get_or l.packet k 0 ≡ unwrap_or (get_or l.words k None) 0)
