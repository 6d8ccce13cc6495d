use Rattle.std.proofs.Common.{◌≡◌, ◌+◌, ◌-◌, [], replicate}
use Rattle.ring_core.specs.Parts.{new_producer}
use Rattle.ring.specs.Shares.{numbered}
use Rattle.ring.specs.Dealt.{dealt}
use Rattle.ring.proofs.ring.Ring.producer_passes.Given as goal

abbrev pub invariant-loop-before : goal.invariant-loop-before
invariant-loop-before l =
    (l.seat.table_id ≡ l.self.table)
    × (l.seat.me ≡ (numbered (l.before + 1) (replicate (l.self.producers - l.before) new_producer), []))
    × (l.passes.items ≡ dealt l.self.table l.before)
