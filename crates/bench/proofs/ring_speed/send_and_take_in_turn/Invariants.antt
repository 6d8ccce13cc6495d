use Rattle.std.proofs.Common.{◌≡◌}
use Rattle.bench.proofs.ring_speed.send_and_take_in_turn.Given as goal

abbrev pub invariant-loop-number : goal.invariant-loop-number
invariant-loop-number l = (l.producer.table ≡ l.initial.producer.table) × (l.processor.table ≡ l.initial.processor.table)
