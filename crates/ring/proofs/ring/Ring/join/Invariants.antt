use Rattle.std.proofs.Common.{◌≡◌, ◌++◌, [], map}
use Rattle.std.specs.Prelude.{All}
use Rattle.ring.specs.Settling.{share_of}
use Rattle.ring.proofs.ring.Ring.join.Given as goal

abbrev pub invariant-loop-pass : goal.invariant-loop-pass
invariant-loop-pass l =
    (goal.iterator-loop-pass).can_next l.pass-iterator
    × (goal.iterator-loop-pass).is_finite l.pass-iterator
    × (l.seat.table_id ≡ l.self.table)
    × (l.seat.me ≡ (l.initial.seat.me.0 ++ map share_of l.yielded, []))
    × All (λ pass. pass.table ≡ l.self.table) l.pass-iterator.rest.items
