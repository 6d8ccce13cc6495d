-- The queues so far are served.
use Rattle.std.proofs.Common.{List}
use Rattle.aql_packet.specs.declared.ids.QueueId.{QueueId}
use Rattle.readable.specs.Moves.{Made}
use Rattle.readable.specs.Rounds.{Served}
use Rattle.readable.specs.inner.Keeping.{Asks}
use Rattle.readable.proofs.rounds.serve_all.Given as goal

abbrev pub invariant-queues : goal.invariant-queues
invariant-queues l =
    (made : List Made) × (served : List QueueId) × Served l.queues l.initial.world served made l.world l.next × Asks l.initial.world l.initial.log made l.world l.log
