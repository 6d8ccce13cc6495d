-- What names mean: the item with a number, and whether two names are of one packet.
use Rattle.std.specs.Prelude.{ℕ, ◌-◌, Bool, ◌&&◌, ◌==◌, nat_lt, List, slice_get, Option, None, if◌then◌else◌}
use Rattle.aql_packet.specs.declared.ids.QueueId.{QueueId}
use Rattle.aql_packet.specs.declared.ids.PacketId.{PacketId}

-- The item with a number: clients, queues, agents, regions, signals and kernels are numbered from 1 (own).
abbrev pub numbered : {X : Type 0} → List X → ℕ → Option X
numbered items number = if nat_lt 0 number then slice_get items (number - 1) else None

-- Whether two names, each a queue and an id, are of one packet (own).
abbrev pub same_packet : QueueId → PacketId → QueueId → PacketId → Bool
same_packet queue packet queue' packet' = queue.0 == queue'.0 && packet.0 == packet'.0
