-- The world between two steps: one history, a ring for each queue that is open, and of each closed queue what its ring was.
use Rattle.std.specs.Prelude.{ℕ, ◌≡◌, ◌==◌, ◌<◌, true, List, [], ◌∷◌, ◌++◌, Option, Some, None, if◌then◌else◌}
use Rattle.std.specs.Option.{is_some, option_map_or}
use Rattle.aql_packet.specs.declared.ids.QueueId.{QueueId}
use Rattle.core_model.specs.History.{History}
use Rattle.ring_core.specs.Machine.{Machine}

-- a queue, and its ring (own)
pub record QueueMachine : Type 0 where
  pub queue : QueueId
  pub ring : Machine

-- the rings of some queues, in the order in which these were opened, or were closed (own)
abbrev pub Rings : Type 0
Rings = List QueueMachine

abbrev pub queue_machine : QueueId → Machine → QueueMachine
queue_machine queue ring = record { queue = queue; ring = ring }

-- the ring of a queue among some, if it has one there (own)
abbrev pub among : Rings → QueueId → Option Machine
among [] queue = None
among (x ∷ rings) queue = if x.queue.0 == queue.0 then Some x.ring else among rings queue

-- the same, with another state of a queue's ring (own)
abbrev pub put : Rings → QueueId → Machine → Rings
put [] queue ring = []
put (x ∷ rings) queue ring = if x.queue.0 == queue.0 then queue_machine x.queue ring ∷ rings else x ∷ put rings queue ring

-- the same without a queue's ring (own)
abbrev pub leave_out : Rings → QueueId → Rings
leave_out [] queue = []
leave_out (x ∷ rings) queue = if x.queue.0 == queue.0 then rings else x ∷ leave_out rings queue

-- the same with a queue's ring behind the others, if it has one (own)
abbrev pub with_one : Rings → QueueId → Option Machine → Rings
with_one rings queue None = rings
with_one rings queue (Some ring) = rings ++ queue_machine queue ring ∷ []

-- the core's history, the rings of the queues that are open, and of each closed queue its ring as it stood before the close, which nothing
-- keeps when the code runs (own)
pub record Joined : Type 0 where
  pub core : History
  pub rings : Rings
  pub closed : Rings

abbrev pub joined : History → Rings → Rings → Joined
joined core rings closed = record { core = core; rings = rings; closed = closed }

-- the ring of a queue, if it is open (own)
abbrev pub ring_of : Joined → QueueId → Option Machine
ring_of world queue = among world.rings queue

-- the ring of a queue that was closed, as it stood before the close (own)
abbrev pub closed_ring_of : Joined → QueueId → Option Machine
closed_ring_of world queue = among world.closed queue

-- the open queue with the least number behind this one, if there is one (own)
abbrev pub IsNextOpen : Joined → QueueId → Option QueueId → Type 0
IsNextOpen world queue None = (other : QueueId) → queue.0 < other.0 → ring_of world other ≡ None
IsNextOpen world queue (Some next) =
    (queue.0 < next.0) × (is_some (ring_of world next) ≡ true) × ((other : QueueId) → queue.0 < other.0 → other.0 < next.0 → ring_of world other ≡ None)

-- how many slots the ring of a queue has: none where the queue isn't open
abbrev pub slots_of : Joined → QueueId → ℕ
slots_of world queue = option_map_or (λ ring. ring.size) (ring_of world queue) 0

-- the world with another state of a queue's ring
abbrev pub with_ring : Joined → QueueId → Machine → Joined
with_ring world queue ring = joined world.core (put world.rings queue ring) world.closed

-- the world without the ring of a queue that is closed: what it was is told from then on (own)
abbrev pub without_ring : Joined → QueueId → Joined
without_ring world queue = joined world.core (leave_out world.rings queue) (with_one world.closed queue (ring_of world queue))

-- the world with another history
abbrev pub with_core : Joined → History → Joined
with_core world core = joined core world.rings world.closed
