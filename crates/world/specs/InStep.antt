-- What holds between any two steps of the world: its rings and its history are in step.
use Rattle.std.specs.Prelude.{◌≡◌, ℕ, ◌+◌, ◌==◌, ◌&&◌, ◌<◌, ◌≤◌, Bool, true, false, nat_le, not, List, [], ◌∷◌, ◌++◌, length, slice_get, Option, Some, None, if◌then◌else◌}
use Rattle.std.specs.List.{filter_map}
use Rattle.std.specs.Option.{is_some}
use Rattle.aql_packet.specs.declared.ids.QueueId.{QueueId}
use Rattle.core_model.specs.declared.event.Event.{Event}
use Rattle.core_model.specs.declared.event.Event.TheVariants.{Open, Take}
use Rattle.core_model.specs.declared.entry.Entry.{Entry}
use Rattle.core_model.specs.History.{beginning, History, opening_state}
use Rattle.core_model.specs.States.{state_after}
use Rattle.core_model.specs.Queues.{next_id, openings, owner}
use Rattle.core_model.specs.Legal.{IsWhole}
use Rattle.policy.specs.Policy.{Declared, numbered}
use Rattle.ring_core.specs.Words.{packet_of}
use Rattle.ring_core.specs.Tickets.{is_published}
use Rattle.ring_core.specs.Machine.{Machine, read_index}
use Rattle.ring_core.specs.Rule.{IsRing, processor_of, ticket_of}
use Rattle.aql_packet.specs.Words.{bytes_of}
use Rattle.world.specs.States.{Joined, Rings, among, closed_ring_of, ring_of}

-- the bytes of a packet of a queue that an event hands over, if it does
abbrev pub taken_from : QueueId → Event → Option (List ℕ)
taken_from queue (Take q id bytes) = if q.0 == queue.0 then Some bytes else None
taken_from queue _ = None

-- the packets of a queue that were launched or denied, in order: the bytes of each
unfoldable pub takes : List Entry → QueueId → List (List ℕ)
takes entries queue = filter_map (λ entry. taken_from queue entry.event) entries

-- the size of the queue that an event opens, if it does
abbrev pub size_of : Event → Option ℕ
size_of (Open client agent size) = Some size
size_of _ = None

-- the sizes of the queues that were opened, in order: the first is queue 1's (own)
unfoldable pub sizes : List Entry → List ℕ
sizes entries = filter_map (λ entry. size_of entry.event) entries

-- a ring has the size that was asked for at its queue's opening (own)
abbrev pub HasItsSize : List Entry → QueueId → Machine → Type 0
HasItsSize all queue ring = numbered (sizes all) queue.0 ≡ Some ring.size

-- whether a queue is open (own)
abbrev pub is_open : History → QueueId → Bool
is_open core queue = is_some (owner (beginning core) core.entries queue)

-- whether a queue was ever opened: its number is 1 at least, and at most how many were (own)
abbrev pub was_opened : History → QueueId → Bool
was_opened core queue = nat_le 1 queue.0 && nat_le queue.0 (openings (beginning core) core.entries).opened

-- whether a queue was closed: it was opened, and is open no more (own)
abbrev pub is_closed : History → QueueId → Bool
is_closed core queue = was_opened core queue && not (is_open core queue)

-- whether the packet of an id is published in a ring, and its bytes as they were published
abbrev pub IsPublished : Machine → ℕ → Type 0
IsPublished ring id = is_published (ticket_of ring.parts id) ≡ true

abbrev pub published : Machine → ℕ → List ℕ
published ring id = bytes_of (packet_of (ticket_of ring.parts id).words)

-- a queue's ring is in step with a history; these are all entries that lead there from an opening (own)
pub record IsInStep (core : History) (all : List Entry) (queue : QueueId) (ring : Machine) : Type 0 where
  -- every packet that was retired was launched or denied, and at most one more was
  pub floor : read_index ring ≤ next_id (beginning core) core.entries queue
  pub ceiling : next_id (beginning core) core.entries queue ≤ read_index ring + 1
  -- the header at the read index is cleared only once its packet was launched or denied
  pub cleared : (processor_of ring.parts).raising ≡ true → read_index ring < next_id (beginning core) core.entries queue
  -- what was launched or denied is what is published under the first ids, whole, each once, in order
  pub count : length (takes all queue) ≡ next_id (beginning core) core.entries queue
  pub whole : (id : ℕ) → id < next_id (beginning core) core.entries queue → IsPublished ring id × (slice_get (takes all queue) id ≡ Some (published ring id))

-- a closed queue's ring, as it stood before the close, was in step with all that was ever launched or denied of the queue: nothing was
-- since (own)
pub record WasInStep (all : List Entry) (queue : QueueId) (ring : Machine) : Type 0 where
  -- every packet that was retired was launched or denied, and at most one more was
  pub floor : read_index ring ≤ length (takes all queue)
  pub ceiling : length (takes all queue) ≤ read_index ring + 1
  -- the header at the read index was cleared only once its packet was launched or denied
  pub cleared : (processor_of ring.parts).raising ≡ true → read_index ring < length (takes all queue)
  -- what was launched or denied is what was published under the first ids, whole, each once, in order
  pub whole : (id : ℕ) → id < length (takes all queue) → IsPublished ring id × (slice_get (takes all queue) id ≡ Some (published ring id))

-- of a queue that wasn't opened nothing was launched or denied
pub record IsUntouched (core : History) (all : List Entry) (queue : QueueId) : Type 0 where
  pub next : next_id (beginning core) core.entries queue ≡ 0
  pub takes : takes all queue ≡ []
  pub unopened : was_opened core queue ≡ false
  pub unowned : is_open core queue ≡ false

-- an open queue's ring keeps the ring rule and is in step (own)
pub record StandsOpen (core : History) (all : List Entry) (queue : QueueId) (ring : Machine) : Type 0 where
  pub rule : IsRing ring
  pub in_step : IsInStep core all queue ring
  pub size : HasItsSize all queue ring
  pub opened : was_opened core queue ≡ true
  pub owned : is_open core queue ≡ true

-- a closed queue's ring kept the ring rule and was in step (own)
pub record StoodClosed (core : History) (all : List Entry) (queue : QueueId) (ring : Machine) : Type 0 where
  pub rule : IsRing ring
  pub in_step : WasInStep all queue ring
  pub size : HasItsSize all queue ring
  pub opened : was_opened core queue ≡ true
  pub unowned : is_open core queue ≡ false
  pub next : next_id (beginning core) core.entries queue ≡ 0

-- a queue by its ring, and by what its ring was if it was closed: no queue has both (own)
abbrev pub Stands : History → List Entry → QueueId → Option Machine → Option Machine → Type 0
Stands core all queue None None = IsUntouched core all queue
Stands core all queue (Some ring) None = StandsOpen core all queue ring
Stands core all queue None (Some ring) = StoodClosed core all queue ring
Stands core all queue (Some ring) (Some other) = ⊥

-- no two rings are of one queue (own)
abbrev pub AreApart : Rings → Type 0
AreApart [] = Unit {0}
AreApart (x ∷ rings) = (among rings x.queue ≡ None) × AreApart rings

-- the world between any two steps: its history is the rest of a whole one, which begins at an opening over this policy, and of which these
-- entries come before; what rings and history share is said of the whole (own)
pub record IsJoinedBehind (first : Declared) (prior : List Entry) (world : Joined) : Type 0 where
  pub start_is : beginning world.core ≡ state_after (opening_state first world.core.kernels) prior
  pub whole : IsWhole (opening_state first world.core.kernels) (prior ++ world.core.entries)
  pub apart : AreApart world.rings
  -- each opening told its size
  pub count : length (sizes (prior ++ world.core.entries)) ≡ (openings (beginning world.core) world.core.entries).opened
  pub each : (queue : QueueId) → Stands world.core (prior ++ world.core.entries) queue (ring_of world queue) (closed_ring_of world queue)

-- it is so, over some policy and behind some entries (own)
pub record IsJoined (world : Joined) : Type 0 where
  pub first : Declared
  pub prior : List Entry
  pub behind : IsJoinedBehind first prior world
