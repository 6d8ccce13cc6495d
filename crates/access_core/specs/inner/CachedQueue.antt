-- What the core caches of a queue, and what the history says of it.
use Rattle.std.specs.Prelude.{◌≡◌, ◌<◌, ◌≤◌, ◌+◌, ℕ, Bool, false, List, [], filter, map, length, Option, Some, None, All}
use Rattle.std.specs.Option.{option_map}
use Rattle.aql_packet.specs.declared.ids.QueueId.{QueueId}
use Rattle.queue_error.specs.declared.error.QueueError.{QueueError}
use Rattle.core_model.specs.declared.entry.Entry.{Entry}
use Rattle.core_model.specs.declared.flight.InFlight.{InFlight}
use Rattle.core_model.specs.declared.limits.TheConstants.{MOST_IN_FLIGHT}
use Rattle.core_model.specs.History.{beginning, Start, History}
use Rattle.core_model.specs.Queues.{OpenQueue, Openings, next_id, errors, is_stopped, owner}
use Rattle.core_model.specs.declared.origin.Opening.{Opening}
use Rattle.core_model.specs.Flight.{flight_of, progress}
use Rattle.packet_processor.specs.declared.places.Place.{Place}
use Rattle.access_core.specs.declared.argument_blocks.ArgumentBlock.{ArgumentBlock}
use Rattle.access_core.specs.declared.queue.Queue.{Queue}
use Rattle.access_core.specs.inner.ArgumentBlocks.{AreOfPlaces, Ascend, IsOfQueue, blocks_in, by_number, by_packet, is_of}
use Rattle.access_core.specs.inner.Numbers.{queue_in}

-- the opening of a queue that is cached
abbrev pub cached_opening : Queue → Opening
cached_opening q = record { client = q.client; agent = q.agent }

-- and its number with it
abbrev pub cached_queue : Queue → OpenQueue
cached_queue q = record { queue = q.number; opening = cached_opening q }

-- how many queues were ever opened, with those that are cached
abbrev pub cached_openings : ℕ → List Queue → Openings
cached_openings opened queues = record { opened = opened; queues = map cached_queue queues }

-- A queue beside its opening: the id of its next packet, whether it was stopped, its errors, and its packets in flight.
pub record QueueView : Type 0 where
  pub next : ℕ
  pub stopped : Bool
  pub errors : List QueueError
  pub places : List Place

-- what is cached of a queue; of one that isn't there, nothing
abbrev pub cached_view : Option Queue → QueueView
cached_view None = record { next = 0; stopped = false; errors = []; places = [] }
cached_view (Some q) = record { next = q.next; stopped = q.stopped; errors = q.errors.items; places = q.places }

-- the place of a packet of a queue in flight: the packet, and how far it has come since its launch
abbrev pub place_of : Start → List Entry → QueueId → InFlight → Place
place_of start entries queue f = record { id = f.id; packet = f.packet; progress = progress start entries queue f.id }

-- what the history says of a queue; its places are the packets that it finds in flight
abbrev pub queue_at : Start → List Entry → QueueId → QueueView
queue_at start entries queue = record {
  next = next_id start entries queue;
  stopped = is_stopped start entries queue;
  errors = errors start entries queue;
  places = map (place_of start entries queue) (flight_of start entries queue);
}

-- A queue has as many places for errors as packets of it can be in flight, one of them free for each that is, and each packet in
-- flight has an id below the next. What it was given lies at the same index: a block that names the queue, its client and the
-- packet; ids ascend (own).
pub record IsSound (q : Queue) : Type 0 where
  pub room : length q.errors.items + q.errors.room ≡ MOST_IN_FLIGHT
  pub free : length q.errors.items + length q.places ≤ MOST_IN_FLIGHT
  pub below : All (λ place. place.id.0 < q.next) q.places
  pub given : AreOfPlaces q.places q.blocks
  pub rising : Ascend by_packet q.blocks
  pub of_queue : All (IsOfQueue q.number q.client) q.blocks

-- These are the argument blocks of queues' packets in flight, in the order of their launches: of each queue those that lie in it,
-- by numbers that ascend and are below how many entries there are (own).
pub record AreLaid (queues : List Queue) (entries : ℕ) (blocks : List ArgumentBlock) : Type 0 where
  pub in_queues : (queue : QueueId) → blocks_in (queue_in queues queue) ≡ filter (is_of queue) blocks
  pub in_order : Ascend by_number blocks
  pub before : All (λ block. block.number < entries) blocks

-- this is what is cached of a queue of the history: who opened it, and what became of it since
pub record IsQueue (history : History) (queue : QueueId) (one : Option Queue) : Type 0 where
  pub opening : option_map cached_opening one ≡ owner (beginning history) history.entries queue
  pub cached_is : cached_view one ≡ queue_at (beginning history) history.entries queue
