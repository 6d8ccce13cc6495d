-- What becomes of queues, and of packets in flight, where a queue is closed.
use Rattle.std.specs.Prelude.{◌≡◌, ◌==◌, ℕ, List, [], filter, length, map, not, Option, Some, None, vec_capacity}
use Rattle.std.specs.Global.{Vec}
use Rattle.aql_packet.specs.declared.ids.QueueId.{QueueId}
use Rattle.core_model.specs.declared.entry.Effect.{Effect}
use Rattle.core_model.specs.declared.entry.Effect.TheVariants as effect
use Rattle.core_model.specs.declared.limits.TheConstants.{MOST_IN_FLIGHT}
use Rattle.packet_processor.specs.declared.places.Place.{Place}
use Rattle.access_core.specs.declared.argument_blocks.ArgumentBlock.{ArgumentBlock}
use Rattle.access_core.specs.declared.queue.Queue.{Queue}
use Rattle.access_core.specs.inner.Numbers.{has_number, queue_in}

-- the release of a queue's packet in its place (own)
abbrev pub release_from : QueueId → Place → Effect
release_from queue place = effect.Release queue place.id

-- a list without an item has room for a release of each packet of a queue that can be in flight (own)
abbrev pub IsRoom : Vec Effect → Type 0
IsRoom releases = (releases.items ≡ []) × (vec_capacity releases ≡ MOST_IN_FLIGHT)

-- the queues without the one that is closed (own)
abbrev pub without_queue : QueueId → List Queue → List Queue
without_queue queue queues = filter (λ q. not (has_number queue q)) queues

-- the blocks without those of its packets (own)
abbrev pub without_blocks : QueueId → List ArgumentBlock → List ArgumentBlock
without_blocks queue blocks = filter (λ block. not (block.queue.0 == queue.0)) blocks

-- the places of its packets in flight (own)
abbrev pub places_in : List Queue → QueueId → List Place
places_in queues queue = elim (queue_in queues queue) [ None ↦ [] | Some q ↦ q.places ]

-- what is told of them (own)
abbrev pub releases_in : List Queue → QueueId → List Effect
releases_in queues queue = map (release_from queue) (places_in queues queue)

-- and how many they are (own)
abbrev pub flying_in : List Queue → QueueId → ℕ
flying_in queues queue = length (places_in queues queue)
