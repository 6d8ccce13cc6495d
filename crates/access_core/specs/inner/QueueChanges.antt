-- How a queue of the list changes: a packet is launched, denied, comes further, fails or leaves flight, or the queue is stopped.
use Rattle.std.specs.Prelude.{◌≡◌, ◌==◌, ◌+◌, ◌-◌, ◌<◌, ◌^◌, ℕ, true, List, [], ◌∷◌, ◌++◌, filter, map, length, not, option_map, All, IfSome, Option, Some, None, if◌then◌else◌}
use Rattle.aql_packet.specs.declared.ids.QueueId.{QueueId}
use Rattle.aql_packet.specs.declared.ids.PacketId.{PacketId}
use Rattle.aql_packet.specs.declared.packet.Packet.{Packet}
use Rattle.queue_error.specs.declared.error.QueueError.{QueueError}
use Rattle.core_model.specs.declared.flight.Progress.{Progress}
use Rattle.core_model.specs.declared.limits.TheConstants.{MOST_IN_FLIGHT}
use Rattle.packet_processor.specs.declared.places.FoundPacket.{FoundPacket}
use Rattle.packet_processor.specs.declared.places.Place.{Place}
use Rattle.packet_processor.specs.Queueing.{IsFoundIn, as_launched, with_progress, without_packet}
use Rattle.sequences.specs.Room.{Roomy}
use Rattle.access_core.specs.declared.access.leaving.Leaving.{Leaving}
use Rattle.access_core.specs.declared.access.leaving.Leaving.TheVariants as leaving
use Rattle.access_core.specs.declared.argument_blocks.ArgumentBlock.{ArgumentBlock}
use Rattle.access_core.specs.declared.queue.Queue.{Queue}
use Rattle.access_core.specs.inner.Numbers.{AscendFrom, IsThere, has_number, queue_in}

-- a queue, changed if it has the number
abbrev pub changed_if : QueueId → (Queue → Queue) → Queue → Queue
changed_if queue change q = if has_number queue q then change q else q

-- the queues with the one of a number changed
abbrev pub with_queue : List Queue → QueueId → (Queue → Queue) → List Queue
with_queue queues queue change = map (changed_if queue change) queues

-- a list of errors with one more, which takes some of its room
abbrev pub with_error : Roomy QueueError → QueueError → Roomy QueueError
with_error errors error = record { items = errors.items ++ error ∷ []; room = errors.room - 1 }

-- the places without one packet, if it is named
abbrev pub without_one : Option PacketId → List Place → List Place
without_one None places = places
without_one (Some id) places = without_packet id places

-- their argument blocks without its
abbrev pub without_block : Option PacketId → List ArgumentBlock → List ArgumentBlock
without_block None blocks = blocks
without_block (Some id) blocks = filter (λ block. not (block.packet.0 == id.0)) blocks

-- which packet was found, if one was
abbrev pub packet_in : Option FoundPacket → Option PacketId
packet_in found = option_map (λ one. one.packet) found

-- if a packet is named, it was found in its place of the queue
abbrev pub IsFoundOf : List Queue → QueueId → Option FoundPacket → Type 0
IsFoundOf queues queue found = (q : Queue) → queue_in queues queue ≡ Some q → IfSome found (λ one. IsFoundIn one q.places)

-- the packets in the queue's places have ids below this one
abbrev pub IsAbove : List Queue → QueueId → PacketId → Type 0
IsAbove queues queue id = (q : Queue) → queue_in queues queue ≡ Some q → All (λ place. place.id.0 < id.0) q.places

-- what becomes of a queue
abbrev pub with_launched : Packet → ArgumentBlock → Queue → Queue
with_launched p block q = record q { next = q.next + 1; places = q.places ++ as_launched block.packet p ∷ []; blocks = q.blocks ++ block ∷ [] }

abbrev pub with_denied : QueueError → Queue → Queue
with_denied error q = record q { next = q.next + 1; errors = with_error q.errors error }

abbrev pub with_advance : PacketId → Progress → Queue → Queue
with_advance id so_far q = record q { places = map (with_progress id so_far) q.places }

-- a packet leaves it, if one is named: its place is free, with its block's; where it failed there is an error more, or the queue is stopped
abbrev pub with_leaving : Option PacketId → Leaving → Queue → Queue
with_leaving id leaving.Completed q = record q { places = without_one id q.places; blocks = without_block id q.blocks }
with_leaving id (leaving.Failed error) q = record q { errors = with_error q.errors error; places = without_one id q.places; blocks = without_block id q.blocks }
with_leaving id leaving.Stopped q = record q { stopped = true; places = without_one id q.places; blocks = without_block id q.blocks }

-- how many places it frees to take a packet out of flight
abbrev pub places_freed : Option PacketId → List Place → ℕ
places_freed id places = length places - length (without_one id places)

abbrev pub freed_by : Option PacketId → List Queue → QueueId → ℕ
freed_by id queues queue = elim (queue_in queues queue) [ None ↦ 0 | Some q ↦ places_freed id q.places ]

-- the queue is there, and has room for an error
abbrev pub CanFail : List Queue → QueueId → Type 0
CanFail queues queue = (q : Queue) × (queue_in queues queue ≡ Some q) × (0 < q.errors.room) × (q.next < 2 ^ 63) × AscendFrom 0 queues

-- the queue is there, with room for an error where a packet leaves it that failed
abbrev pub CanLeave : List Queue → QueueId → Leaving → Type 0
CanLeave queues queue (leaving.Failed error) = CanFail queues queue
CanLeave queues queue _ = IsThere queues queue

-- the queue is there, and has a place for a packet
abbrev pub CanLaunch : List Queue → QueueId → Type 0
CanLaunch queues queue = (q : Queue) × (queue_in queues queue ≡ Some q) × (length q.places < MOST_IN_FLIGHT) × (q.next < 2 ^ 63) × AscendFrom 0 queues
