-- What the history of a core goes on from behind its audit, as data: what its fields tell (own).
use Rattle.std.specs.Prelude.{◌≡◌, ◌+◌, ◌<◌, ◌^◌, ℕ, All, List, find, length, map, nat_le, nat_lt, Option, None, Some, option_map, if◌then◌else◌}
use Rattle.std.specs.List.{Contains, filter_map}
use Rattle.aql_packet.specs.declared.ids.PacketId.{PacketId}
use Rattle.grants.specs.Ledger.{Ledger, SameRights, rules_in}
use Rattle.core_model.specs.declared.origin.Origin.{Origin}
use Rattle.core_model.specs.declared.origin.PacketOrigin.{PacketOrigin}
use Rattle.core_model.specs.declared.origin.QueueOrigin.{QueueOrigin}
use Rattle.packet_processor.specs.Queueing.{is_place_of}
use Rattle.packet_processor.specs.declared.places.Place.{Place}
use Rattle.access_core.specs.declared.access.AccessCore.TheInside.{Inside}
use Rattle.access_core.specs.declared.argument_blocks.ArgumentBlock.{ArgumentBlock}
use Rattle.access_core.specs.declared.queue.Queue.{Queue}
use Rattle.access_core.specs.inner.ArgumentBlocks.{Ascend, all_blocks, by_number}
use Rattle.access_core.specs.inner.CachedQueue.{cached_opening}
use Rattle.access_core.specs.inner.Numbers.{queue_in}

-- of a queue: its number and opening, next id and errors, and whether it was stopped
abbrev pub queue_origin : Queue → QueueOrigin
queue_origin q = record { queue = q.number; opening = cached_opening q; next = q.next; stopped = q.stopped; errors = q.errors.items }

-- the place of the packet with this id, in a queue that is there
abbrev pub sought_in : Option Queue → PacketId → Option Place
sought_in None id = None
sought_in (Some q) id = find (is_place_of id) q.places

-- of a packet in flight: what its argument block has, and its place in its queue
abbrev pub told_origin : ArgumentBlock → Place → PacketOrigin
told_origin block place = record {
  flying = record { queue = block.queue; id = block.packet; packet = place.packet };
  progress = place.progress;
  client = block.client;
  rights = block.rights;
  arguments = block.bytes;
}

-- the same, of a packet that is in flight
abbrev pub packet_origin : List Queue → ArgumentBlock → Option PacketOrigin
packet_origin queues block = option_map (told_origin block) (sought_in (queue_in queues block.queue) block.packet)

-- The grants of a start: what is in force is what the core keeps, by the same rules. What packets hold lies with them.
pub record SameInForce (grants start : Ledger) : Type 0 where
  pub same_rights : SameRights grants start
  pub same_rules : rules_in start ≡ rules_in grants

-- of two blocks the one with the lower number, if the second isn't below this number
abbrev pub sooner : ℕ → Option ArgumentBlock → ArgumentBlock → Option ArgumentBlock
sooner from None block = if nat_lt block.number from then None else Some block
sooner from (Some one) block = if nat_lt block.number from then Some one else if nat_le one.number block.number then Some one else Some block

-- numbers of launches fit beside the entries that can come before
abbrev pub NumbersFit : List ArgumentBlock → Type 0
NumbersFit blocks = All (λ (block : ArgumentBlock). block.number < 2 ^ 63) blocks

-- these are the blocks that lie in queues, so many, in the order of launches
pub record AreInOrder (queues : List Queue) (count : ℕ) (blocks : List ArgumentBlock) : Type 0 where
  pub lie : (block : ArgumentBlock) → Contains (all_blocks queues) block → Contains blocks block
  pub lie_there : (block : ArgumentBlock) → Contains blocks block → Contains (all_blocks queues) block
  pub in_order : Ascend by_number blocks
  pub are_all : length blocks ≡ count

-- all of it, with such grants and these argument blocks, which are in the order of launches
abbrev pub origin_behind : Inside → Ledger → List ArgumentBlock → Origin
origin_behind a grants blocks = record {
  policy = a.start.policy;
  grants = grants;
  memory = a.memory;
  signals = a.signals;
  opened = a.opened;
  queues = map queue_origin a.queues.items;
  packets = filter_map (packet_origin a.queues.items) blocks;
  before = a.start.before + length a.audit.items;
}
