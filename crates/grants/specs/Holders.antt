-- Packets by queue and id, and the least of those that pass a test.
use Rattle.std.specs.Prelude.{Bool, true, false, ◌≡◌, ◌<◌, ◌≤◌, ◌⊎◌, Option, Some, None}
use Rattle.aql_packet.specs.declared.ids.QueueId.{QueueId}
use Rattle.aql_packet.specs.declared.ids.PacketId.{PacketId}
pub use Rattle.aql_packet.specs.Ids.{same_packet}

-- the packet comes first, or is the other one: by queue, and then by id
abbrev pub IsUpTo : QueueId → PacketId → QueueId → PacketId → Type 0
IsUpTo queue packet queue' packet' = (queue.0 < queue'.0) ⊎ ((queue.0 ≡ queue'.0) × (packet.0 ≤ packet'.0))

-- the first of the packets that pass a test, if any does: it passes, and comes before each other that passes
abbrev pub IsFirstTo : (QueueId → PacketId → Bool) → Option (QueueId × PacketId) → Type 0
IsFirstTo test None = (queue : QueueId) (packet : PacketId) → test queue packet ≡ false
IsFirstTo test (Some first) =
    (test first.0 first.1 ≡ true) × ((queue : QueueId) (packet : PacketId) → test queue packet ≡ true → IsUpTo first.0 first.1 queue packet)
