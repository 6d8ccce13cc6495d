-- Queues by their numbers, which ascend: a queue that is opened has a number above all before it, and lies behind them.
use Rattle.std.specs.Prelude.{◌≡◌, ◌==◌, ◌<◌, ◌≤◌, ℕ, Bool, false, List, [], ◌∷◌, find, length, slice_get, Option, Some, None}
use Rattle.aql_packet.specs.declared.ids.QueueId.{QueueId}
use Rattle.access_core.specs.declared.queue.Queue.{Queue}

-- whether a queue has a number (own)
abbrev pub has_number : QueueId → Queue → Bool
has_number queue q = q.number.0 == queue.0

-- the queue with a number, if one of these has it (own)
abbrev pub queue_in : List Queue → QueueId → Option Queue
queue_in queues queue = find (has_number queue) queues

-- the first number is above this one, and each other above the one before it (own)
abbrev pub AscendFrom : ℕ → List Queue → Type 0
AscendFrom below [] = Unit {0}
AscendFrom below (q ∷ queues) = (below < q.number.0) × AscendFrom q.number.0 queues

-- one of these queues has the number (own)
abbrev pub IsThere : List Queue → QueueId → Type 0
IsThere queues queue = (q : Queue) × (queue_in queues queue ≡ Some q) × AscendFrom 0 queues

-- the index of the queue with a number; none where no queue has it (own)
abbrev pub IsQueueIndex : List Queue → QueueId → Option ℕ → Type 0
IsQueueIndex queues queue None = queue_in queues queue ≡ None
IsQueueIndex queues queue (Some index) = (index < length queues) × (queue_in queues queue ≡ slice_get queues index)

-- no queue has the number from an index on (own)
abbrev pub IsNotFrom : List Queue → QueueId → ℕ → Type 0
IsNotFrom queues queue behind = (index : ℕ) (q : Queue) → behind ≤ index → slice_get queues index ≡ Some q → has_number queue q ≡ false
