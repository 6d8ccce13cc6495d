-- What became of the packets of a queue, as an audit tells it (own).
use Rattle.std.specs.Prelude.{◌≡◌, ℕ, ◌+◌, ◌<◌, Bool, true, false, ◌==◌, ◌&&◌, count_by, length, slice_get, slice_index_or, List, [], Option, Some, None}
use Rattle.std.specs.List.{list_all, range_with_len}
use Rattle.core_model.specs.declared.event.Event.{Event}
use Rattle.core_model.specs.declared.event.Event.TheVariants.{Take, Call}
use Rattle.core_model.specs.declared.call.Call.TheVariants.{Finish}
use Rattle.core_model.specs.declared.entry.Entry.{Entry}
use Rattle.core_model.specs.declared.outcome.Outcome.{Outcome}
use Rattle.core_model.specs.declared.outcome.Outcome.TheVariants as outcome
use Rattle.core_model.specs.declared.outcome.Taken.TheVariants as taken
use Rattle.threads_load.specs.declared.counting.PacketCounts.{PacketCounts}

-- a packet was launched (own)
abbrev pub is_launched : Outcome → Bool
is_launched (outcome.Taken taken.Launched) = true
is_launched _ = false

-- a packet was denied (own)
abbrev pub is_denied : Outcome → Bool
is_denied (outcome.Taken (taken.Denied error)) = true
is_denied _ = false

-- a packet of a queue was handed over (own)
abbrev pub is_take : ℕ → Event → Bool
is_take queue (Take q id bytes) = q.0 == queue
is_take queue _ = false

-- a packet of a queue was to be finished (own)
abbrev pub is_finish : ℕ → Event → Bool
is_finish queue (Call (Finish q id)) = q.0 == queue
is_finish queue _ = false

-- a packet of a queue was launched (own)
abbrev pub is_launch : ℕ → Entry → Bool
is_launch queue entry = is_take queue entry.event && is_launched entry.outcome

-- a packet of a queue was denied (own)
abbrev pub is_denial : ℕ → Entry → Bool
is_denial queue entry = is_take queue entry.event && is_denied entry.outcome

-- a packet of a queue was finished: a call that is refused has no entry (own)
abbrev pub is_completion : ℕ → Entry → Bool
is_completion queue entry = is_finish queue entry.event

-- how many packets of a queue were launched, finished and denied by these entries (own)
abbrev pub packet_counts : List Entry → ℕ → PacketCounts
packet_counts entries queue = record {
  launched = count_by (is_launch queue) entries;
  finished = count_by (is_completion queue) entries;
  denied = count_by (is_denial queue) entries;
}

-- just so many packets of a queue are finished by these entries (own)
abbrev pub is_finished : List Entry → ℕ → ℕ → Bool
is_finished entries wanted queue = (packet_counts entries queue).finished == wanted

-- of each of so many queues, which are numbered from 1 on (own)
abbrev pub are_finished : List Entry → ℕ → ℕ → Bool
are_finished entries wanted queues = list_all (is_finished entries wanted) (range_with_len 1 queues)

-- these are the counts of so many queues, which are numbered from 1 on, by these entries (own)
pub record AreCounts (entries : List Entry) (queues : ℕ) (counts : List PacketCounts) : Type 0 where
  pub count : length counts ≡ queues
  pub each : (place : ℕ) (d : PacketCounts) → place < length counts → slice_index_or counts place d ≡ packet_counts entries (place + 1)

abbrev pub counts_in : Option PacketCounts → PacketCounts
counts_in None = packet_counts [] 0
counts_in (Some one) = one

-- what was counted of the queue at a place among these; of one behind them, nothing (own)
abbrev pub counts_at : List PacketCounts → ℕ → PacketCounts
counts_at counts place = counts_in (slice_get counts place)
