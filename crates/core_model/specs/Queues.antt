-- Queues: who opened them, what was handed over, and whether they launch anything more.
use Rattle.std.specs.Prelude.{ℕ, ◌+◌, ◌==◌, ◌||◌, not, Bool, true, false, List, [], ◌∷◌, ◌++◌, filter, find, fold, Option, Some, None, option_map, nat_lt, length, if◌then◌else◌}
use Rattle.aql_packet.specs.declared.ids.QueueId.{QueueId}
use Rattle.queue_error.specs.declared.error.QueueError.{QueueError}
use Rattle.core_model.specs.declared.event.Event.{Event}
use Rattle.core_model.specs.declared.event.Event.TheVariants.{Open, Take, Call}
use Rattle.core_model.specs.declared.call.Call.TheVariants.{Stop, Close}
use Rattle.core_model.specs.declared.outcome.Outcome.{Outcome}
use Rattle.core_model.specs.declared.outcome.Outcome.TheVariants as outcome
use Rattle.core_model.specs.declared.outcome.Taken.TheVariants.{Denied}
use Rattle.core_model.specs.declared.outcome.Worked.TheVariants.{Faulted}
use Rattle.core_model.specs.declared.outcome.Polled.TheVariants.{Failed}
use Rattle.core_model.specs.declared.entry.Entry.{Entry}
use Rattle.core_model.specs.History.{Start}
pub use Rattle.core_model.specs.History.{OpenQueue, Opening, Openings}

-- whether an open queue has this number (own)
abbrev pub is_queue : QueueId → OpenQueue → Bool
is_queue queue q = q.queue.0 == queue.0

-- the queue that is opened next, behind so many that were ever opened: its number is one more (own)
abbrev pub next_queue : ℕ → QueueId
next_queue opened = record { 0 = opened + 1 }

-- one queue more is open (own)
abbrev pub with_queue : Openings → Opening → Openings
with_queue before opening = record {
  opened = before.opened + 1;
  queues = before.queues ++ record { queue = next_queue before.opened; opening = opening } ∷ [];
}

-- a queue is no more open (own)
abbrev pub without_queue : Openings → QueueId → Openings
without_queue before queue = record before { queues = filter (λ q. not (is_queue queue q)) before.queues }

-- the openings after an event, by those before it: it opens a queue, or closes one (own)
abbrev pub openings_after : Openings → Event → Openings
openings_after before (Open client agent size) = with_queue before (record { client = client; agent = agent })
openings_after before (Call (Close queue)) = without_queue before queue
openings_after before _ = before

-- how many queues were ever opened, and those that are open: the start's, then as these entries opened and closed them (own)
unfoldable pub openings : Start → List Entry → Openings
openings start entries = fold (λ before entry. openings_after before entry.event) start.openings entries

-- the opening of a queue among those that are open, if it is one of them (own)
abbrev pub opening_in : List OpenQueue → QueueId → Option Opening
opening_in queues queue = option_map (λ q. q.opening) (find (is_queue queue) queues)

-- the opening of a queue, if it is open (own)
abbrev pub owner : Start → List Entry → QueueId → Option Opening
owner start entries queue = opening_in (openings start entries).queues queue

-- whether an event closes a queue (own)
abbrev pub closes_queue : QueueId → Event → Bool
closes_queue queue (Call (Close q)) = q.0 == queue.0
closes_queue queue _ = false

-- whether an event hands over a packet of a queue (own)
abbrev pub hands_over_packet_of : QueueId → Event → Bool
hands_over_packet_of queue (Take q _ _) = q.0 == queue.0
hands_over_packet_of queue _ = false

-- the id of a queue's next packet after an event, by the one before it: one more where it hands over a packet of it; of a closed queue
-- it is that of one that never was (own)
abbrev pub next_id_after : QueueId → ℕ → Event → ℕ
next_id_after queue next event = if closes_queue queue event then 0 else if hands_over_packet_of queue event then next + 1 else next

-- the id of a queue's next packet: the start's, and one more for each packet of it that was handed over since, of which a legal history
-- enters only those launched or denied (PSA, User Mode Queuing: packets are processed in order)
unfoldable pub next_id : Start → List Entry → QueueId → ℕ
next_id start entries queue = fold (λ next entry. next_id_after queue next entry.event) (start.next_id queue) entries

-- the error that an outcome tells (own)
abbrev pub error_of : Outcome → Option QueueError
error_of (outcome.Taken (Denied error)) = Some error
error_of (outcome.Worked (Faulted error)) = Some error
error_of (outcome.Polled (Failed error)) = Some error
error_of _ = None

-- a queue's errors with one more, if there is one and it is the queue's (own)
abbrev pub with_error : QueueId → List QueueError → Option QueueError → List QueueError
with_error queue errors None = errors
with_error queue errors (Some error) = if error.queue.0 == queue.0 then errors ++ error ∷ [] else errors

-- a queue's errors after an entry: a closed queue has none (own)
abbrev pub errors_after : QueueId → List QueueError → Entry → List QueueError
errors_after queue before entry = if closes_queue queue entry.event then [] else with_error queue before (error_of entry.outcome)

-- a queue's errors, in order (own)
unfoldable pub errors : Start → List Entry → QueueId → List QueueError
errors start entries queue = fold (errors_after queue) (start.errors queue) entries

-- whether an event stops a queue (own)
abbrev pub stops_queue : QueueId → Event → Bool
stops_queue queue (Call (Stop q)) = q.0 == queue.0
stops_queue queue _ = false

-- whether a queue is stopped after an event: a closed queue isn't (own)
abbrev pub is_stopped_after : QueueId → Bool → Event → Bool
is_stopped_after queue was event = if closes_queue queue event then false else if stops_queue queue event then true else was

-- whether a queue was stopped (own)
unfoldable pub is_stopped : Start → List Entry → QueueId → Bool
is_stopped start entries queue = fold (λ was entry. is_stopped_after queue was entry.event) (start.is_stopped queue) entries

-- whether a queue launches nothing more: it has an error, or was stopped (own)
abbrev pub is_down : Start → List Entry → QueueId → Bool
is_down start entries queue = nat_lt 0 (length (errors start entries queue)) || is_stopped start entries queue
