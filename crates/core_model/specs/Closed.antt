-- What the close of a queue does, and what is told of a queue that isn't open: nothing.
use Rattle.std.specs.Prelude.{◌==◌, ◌≡◌, ◌<◌, ◌≤◌, Bool, true, false, List, [], ◌∷◌, map, Some, None, is_some, Err, All}
use Rattle.std.specs.List.{Contains}
use Rattle.aql_packet.specs.declared.ids.ClientId.{ClientId}
use Rattle.aql_packet.specs.declared.ids.QueueId.{QueueId}
use Rattle.aql_packet.specs.declared.ids.PacketId.{PacketId}
use Rattle.policy.specs.declared.object.Object.{Object}
use Rattle.policy.specs.declared.rights.Right.{Right}
use Rattle.core_model.specs.declared.event.Event.{Event}
use Rattle.core_model.specs.declared.event.Event.TheVariants.{Take, Call}
use Rattle.core_model.specs.declared.event.Query.TheVariants as query
use Rattle.core_model.specs.declared.call.Call.TheVariants.{Stop, Close, RunNext, Poll, Finish}
use Rattle.core_model.specs.declared.entry.Effect.{Effect}
use Rattle.core_model.specs.declared.entry.Effect.TheVariants as effect
use Rattle.core_model.specs.declared.entry.Entry.{Entry}
use Rattle.core_model.specs.declared.refusal.Refusal.TheVariants as refusal
use Rattle.core_model.specs.History.{Start}
use Rattle.core_model.specs.Queues.{Opening, opening_in, openings, owner, next_id, errors, is_stopped}
use Rattle.core_model.specs.Flight.{flight, flight_of, in_flight}
use Rattle.core_model.specs.Holds.{held}
use Rattle.core_model.specs.Owed.{owed, refuses}
use Rattle.core_model.specs.Queries.{query_answer}

-- packets' ids ascend, each less than all behind it (own)
abbrev pub AreAscending : List PacketId → Type 0
AreAscending [] = Unit {0}
AreAscending (id ∷ ids) = All (λ other. id.0 < other.0) ids × AreAscending ids

-- the close of a queue behind these entries: the queue was open, and its effects are the release of each packet of it in flight, ascending
-- by id, and no other (own)
pub record IsClosed (start : Start) (before : List Entry) (queue : QueueId) (effects : List Effect) : Type 0 where
  pub opening : Opening
  pub owner_is : owner start before queue ≡ Some opening
  pub ids : List PacketId
  pub effects_are : effects ≡ map (λ id. effect.Release queue id) ids
  pub ascending : AreAscending ids
  pub each_flies : All (λ id. is_some (in_flight start before queue id) ≡ true) ids
  pub all : All (λ f. f.queue.0 ≡ queue.0 → Contains ids f.id) (flight start before)

-- of a queue nothing is told behind these entries: it has handed over no packet, has no error and no packet in flight, and wasn't
-- stopped (own)
pub record NothingIsToldOf (start : Start) (entries : List Entry) (queue : QueueId) : Type 0 where
  pub none_taken : next_id start entries queue ≡ 0
  pub no_error : errors start entries queue ≡ []
  pub not_stopped : is_stopped start entries queue ≡ false
  pub none_flies : flight_of start entries queue ≡ []

-- whether an event names a queue: it hands over a packet of it, stops or closes it, or names a packet of it (own)
abbrev pub names_queue : QueueId → Event → Bool
names_queue queue (Take q id bytes) = q.0 == queue.0
names_queue queue (Call (Stop q)) = q.0 == queue.0
names_queue queue (Call (Close q)) = q.0 == queue.0
names_queue queue (Call (RunNext q id)) = q.0 == queue.0
names_queue queue (Call (Poll q id)) = q.0 == queue.0
names_queue queue (Call (Finish q id)) = q.0 == queue.0
names_queue queue _ = false

-- what a history begins from says that a queue was closed: it was opened, so its number is 1 at least, and isn't open (own)
pub record WasClosed (start : Start) (queue : QueueId) : Type 0 where
  pub numbered : 1 ≤ queue.0
  pub was_opened : queue.0 ≤ start.openings.opened
  pub not_open : opening_in start.openings.queues queue ≡ None

-- a queue that was opened, so that its number is 1 at least, is gone behind these entries: it isn't open, nothing of it is told or held, and
-- what names it is refused (own)
pub record IsGone (start : Start) (entries : List Entry) (queue : QueueId) : Type 0 where
  pub numbered : 1 ≤ queue.0
  pub was_opened : queue.0 ≤ (openings start entries).opened
  pub not_open : owner start entries queue ≡ None
  pub untold : NothingIsToldOf start entries queue
  pub unheld : (id : PacketId) (client : ClientId) (on : Object) (right : Right) → held start entries queue id client on right ≡ false
  pub refused : (event : Event) → names_queue queue event ≡ true → owed start entries event ≡ refuses refusal.UnknownQueue
  pub unanswered : query_answer start entries (query.Errors queue) ≡ Err refusal.UnknownQueue
