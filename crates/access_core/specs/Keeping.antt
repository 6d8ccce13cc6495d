-- Which calls leave the places of a core's tables as they are, and which tables an opening lengthens (own).
use Rattle.std.specs.Prelude.{◌≡◌, ℕ, ◌+◌, ◌*◌, ◌<◌, max, false, [], ◌∷◌, ◌++◌, length, List, Result, Ok, Err, Some, option_map, slice_get}
use Rattle.aql_packet.specs.declared.ids.QueueId.{QueueId}
use Rattle.core_model.specs.History.{beginning}
use Rattle.core_model.specs.Legal.{due, may_lack_memory}
use Rattle.core_model.specs.Limits.{most_in_flight}
use Rattle.core_model.specs.Owed.{Owed, enters}
use Rattle.core_model.specs.Queues.{OpenQueue, openings}
use Rattle.core_model.specs.declared.refusal.Refusal.{Refusal}
use Rattle.core_model.specs.declared.event.Event.{Event}
use Rattle.core_model.specs.declared.call.Call.{Call}
use Rattle.core_model.specs.declared.call.Call.TheVariants.{Close}
use Rattle.core_model.specs.declared.event.Event.TheVariants as event
use Rattle.core_model.specs.declared.event.CoreRequest.{CoreRequest}
use Rattle.core_model.specs.declared.event.CoreRequest.TheVariants as request
use Rattle.access_core.specs.Cores.{Core, TablePlaces}

-- A queue was opened where so many were open: its list of errors has a place for each of its packets that can be in flight, the table of
-- argument blocks has as many for each queue, and the table of queues has more places only if it was full. No other table has (own).
pub record GrowsForQueue (open_before : ℕ) (old new : TablePlaces) : Type 0 where
  pub errors : new.error_places ≡ old.error_places ++ most_in_flight ∷ []
  pub blocks : new.block_places ≡ max old.block_places (most_in_flight * (open_before + 1))
  pub queues : open_before < old.queue_places → new.queue_places ≡ old.queue_places
  pub others : (new.kernel_places ≡ old.kernel_places) × (new.segment_places ≡ old.segment_places) × (new.hold_places ≡ old.hold_places) × (new.audit_places ≡ old.audit_places)

-- no queue was opened: no table but that of queues has more places, and that only if it was full (own)
pub record LacksForQueue (open_before : ℕ) (old new : TablePlaces) : Type 0 where
  pub same : new ≡ record old { queue_places = new.queue_places }
  pub queues : open_before < old.queue_places → new.queue_places ≡ old.queue_places

-- which tables an opening that came to this lengthens, where so many queues were open (own)
abbrev pub GrowsAsOpened : ℕ → Result QueueId Refusal → TablePlaces → TablePlaces → Type 0
GrowsAsOpened open_before (Ok queue) old new = GrowsForQueue open_before old new
GrowsAsOpened open_before (Err why) old new = LacksForQueue open_before old new

-- the same, where those were open that a history tells of
abbrev pub GrowsByOpening : Core → Result QueueId Refusal → Core → Type 0
GrowsByOpening old result new = GrowsAsOpened (length (openings (beginning old.history) old.history.entries).queues) result old.places new.places

-- an event leaves all places where it may not want memory: so does an opening that is refused
abbrev pub KeepsPlaces : Event → Core → Core → Type 0
KeepsPlaces event old new = may_lack_memory event (due old.history event) ≡ false → new.places ≡ old.places

-- one of the open queues was closed: its list of errors went with it, in the place that the queue had among these, and each other table has
-- as many places as before (own)
pub record LosesQueue (queues : List OpenQueue) (queue : QueueId) (old new : TablePlaces) : Type 0 where
  pub before : List ℕ
  pub lost : ℕ
  pub behind : List ℕ
  pub place : option_map (λ q. q.queue) (slice_get queues (length before)) ≡ Some queue
  pub errors : old.error_places ≡ before ++ lost ∷ behind
  pub others : new ≡ record old { error_places = before ++ behind }

-- what becomes of the places by the close of one of the open queues that is due this: refused it leaves them (own)
abbrev pub ClosesAsDue : Owed → List OpenQueue → QueueId → TablePlaces → TablePlaces → Type 0
ClosesAsDue (enters _ _) queues queue old new = LosesQueue queues queue old new
ClosesAsDue _ queues queue old new = new ≡ old

-- the same, where those are open that a history tells of (own)
abbrev pub ClosesInPlace : QueueId → Core → Core → Type 0
ClosesInPlace queue old new =
    ClosesAsDue (due old.history (event.Call (Close queue))) (openings (beginning old.history) old.history.entries).queues queue old.places new.places

-- a call leaves all places, but a close, with which its queue's list of errors goes (own)
abbrev pub CalledInPlace : Call → Core → Core → Type 0
CalledInPlace (Close queue) old new = ClosesInPlace queue old new
CalledInPlace _ old new = new.places ≡ old.places

-- an opening keeps the places so, and a call; every other request leaves all of them, even where it may want memory: a launch, which gets
-- memory for what its packet holds, finds a place for that in the table
abbrev pub ServedInPlace : CoreRequest → Core → Core → Type 0
ServedInPlace (request.Open client agent size) old new = KeepsPlaces (event.Open client agent size) old new
ServedInPlace (request.Take queue packet bytes) old new = new.places ≡ old.places
ServedInPlace (request.Call asked) old new = CalledInPlace asked old new
ServedInPlace (request.Query asked) old new = new.places ≡ old.places
ServedInPlace (request.Reload policy) old new = new.places ≡ old.places
