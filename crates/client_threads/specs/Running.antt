-- Which ends and lanes are of a broker, and what running does to lanes (own).
use Rattle.std.specs.Prelude.{◌≡◌, ◌≢◌, ◌⊎◌, ◌++◌, ◌∷◌, ◌<◌, ℕ, [], List, length, slice_index_or}
use Rattle.atomic_table.specs.Seated.{TableId}
use Rattle.ring.specs.Passes.{RingSeen}
use Rattle.ring.specs.Showing.{HasPeeked}
use Rattle.ring.specs.declared.processor.Peeked.TheVariants as peeked
use Rattle.aql_packet.specs.declared.ids.PacketId.{PacketId}
use Rattle.aql_packet.specs.declared.ids.QueueId.{QueueId}
use Rattle.ring.specs.declared.processor.Shown.{Shown}
use Rattle.core_model.specs.History.{History}
use Rattle.core_model.specs.Legal.{entry_of}
use Rattle.core_model.specs.declared.call.Call.TheVariants.{Finish, Poll, RunNext}
use Rattle.core_model.specs.declared.entry.Effect.{Effect}
use Rattle.core_model.specs.declared.entry.Entry.{Entry}
use Rattle.core_model.specs.declared.event.Event.{Event}
use Rattle.core_model.specs.declared.event.Event.TheVariants.{Call, Take}
use Rattle.core_model.specs.declared.outcome.Outcome.{Outcome}
use Rattle.access_core.specs.Cores.{Core}
use Rattle.client_threads.specs.declared.advancing.Advanced.TheVariants.{Idle}
use Rattle.client_threads.specs.declared.client_end.ClientEnd.{ClientEnd}
use Rattle.client_threads.specs.declared.lanes.LaneAnswer.{LaneAnswer}
use Rattle.client_threads.specs.declared.serving.ServeAnswer.TheVariants.{Empty}
use Rattle.core_model.specs.declared.served.Served.{Served}
use Rattle.client_threads.specs.Advancing.{AdvancesTo}
use Rattle.client_threads.specs.Lanes.{LaneSeen}
use Rattle.client_threads.specs.Rings.{IsOf, IsRingOf, QueueRing}
use Rattle.client_threads.specs.Sections.{IsSection, Stand, seen_entries}
use Rattle.client_threads.specs.Serving.{ServesTo}
use Rattle.client_threads.specs.Takes.{takes}

-- an end is of the broker's ring for its queue
pub record IsEndOf (rings : List QueueRing) (end : ClientEnd) : Type 0 where
  pub is : IsOf rings end.queue.0 end.pass.table

-- a lane is of the broker with this board: of its ring for its queue, with a front of that board; and what the lane served stands, in order,
-- among what the core took of the queue, by the states that the front has seen
pub record IsLaneOf (board : TableId) (rings : List QueueRing) (lane : LaneSeen) : Type 0 where
  pub is : IsOf rings lane.queue.0 lane.pass.table
  pub board_is : lane.front.board ≡ board
  pub stands : Stand lane.served (takes (seen_entries lane.front.left) lane.queue.0)

-- a lane handed over what its ring showed, and then advanced its first pending packet
pub record DoesTurn (ring : RingSeen) (old : LaneSeen) (before : History) (answer : LaneAnswer) (new : LaneSeen) (after : History) : Type 0 where
  pub mid : LaneSeen
  pub between : History
  pub serves : ServesTo ring old before answer.served mid between
  pub advances : AdvancesTo mid between answer.advanced new after

-- what is told of a turn in which there was nothing to do
abbrev pub nothing_done : LaneAnswer
nothing_done = record { served = Empty; advanced = Idle }

-- a turn in a section of the lane's own, which did just this: nothing else was entered in it; and the ring showed a packet, or one was pending
pub record IsBusyTurn (opened : Core) (ring : RingSeen) (old : LaneSeen) (answer : LaneAnswer) (new : LaneSeen) : Type 0 where
  pub some : answer ≢ nothing_done
  pub left : LaneSeen
  pub section : IsSection opened old.front new.front (λ before after. DoesTurn ring old before.history answer left after.history)
  pub new_is : new ≡ record left { front = new.front }

-- a turn without a section: the ring showed no packet, and none was pending
pub record IsIdleTurn (ring : RingSeen) (old : LaneSeen) (answer : LaneAnswer) (new : LaneSeen) : Type 0 where
  pub peeked : HasPeeked ring old.pass peeked.Empty new.pass
  pub none : old.pending ≡ []
  pub answer_is : answer ≡ nothing_done
  pub new_is : new ≡ record old { pass = new.pass }

abbrev pub IsTurn : Core → RingSeen → LaneSeen → LaneAnswer → LaneSeen → Type 0
IsTurn opened ring old answer new = IsIdleTurn ring old answer new ⊎ IsBusyTurn opened ring old answer new

-- a lane made these turns, each from where the one before left it, and nothing else was done to it
abbrev pub AreTurns : Core → RingSeen → LaneSeen → List LaneAnswer → LaneSeen → Type 0
AreTurns opened ring old [] new = new ≡ old
AreTurns opened ring old (answer ∷ rest) new = (mid : LaneSeen) × IsTurn opened ring old answer mid × AreTurns opened ring mid rest new

-- at most this call's entry was entered
abbrev pub IsAtMost : Event → List Entry → Type 0
IsAtMost event entries = (entries ≡ []) ⊎ (told : Outcome) × (effects : List Effect) × (entries ≡ entry_of event told effects ∷ [])

-- a call for a packet that is in flight
abbrev pub IsCallFor : QueueId → PacketId → Event → Type 0
IsCallFor queue id event = (event ≡ Call (Finish queue id)) ⊎ ((event ≡ Call (Poll queue id)) ⊎ (event ≡ Call (RunNext queue id)))

-- entries were added: at most a take of this queue, and then at most one call for a packet of it
pub record EntersOwn (queue : QueueId) (before after : History) : Type 0 where
  pub taken : List Entry
  pub advanced : List Entry
  pub history : after ≡ record before { entries = before.entries ++ (taken ++ advanced) }
  pub take_is : (taken ≡ []) ⊎ (shown : Shown) × IsAtMost (Take queue shown.id shown.bytes) taken
  pub call_is : (advanced ≡ []) ⊎ (id : PacketId) × (event : Event) × IsCallFor queue id event × IsAtMost event advanced

-- a lane went on: it is of its queue and ring, with its share; what it served begins with what it had served, and it keeps what it kept, and
-- what came then
pub record GoesOn (old new : LaneSeen) : Type 0 where
  pub queue : new.queue ≡ old.queue
  pub table : new.pass.table ≡ old.pass.table
  pub share : new.front.share ≡ old.front.share
  pub more : List Served
  pub served : new.served ≡ old.served ++ more
  pub kept : new.kept ≡ old.kept ++ more

-- a lane went on, and is of the broker still: it made turns, with these answers, on the ring of its queue
pub record KeepsOn (opened : Core) (board : TableId) (rings : List QueueRing) (old new : LaneSeen) : Type 0 where
  pub on : GoesOn old new
  pub lane : IsLaneOf board rings new
  pub ring : RingSeen
  pub ring_is : IsRingOf rings old.queue.0 ring
  pub answers : List LaneAnswer
  pub turns : AreTurns opened ring old answers new

-- the lane at each place did
abbrev pub EachGoesOn : Core → TableId → List QueueRing → List LaneSeen → List LaneSeen → Type 0
EachGoesOn opened board rings old new = (place : ℕ) (d : LaneSeen) → place < length old → KeepsOn opened board rings (slice_index_or old place d) (slice_index_or new place d)
