-- What a lane's turn does to it, and to the core.
use Rattle.std.specs.Prelude.{◌≡◌, ◌≢◌, ◌⊎◌, ◌++◌, ◌∷◌, [], List, length, Option, Some, None, Result, Ok, Err, ⊤}
use Rattle.aql_packet.specs.declared.ids.PacketId.{PacketId}
use Rattle.aql_packet.specs.declared.ids.QueueId.{QueueId}
use Rattle.atomic_table.specs.Seated.{TableId}
use Rattle.policy.specs.Results.{map_ok}
use Rattle.ring.specs.declared.processor.Shown.{Shown}
use Rattle.ring.specs.declared.processor.Peeked.{Peeked}
use Rattle.ring.specs.declared.processor.Peeked.TheVariants as peeked
use Rattle.ring.specs.Made.{retiring}
use Rattle.ring.specs.Passes.{ProcessorSeen, RingSeen}
use Rattle.ring.specs.Showing.{IsShownBy, ProcessorGains}
use Rattle.core_model.specs.History.{History}
use Rattle.core_model.specs.Legal.{Meets, MeetsOrLacks}
use Rattle.core_model.specs.declared.call.Call.TheVariants.{Finish, RunNext}
use Rattle.core_model.specs.declared.entry.Entry.{Entry}
use Rattle.core_model.specs.declared.event.Event.TheVariants.{Call}
use Rattle.core_model.specs.declared.outcome.Outcome.TheVariants as outcome
use Rattle.core_model.specs.declared.outcome.Taken.{Taken}
use Rattle.core_model.specs.declared.outcome.Taken.TheVariants as taken
use Rattle.core_model.specs.declared.outcome.Worked.{Worked}
use Rattle.core_model.specs.declared.refusal.Refusal.{Refusal}
use Rattle.core_model.specs.declared.refusal.Refusal.TheVariants as refusal
use Rattle.client_threads.specs.declared.serving.ServeAnswer.{ServeAnswer}
use Rattle.client_threads.specs.declared.serving.ServeAnswer.TheVariants.{Empty, Launched, Denied, Waiting, Refused}
use Rattle.access_core.specs.Cores.{Core}
use Rattle.client_threads.specs.declared.lanes.LaneAnswer.{LaneAnswer}
use Rattle.client_threads.specs.Advancing.{AdvancesTo}
use Rattle.client_threads.specs.Lanes.{LaneSeen}
use Rattle.client_threads.specs.Rings.{QueueRing}
use Rattle.client_threads.specs.Running.{AreTurns, GoesOn, IsLaneOf}
use Rattle.client_threads.specs.Sections.{IsSection, Stand, seen_entries}
use Rattle.client_threads.specs.Serving.{served_of, take_of}
use Rattle.client_threads.specs.Takes.{takes}

-- a lane served what the core took of its queue meanwhile: entries were added, and no other handed out
pub record ServesIn (old : LaneSeen) (before : History) (new : LaneSeen) (after : History) : Type 0 where
  pub queue : new.queue ≡ old.queue
  pub table : new.pass.table ≡ old.pass.table
  pub front : new.front ≡ old.front
  pub entries : List Entry
  pub history : after ≡ record before { entries = before.entries ++ entries }
  pub served : new.served ≡ old.served ++ takes entries old.queue.0
  pub kept : new.kept ≡ old.kept ++ takes entries old.queue.0

-- what a lane served stands among what it has seen
abbrev pub StandsIn : LaneSeen → Type 0
StandsIn lane = Stand lane.served (takes (seen_entries lane.front.left) lane.queue.0)

-- what was found, if it is a packet, is what the pass has collected
abbrev pub IsFoundBy : Peeked → ProcessorSeen → Type 0
IsFoundBy peeked.Empty pass = ⊤
IsFoundBy (peeked.Shown shown) pass = IsShownBy shown pass

-- the packet that the pass had collected was taken: the audit gains the entry that is due, the slot is retired, and the packet is served and kept
pub record IsHanded (ring : RingSeen) (shown : Shown) (old : LaneSeen) (before : History) (became : Taken) (pending : List PacketId) (new : LaneSeen) (after : History) : Type 0 where
  pub taken : Meets (take_of old shown) before after (Ok (outcome.Taken became))
  pub retired : ProcessorGains ring old.pass (retiring (length old.pass.part.retired)) new.pass
  pub lane : new ≡ record { queue = old.queue; pass = new.pass; served = old.served ++ served_of shown ∷ []; kept = old.kept ++ served_of shown ∷ []; pending = pending; front = old.front }

-- it was not taken, and all stays
pub record IsKeptBack (shown : Shown) (old : LaneSeen) (before : History) (reply : Result Taken Refusal) (new : LaneSeen) (after : History) : Type 0 where
  pub due : (reply ≡ Err refusal.OutOfMemory) ⊎ Meets (take_of old shown) before after (map_ok outcome.Taken reply)
  pub audit : after ≡ before
  pub lane : new ≡ old

abbrev pub HandsTo : RingSeen → Shown → LaneSeen → History → ServeAnswer → LaneSeen → History → Type 0
HandsTo ring shown old before Empty new after = ⊥
HandsTo ring shown old before (Launched id) new after = (shown.id ≡ id) × IsHanded ring shown old before taken.Launched (old.pending ++ id ∷ []) new after
HandsTo ring shown old before (Denied error) new after = IsHanded ring shown old before (taken.Denied error) old.pending new after
HandsTo ring shown old before (Waiting id cause) new after = (shown.id ≡ id) × IsKeptBack shown old before (Ok (taken.Waiting cause)) new after
HandsTo ring shown old before (Refused id why) new after = (shown.id ≡ id) × IsKeptBack shown old before (Err why) new after

-- what was found was handed over, if it is a packet; else all stays
abbrev pub FoundTo : RingSeen → Peeked → LaneSeen → History → ServeAnswer → LaneSeen → History → Type 0
FoundTo ring peeked.Empty old before answer new after = (answer ≡ Empty) × (new ≡ old) × (after ≡ before)
FoundTo ring (peeked.Shown shown) old before answer new after = HandsTo ring shown old before answer new after

-- there is something to do: a packet was found, or one is pending
abbrev pub HasWork : Peeked → LaneSeen → Type 0
HasWork peeked.Empty lane = lane.pending ≢ []
HasWork (peeked.Shown shown) lane = ⊤

-- a lane handed over what its pass had found, and then advanced its first pending packet
pub record DoesFound (ring : RingSeen) (found : Peeked) (old : LaneSeen) (before : History) (answer : LaneAnswer) (new : LaneSeen) (after : History) : Type 0 where
  pub mid : LaneSeen
  pub between : History
  pub serves : FoundTo ring found old before answer.served mid between
  pub advances : AdvancesTo mid between answer.advanced new after

-- it did so in a section of its own
pub record IsFoundTurn (opened : Core) (ring : RingSeen) (found : Peeked) (old : LaneSeen) (answer : LaneAnswer) (new : LaneSeen) : Type 0 where
  pub left : LaneSeen
  pub section : IsSection opened old.front new.front (λ before after. DoesFound ring found old before.history answer left after.history)
  pub new_is : new ≡ record left { front = new.front }

-- a lane went on, and is of the broker still
pub record StaysOn (board : TableId) (rings : List QueueRing) (old new : LaneSeen) : Type 0 where
  pub on : GoesOn old new
  pub lane : IsLaneOf board rings new

-- a lane made turns
pub record HasTurned (opened : Core) (ring : RingSeen) (old new : LaneSeen) : Type 0 where
  pub answers : List LaneAnswer
  pub turns : AreTurns opened ring old answers new

-- what the next group of a packet came to, if it ran or faulted: the packet couldn't be finished before; else all stays
abbrev pub RunsTo : QueueId → PacketId → History → Option Worked → History → Type 0
RunsTo queue id before None after = after ≡ before
RunsTo queue id before (Some came) after =
    MeetsOrLacks (Call (RunNext queue id)) before after (Ok (outcome.Worked came))
    × Meets (Call (Finish queue id)) before before (Err refusal.NotFinished)

-- a lane looked, and all stays but what its pass knows
pub record Looks (old new : LaneSeen) : Type 0 where
  pub table : new.pass.table ≡ old.pass.table
  pub lane : new ≡ record old { pass = new.pass }

-- a lane's front is of a board, and what the lane served stands among what it has seen
pub record HasSeen (board : TableId) (lane : LaneSeen) : Type 0 where
  pub board_is : lane.front.board ≡ board
  pub stands : StandsIn lane
