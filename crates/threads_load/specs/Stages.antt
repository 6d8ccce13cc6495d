-- A broker with the ends and the lanes of its queues (own).
use Rattle.std.specs.Prelude.{◌≡◌, ℕ, ◌<◌, ◌≤◌, ◌+◌, List, [], ◌∷◌, ◌++◌, All, Some, length, slice_index_or}
use Rattle.std.specs.List.{sum_by}
use mathlib.Core.List.{IsPrefix}
use Rattle.atomic_table.specs.Seated.{TableId}
use Rattle.access_core.specs.Cores.{Core}
use Rattle.core_model.specs.History.{Part, beginning}
use Rattle.core_model.specs.Limits.{most_queues}
use Rattle.core_model.specs.Queues.{owner}
use Rattle.core_model.specs.declared.origin.Opening.{Opening}
use Rattle.client_threads.specs.HandedOver.{AreSettledWith}
use Rattle.client_threads.specs.Boards.{FrontSeen, all_shares}
use Rattle.client_threads.specs.Lanes.{LaneSeen, share_of}
use Rattle.client_threads.specs.declared.client_end.ClientEnd.{ClientEnd}
use Rattle.client_threads.specs.Rings.{QueueRing}
use Rattle.client_threads.specs.Running.{IsEndOf, IsLaneOf}
use Rattle.threads_load.specs.Grantings.{HasAllAllowed}
use Rattle.threads_load.specs.Limits.{load_slots}
use Rattle.threads_load.specs.declared.opening.Stage.{Stage}
use Rattle.threads_load.specs.declared.plan.PlannedQueue.{PlannedQueue}

-- a front and those of lanes, one share each, have all shares of the right to make sections (own)
pub record HaveShares (front : FrontSeen) (lanes : List LaneSeen) : Type 0 where
  pub few : length lanes ≤ most_queues
  pub each : sum_by share_of lanes ≡ length lanes
  pub all : front.share + length lanes ≡ all_shares

-- there are as many lanes, with as many shares (own)
pub record KeepShares (old new : List LaneSeen) : Type 0 where
  pub count : length new ≡ length old
  pub shares : sum_by share_of new ≡ sum_by share_of old

-- of a broker with this board are the front, each end and each lane of a stage, which have all shares, and its lanes handed over what these
-- parts took (own)
pub record IsStageWith {B : Type 0} (board : TableId) (parts : List Part) (stage : Stage B) : Type 0 where
  pub front : stage.front.board ≡ board
  pub ends : All (λ end. IsEndOf stage.broker end) stage.ends.items
  pub lanes : All (λ lane. IsLaneOf board stage.broker lane) stage.lanes.items
  pub settled : AreSettledWith parts stage.lanes.items
  pub shares : HaveShares stage.front stage.lanes.items

-- the same, where nothing was handed out (own)
abbrev pub IsStage : {B : Type 0} → TableId → Stage B → Type 0
IsStage board stage = IsStageWith board [] stage

-- the ring of a load's queue has 16 slots, and so many producers (own)
pub record IsLoadRing (producers : ℕ) (r : QueueRing) : Type 0 where
  pub size_is : r.ring.size ≡ load_slots
  pub producers_is : r.ring.producers ≡ producers

-- an end became one that is of the broker's ring for its queue (own)
pub record StaysOf (rings : List QueueRing) (old new : ClientEnd) : Type 0 where
  pub is : IsEndOf rings new

-- the end at each place did (own)
abbrev pub EachStaysOf : List QueueRing → List ClientEnd → List ClientEnd → Type 0
EachStaysOf rings old new = (place : ℕ) (d : ClientEnd) → place < length old → StaysOf rings (slice_index_or old place d) (slice_index_or new place d)

-- the opening of a planned queue: its client's, on its agent (own)
abbrev pub opening_for : PlannedQueue → Opening
opening_for planned = record { client = planned.client; agent = planned.agent }

-- a core has the queue at a place of a plan, under the number of the place: it was opened by the planned client on the planned agent (own)
abbrev pub HasQueueAt : Core → List PlannedQueue → ℕ → Type 0
HasQueueAt core plan place = (d : PlannedQueue) →
    owner (beginning core.history) core.history.entries (record { 0 = place + 1 }) ≡ Some (opening_for (slice_index_or plan place d))

-- a core has the queues of a plan, in order, numbered from 1 on: each was opened by the planned client on the planned agent (own)
abbrev pub HasQueues : Core → List PlannedQueue → Type 0
HasQueues core plan = (place : ℕ) (d : PlannedQueue) → place < length plan →
    owner (beginning core.history) core.history.entries (record { 0 = place + 1 }) ≡ Some (opening_for (slice_index_or plan place d))

-- lanes are those of so many queues, in order, which are numbered from 1 on (own)
pub record AreOf (queues : ℕ) (lanes : List LaneSeen) : Type 0 where
  pub count : length lanes ≡ queues
  pub numbers : (place : ℕ) (d : LaneSeen) → place < length lanes → (slice_index_or lanes place d).queue.0 ≡ place + 1

-- one of the states in which sections left a core, of those that were seen, is such (own)
pub record WasLeft (seen : List Core) (Is : Core → Type 0) : Type 0 where
  pub before : List Core
  pub core : Core
  pub begins : IsPrefix (before ++ core ∷ []) seen
  pub is : Is core

-- a stage is ready for the load of a plan: all that the policy allows was granted, the planned queues were opened, each by its client on
-- its agent, and its lanes are just theirs (own)
pub record IsReady {B : Type 0} (plan : List PlannedQueue) (stage : Stage B) : Type 0 where
  pub granted : WasLeft stage.front.left (λ left. HasAllAllowed left.history)
  pub queues : WasLeft stage.front.left (λ left. HasQueues left plan)
  pub lanes : AreOf (length plan) stage.lanes.items
