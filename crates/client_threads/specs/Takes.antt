-- What was taken of a queue by a history's entries, and where it differs from what its lane served (own).
use Rattle.std.specs.Prelude.{◌≡◌, ◌≢◌, ℕ, ◌==◌, ◌<◌, List, [], take, slice_get, Option, Some, None}
use Rattle.std.specs.List.{find}
use Rattle.core_model.specs.declared.event.Event.{Event}
use Rattle.core_model.specs.declared.entry.Entry.{Entry}
use Rattle.core_model.specs.declared.served.Served.{Served}
use Rattle.core_model.specs.Takes as of_queue
use Rattle.client_threads.specs.Lanes.{LaneSeen}

-- of the queue with this number, the packet that an event hands over, if it does
abbrev pub taken_by : ℕ → Event → Option Served
taken_by queue event = of_queue.taken_by (record { 0 = queue }) event

-- the packets of that queue that entries launched or denied, in order: ids and bytes
abbrev pub takes : List Entry → ℕ → List Served
takes entries queue = of_queue.takes entries (record { 0 = queue })

-- the lane of a queue, if it is among these
abbrev pub lane_at : ℕ → List LaneSeen → Option LaneSeen
lane_at queue lanes = find (λ lane. lane.queue.0 == queue) lanes

abbrev pub served_in : Option LaneSeen → List Served
served_in None = []
served_in (Some lane) = lane.served

-- what the lane of a queue served; of a queue without a lane, nothing
abbrev pub served_by : List LaneSeen → ℕ → List Served
served_by lanes queue = served_in (lane_at queue lanes)

-- of each queue was taken what its lane served
abbrev pub AllAgree : List Entry → List LaneSeen → Type 0
AllAgree entries lanes = (queue : ℕ) → takes entries queue ≡ served_by lanes queue

-- two lists agree below a place, and differ there
pub record DiffersAt (xs ys : List Served) (place : ℕ) : Type 0 where
  pub below : take place xs ≡ take place ys
  pub there : slice_get xs place ≢ slice_get ys place

-- this is the least queue of which something else was taken than its lane served, and the least id at which
pub record IsLeastMismatch (entries : List Entry) (lanes : List LaneSeen) (queue id : ℕ) : Type 0 where
  pub before : (other : ℕ) → other < queue → takes entries other ≡ served_by lanes other
  pub differs : DiffersAt (takes entries queue) (served_by lanes queue) id
