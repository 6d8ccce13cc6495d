-- What is drawn of an audit, entry by entry (own). This file alone speaks of events.
use Rattle.std.specs.Prelude.{ℕ, ◌+◌, ◌==◌, Bool, false, nat_lt, List, [], ◌∷◌, length, Option, Some, None, if◌then◌else◌}
use Rattle.aql_packet.specs.declared.ids.QueueId.{QueueId}
use Rattle.aql_packet.specs.declared.ids.PacketId.{PacketId}
use Rattle.aql_packet.specs.declared.packet.Packet.{Packet}
use Rattle.aql_packet.specs.declared.packet.Packet.TheVariants as packet
use Rattle.aql_packet.specs.Reading.{decoded}
use Rattle.core_model.specs.declared.event.Event.{Event}
use Rattle.core_model.specs.declared.event.Event.TheVariants as event
use Rattle.core_model.specs.declared.call.Call.{Call}
use Rattle.core_model.specs.declared.call.Call.TheVariants as call
use Rattle.core_model.specs.declared.outcome.Outcome.{Outcome}
use Rattle.core_model.specs.declared.outcome.Outcome.TheVariants as outcome
use Rattle.core_model.specs.declared.outcome.Taken.TheVariants as taken
use Rattle.core_model.specs.declared.outcome.Worked.TheVariants as worked
use Rattle.core_model.specs.declared.outcome.Polled.TheVariants as polled
use Rattle.core_model.specs.declared.origin.Opening.{Opening}
use Rattle.core_model.specs.declared.entry.Entry.{Entry}
use Rattle.picture.specs.declared.element.Work.{Work}
use Rattle.picture.specs.declared.element.Work.TheVariants as work
use Rattle.picture.specs.declared.element.Ending.{Ending}
use Rattle.picture.specs.declared.element.Ending.TheVariants as ending
use Rattle.picture.specs.declared.element.Sign.{Sign}
use Rattle.picture.specs.declared.element.Sign.TheVariants as sign
use Rattle.picture.specs.declared.element.Spot.{Spot}
use Rattle.picture.specs.declared.element.Element.{Element}
use Rattle.picture.specs.declared.reading.End.{End}
use Rattle.picture.specs.declared.seats.Seat.{Seat}
use Rattle.picture.specs.Seats.{free_row, releases, row_at}

-- the greater of two numbers
abbrev pub greater : ℕ → ℕ → ℕ
greater a b = if nat_lt a b then b else a

-- ---- where an entry stands

-- in the lane of a queue, in its first row
abbrev pub in_lane : ℕ → QueueId → Spot
in_lane at queue = record { at = at; lane = queue.0; row = 0 }

-- in a row of the lane of a queue
abbrev pub in_row : ℕ → QueueId → ℕ → Spot
in_row at queue row = record { at = at; lane = queue.0; row = row }

-- in the lane of the administrator and of clients
abbrev pub at_hosts : ℕ → Spot
at_hosts at = record { at = at; lane = 0; row = 0 }

-- the queue that an opening opened
abbrev pub opened : Outcome → QueueId
opened (outcome.Opened queue) = queue
opened _ = record { 0 = 0 }

-- where an event stands, by what it came to and by the seats before it: a packet that is handed over in the first row that is free
abbrev pub spot_of_event : List Seat → ℕ → Event → Outcome → Spot
spot_of_event seats at (event.Open client agent size) out = in_lane at (opened out)
spot_of_event seats at (event.Call (call.Stop queue)) out = in_lane at queue
spot_of_event seats at (event.Call (call.Close queue)) out = in_lane at queue
spot_of_event seats at (event.Take queue id bytes) out = in_row at queue (free_row seats queue)
spot_of_event seats at (event.Call (call.RunNext queue id)) out = in_row at queue (row_at seats queue id)
spot_of_event seats at (event.Call (call.Poll queue id)) out = in_row at queue (row_at seats queue id)
spot_of_event seats at (event.Call (call.Finish queue id)) out = in_row at queue (row_at seats queue id)
spot_of_event seats at (event.Call (call.Grant client object rights)) out = at_hosts at
spot_of_event seats at (event.Call (call.Revoke client object rights)) out = at_hosts at
spot_of_event seats at (event.Call (call.HostWrite client address bytes)) out = at_hosts at
spot_of_event seats at (event.Call (call.ChangeSignal client signal operation)) out = at_hosts at
spot_of_event seats at (event.Reload rows) out = at_hosts at

-- where an entry stands
abbrev pub spot_of : List Seat → ℕ → Entry → Spot
spot_of seats at entry = spot_of_event seats at entry.event entry.outcome

-- ---- how far a packet's bar reaches

-- how a packet ended that an entry releases, by the entry's event
abbrev pub ending_of : Event → Ending
ending_of (event.Call (call.Finish queue id)) = ending.Finished
ending_of (event.Call (call.RunNext queue id)) = ending.Faulted
ending_of (event.Call (call.Poll queue id)) = ending.Failed
ending_of _ = ending.Stopped

-- the entry that ends a packet in flight, and how: the first of those behind the n-th that releases it, else the last
unfoldable pub end_of : QueueId → PacketId → ℕ → List Entry → End
end_of queue id n [] = record { at = n; ending = ending.Open }
end_of queue id n (entry ∷ after) =
    if releases queue id entry then record { at = n + 1; ending = ending_of entry.event } else end_of queue id (n + 1) after

-- whether an event closes a queue
abbrev pub closes : QueueId → Event → Bool
closes queue (event.Call (call.Close closed)) = closed.0 == queue.0
closes queue _ = false

-- the entry that closes a queue: the first of those behind the n-th that does, else the last
unfoldable pub close_of : QueueId → ℕ → List Entry → ℕ
close_of queue n [] = n
close_of queue n (entry ∷ after) = if closes queue entry.event then n + 1 else close_of queue (n + 1) after

-- ---- what it is drawn as

-- what a packet is
abbrev pub work_of : Option Packet → Work
work_of (Some (packet.Kernel dispatch)) = work.Kernel dispatch.kernel_object
work_of (Some (packet.Agent dispatch)) = work.Agent dispatch.function
work_of (Some (packet.BarrierAnd barrier)) = work.BarrierAnd
work_of (Some (packet.BarrierOr barrier)) = work.BarrierOr
work_of None = work.Agent 0

-- what the hand-over of a packet is drawn as
abbrev pub sign_of_take : PacketId → List ℕ → Ending → Outcome → Sign
sign_of_take id bytes end (outcome.Taken taken.Launched) = sign.Bar id (work_of (decoded bytes)) end
sign_of_take id bytes end (outcome.Taken (taken.Denied error)) = sign.Denial error
sign_of_take id bytes end _ = sign.Nothing

-- what the work of a group is drawn as
abbrev pub sign_of_work : PacketId → Outcome → Sign
sign_of_work id (outcome.Worked (worked.Ran group left)) = sign.Group id group
sign_of_work id (outcome.Worked (worked.Faulted error)) = sign.Fault error
sign_of_work id _ = sign.Nothing

-- what a poll is drawn as
abbrev pub sign_of_poll : PacketId → Outcome → Sign
sign_of_poll id (outcome.Polled (polled.Pending seen)) = sign.Look id seen
sign_of_poll id (outcome.Polled (polled.Ready seen)) = sign.Look id seen
sign_of_poll id (outcome.Polled (polled.Failed error)) = sign.Failure error
sign_of_poll id _ = sign.Nothing

-- what the entry of a call is drawn as
abbrev pub sign_of_call : Call → Outcome → Sign
sign_of_call (call.Grant client object rights) out = sign.Grant client object rights
sign_of_call (call.Revoke client object rights) out = sign.Revocation client object rights
sign_of_call (call.Stop queue) out = sign.Stop
sign_of_call (call.Close queue) out = sign.Close
sign_of_call (call.RunNext queue id) out = sign_of_work id out
sign_of_call (call.Poll queue id) out = sign_of_poll id out
sign_of_call (call.Finish queue id) out = sign.Completion id
sign_of_call (call.HostWrite client address bytes) out = sign.Write client
sign_of_call (call.ChangeSignal client signal operation) out = sign.Change client

-- what an entry is drawn as; `end` is how its packet ended, if it launches one
abbrev pub sign_of : Ending → Event → Outcome → Sign
sign_of end (event.Open client agent size) out = sign.Lane (opened out) client agent
sign_of end (event.Take queue id bytes) out = sign_of_take id bytes end out
sign_of end (event.Call asked) out = sign_of_call asked out
sign_of end (event.Reload rows) out = sign.Reload (length rows.allows) (length rows.denies)

-- how far an entry's sign reaches, by what the entry came to: a lane's to its queue's close, a packet's to its release, any other's nowhere
abbrev pub reach_of : ℕ → Event → Outcome → List Entry → End
reach_of at (event.Open client agent size) out after = record { at = close_of (opened out) at after; ending = ending.Open }
reach_of at (event.Take queue id bytes) out after = end_of queue id at after
reach_of at _ out after = record { at = at; ending = ending.Open }

-- what is drawn of the entry at a place, from 1, behind these seats and before others
abbrev pub element_of : List Seat → ℕ → Entry → List Entry → Element
element_of seats at entry after = record {
  spot = spot_of seats at entry;
  until = (reach_of at entry.event entry.outcome after).at;
  sign = sign_of (reach_of at entry.event entry.outcome after).ending entry.event entry.outcome;
}

-- ---- what an audit begins from, at the place 0

-- the lane of a queue with which an audit of these entries begins
abbrev pub lane_from_start : List Entry → QueueId → Opening → Element
lane_from_start entries queue opening = record {
  spot = in_lane 0 queue;
  until = close_of queue 0 entries;
  sign = sign.Lane queue opening.client opening.agent;
}

-- the stop of a queue that was stopped before
abbrev pub stop_before : QueueId → Element
stop_before queue = record { spot = in_lane 0 queue; until = 0; sign = sign.Stop }

-- the bar of a packet that is in flight from the start on
abbrev pub bar_from_start : List Entry → Seat → Element
bar_from_start entries seat = record {
  spot = in_row 0 seat.flying.queue seat.row;
  until = (end_of seat.flying.queue seat.flying.id 0 entries).at;
  sign = sign.Bar seat.flying.id (work_of (Some seat.flying.packet)) (end_of seat.flying.queue seat.flying.id 0 entries).ending;
}
