-- Which queues have a lane, from the top, and how many rows each needs (own): each queue that was open when the first entry that is drawn
-- was made, and each that was opened since.
use Rattle.std.specs.Prelude.{ℕ, ◌+◌, ◌==◌, Bool, nat_le, nat_lt, List, [], ◌∷◌, ◌++◌, length, map, remove, slice_get, slice_set, if◌then◌else◌}
use Rattle.std.specs.Option.{option_map_or}
use Rattle.core_model.specs.declared.event.Event.{Event}
use Rattle.core_model.specs.declared.event.Event.TheVariants as event
use Rattle.core_model.specs.declared.call.Call.TheVariants as call
use Rattle.core_model.specs.declared.entry.Entry.{Entry}
use Rattle.core_model.specs.declared.origin.QueueOrigin.{QueueOrigin}
use Rattle.core_model.specs.declared.outcome.Outcome.{Outcome}
use Rattle.picture.specs.declared.element.Lane.{Lane}
use Rattle.picture.specs.declared.seats.Seat.{Seat}
use Rattle.picture.specs.Reading.{greater, opened, spot_of}
use Rattle.picture.specs.Seats.{seats_after}

-- a queue's lane, of one row
abbrev pub lane_for : ℕ → Lane
lane_for queue = record { queue = queue; depth = 0 }

-- the place of a queue's lane among these, from 0; how many there are, where it has none
unfoldable pub place_of : List Lane → ℕ → ℕ
place_of [] queue = 0
place_of (lane ∷ lanes) queue = if lane.queue == queue then 0 else 1 + place_of lanes queue

-- a lane as deep as a row, where it isn't as deep
abbrev pub deeper : Lane → ℕ → Lane
deeper lane row = record { queue = lane.queue; depth = greater lane.depth row }

-- the lane of a queue as deep as a row, if there is one
abbrev pub deepened : List Lane → ℕ → ℕ → List Lane
deepened lanes queue row =
    option_map_or (λ lane. slice_set lanes (place_of lanes queue) (deeper lane row)) (slice_get lanes (place_of lanes queue)) lanes

-- the lanes without that of a queue
abbrev pub without : List Lane → ℕ → List Lane
without lanes queue = if nat_lt (place_of lanes queue) (length lanes) then remove lanes (place_of lanes queue) else lanes

-- the lanes behind an event: that of a queue that it opens is the last, and that of one that it closes goes, where it isn't drawn
abbrev pub lanes_behind : Bool → List Lane → Event → Outcome → List Lane
lanes_behind is_drawn lanes (event.Open client agent size) out = lanes ++ lane_for (opened out).0 ∷ []
lanes_behind is_drawn lanes (event.Call (call.Close queue)) out = if is_drawn then lanes else without lanes queue.0
lanes_behind is_drawn lanes _ out = lanes

-- the lanes behind an entry, before which packets have these seats: as deep as the row in which it stands
abbrev pub lanes_after : Bool → List Lane → List Seat → Entry → List Lane
lanes_after is_drawn lanes seats entry =
    lanes_behind is_drawn (deepened lanes (spot_of seats 0 entry).lane (spot_of seats 0 entry).row) entry.event entry.outcome

-- the lanes behind entries, of which so many aren't drawn, and behind so many others
unfoldable pub lanes_in : ℕ → ℕ → List Lane → List Seat → List Entry → List Lane
lanes_in skipped n lanes seats [] = lanes
lanes_in skipped n lanes seats (entry ∷ entries) =
    lanes_in skipped (n + 1) (lanes_after (nat_le skipped n) lanes seats entry) (seats_after seats entry) entries

-- the lanes as deep as the rows that seats are in
unfoldable pub lanes_of : List Lane → List Seat → List Lane
lanes_of lanes [] = lanes
lanes_of lanes (seat ∷ seats) = lanes_of (deepened lanes seat.flying.queue.0 seat.row) seats

-- the lanes of queues with which an audit begins, each of one row
abbrev pub lanes_from : List QueueOrigin → List Lane
lanes_from queues = map (λ queue. lane_for queue.queue.0) queues
