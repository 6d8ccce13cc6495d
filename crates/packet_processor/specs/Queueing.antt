-- What is known of one queue.
use Rattle.std.specs.Prelude.{◌≡◌, ◌==◌, ◌<◌, ℕ, Bool, nat_lt, List, filter, find, length, map, not, option_map, slice_get, Option, Some, None, if◌then◌else◌}
use Rattle.aql_packet.specs.declared.ids.PacketId.{PacketId}
use Rattle.aql_packet.specs.declared.packet.Packet.{Packet}
use Rattle.core_model.specs.declared.flight.Progress.{Progress}
use Rattle.core_model.specs.declared.outcome.WaitCause.{WaitCause}
use Rattle.core_model.specs.Limits.{launch_progress}
use Rattle.packet_processor.specs.declared.places.FoundPacket.{FoundPacket}
use Rattle.packet_processor.specs.declared.places.Place.{Place}
use Rattle.packet_processor.specs.declared.queue_state.QueueState.{QueueState}
use Rattle.packet_processor.specs.declared.queue_state.State.{State}
use Rattle.packet_processor.specs.declared.queue_state.State.TheVariants.{Running, Error, Stopped}
use Rattle.packet_processor.specs.declared.queue_state.MayLaunch.{MayLaunch}
use Rattle.packet_processor.specs.declared.queue_state.MayLaunch.TheVariants.{Go, Waiting}

-- the place of a packet as it is launched
abbrev pub as_launched : PacketId → Packet → Place
as_launched id p = record { id = id; packet = p; progress = launch_progress }

-- whether a place is that of the packet with an id
abbrev pub is_place_of : PacketId → Place → Bool
is_place_of id place = place.id.0 == id.0

-- a place after its packet has come this far
abbrev pub further : Progress → Place → Place
further so_far place = record place { progress = so_far }

-- a place after the packet with an id has come this far
abbrev pub with_progress : PacketId → Progress → Place → Place
with_progress id so_far place = if is_place_of id place then further so_far place else place

-- the index of the first place that passes a test; none where none does
abbrev pub IsIndexOf : (Place → Bool) → List Place → Option ℕ → Type 0
IsIndexOf test places None = find test places ≡ None
IsIndexOf test places (Some index) = (index < length places) × (find test places ≡ slice_get places index)

-- the packet was found: the place of this index is its
abbrev pub IsFoundIn : FoundPacket → List Place → Type 0
IsFoundIn found places = option_map (λ place. place.id) (slice_get places found.index) ≡ Some found.packet

-- the places without that of the packet with an id
abbrev pub without_packet : PacketId → List Place → List Place
without_packet id places = filter (λ place. not (is_place_of id place)) places

-- the queue's packets in flight
abbrev pub packets : QueueState → List Packet
packets q = map (λ place. place.packet) q.places.now

-- a queue that was stopped is stopped, whether it has an error or not (own)
abbrev pub state_of : QueueState → State
state_of q = if q.stopped then Stopped else if nat_lt 0 (length q.errors.now) then Error else Running

-- a packet may start unless there is a cause to wait, which is then told
abbrev pub may_launch_unless : Option WaitCause → MayLaunch
may_launch_unless None = Go
may_launch_unless (Some cause) = Waiting cause
