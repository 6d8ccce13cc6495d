-- Arrows (own): from the entry that made a signal 0 to the poll that saw it.
use Rattle.std.specs.Prelude.{ℕ, pos, ◌==◌, false, List, [], ◌∷◌, ◌++◌, flat_map, slice_index_or, Option, None, Some, if◌then◌else◌}
use Rattle.std.specs.Option.{option_map_or}
use Rattle.std.specs.Ordering.{int_eq}
use Rattle.aql_packet.specs.declared.ids.QueueId.{QueueId}
use Rattle.aql_packet.specs.declared.ids.PacketId.{PacketId}
use Rattle.aql_packet.specs.declared.ids.SignalHandle.{SignalHandle}
use Rattle.aql_packet.specs.declared.packet.Packet.{Packet}
use Rattle.aql_packet.specs.declared.packet.Packet.TheVariants as packet
use Rattle.core_model.specs.declared.outcome.Satisfied.{Satisfied}
use Rattle.core_model.specs.declared.entry.Effect.{Effect}
use Rattle.core_model.specs.declared.entry.Effect.TheVariants as effect
use Rattle.picture.specs.declared.arrows.Zero.{Zero}
use Rattle.picture.specs.declared.element.Spot.{Spot}
use Rattle.picture.specs.declared.seats.Seat.{Seat}
use Rattle.picture.specs.Seats.{seat_of}

-- the signal that a change makes 0 at a place, if it makes one 0
abbrev pub zero_by : Spot → Effect → List Zero
zero_by spot (effect.Signal signal old new) = if int_eq new (pos 0) then record { signal = signal; spot = spot } ∷ [] else []
zero_by spot (effect.Write address bytes) = []
zero_by spot (effect.Release queue id) = []

-- what was made 0 behind an entry that stands at a place and made these changes
abbrev pub zeros_after : List Zero → Spot → List Effect → List Zero
zeros_after zeros spot effects = zeros ++ flat_map (zero_by spot) effects

-- where a signal was made 0 last, or the place found before
unfoldable pub last_zero : ℕ → Option Spot → List Zero → Option Spot
last_zero signal found [] = found
last_zero signal found (zero ∷ zeros) = last_zero signal (if zero.signal.0 == signal then Some zero.spot else found) zeros

-- the signal at a position of a list, from 0; 0 is none
abbrev pub signal_at : List SignalHandle → ℕ → SignalHandle
signal_at signals position = slice_index_or signals position (record { 0 = 0 })

-- the signal that a packet depends on at a position, from 0; 0 is none
abbrev pub dependency_of : Packet → ℕ → ℕ
dependency_of (packet.BarrierAnd barrier) position = (signal_at barrier.dependencies position).0
dependency_of (packet.BarrierOr barrier) position = (signal_at barrier.dependencies position).0
dependency_of _ position = 0

-- the signal that a packet in flight depends on at a position, from 0; 0 is none
abbrev pub dependency_at : List Seat → QueueId → PacketId → ℕ → ℕ
dependency_at seats queue id position = option_map_or (λ seat. dependency_of seat.flying.packet position) (seat_of seats queue id) 0

-- where the arrow comes from to a poll that saw, at a position from 0, a signal as 0
abbrev pub arrow_from : List Seat → List Zero → QueueId → PacketId → Satisfied → ℕ → Option Spot
arrow_from seats zeros queue id seen position =
    if slice_index_or seen.0 position false then last_zero (dependency_at seats queue id position) None zeros else None
