-- In which rows packets in flight stand (own): each in one row of its queue's lane, from its launch to its release.
use Rattle.std.specs.Prelude.{ℕ, ◌==◌, ◌&&◌, Bool, false, not, List, [], ◌∷◌, ◌++◌, filter, find, Option, Some, None}
use Rattle.std.specs.List.{list_any}
use Rattle.std.specs.Option.{option_map_or, unwrap_or}
use Rattle.aql_packet.specs.declared.ids.QueueId.{QueueId}
use Rattle.aql_packet.specs.declared.ids.PacketId.{PacketId}
use Rattle.aql_packet.specs.Ids.{same_packet}
use Rattle.core_model.specs.Flight.{launched_by}
use Rattle.core_model.specs.declared.flight.InFlight.{InFlight}
use Rattle.core_model.specs.declared.origin.PacketOrigin.{PacketOrigin}
use Rattle.core_model.specs.declared.entry.Effect.{Effect}
use Rattle.core_model.specs.declared.entry.Effect.TheVariants as effect
use Rattle.core_model.specs.declared.entry.Entry.{Entry}
use Rattle.picture.specs.declared.seats.Seat.{Seat}

-- whether a change releases a packet
abbrev pub is_release : QueueId → PacketId → Effect → Bool
is_release queue id (effect.Release queue' id') = same_packet queue' id' queue id
is_release queue id (effect.Write address bytes) = false
is_release queue id (effect.Signal signal old new) = false

-- whether an entry releases a packet
abbrev pub releases : QueueId → PacketId → Entry → Bool
releases queue id entry = list_any (is_release queue id) entry.effects

-- whether a packet stands in a row of a queue's lane
abbrev pub is_taken : List Seat → QueueId → ℕ → Bool
is_taken seats queue row = list_any (λ seat. seat.flying.queue.0 == queue.0 && seat.row == row) seats

-- the first row of a queue's lane in which no packet stands, of one for each packet that may be in flight
abbrev pub free_row : List Seat → QueueId → ℕ
free_row seats queue = unwrap_or (find (λ row. not (is_taken seats queue row)) (0 ∷ 1 ∷ 2 ∷ 3 ∷ 4 ∷ 5 ∷ 6 ∷ 7 ∷ [])) 0

-- a packet's seat, if it is in flight
abbrev pub seat_of : List Seat → QueueId → PacketId → Option Seat
seat_of seats queue id = find (λ seat. same_packet seat.flying.queue seat.flying.id queue id) seats

-- the row of a packet
abbrev pub row_at : List Seat → QueueId → PacketId → ℕ
row_at seats queue id = option_map_or (λ seat. seat.row) (seat_of seats queue id) 0

-- one packet more, in the first row that is free
abbrev pub with_seat : List Seat → InFlight → List Seat
with_seat seats flying = seats ++ record { flying = flying; row = free_row seats flying.queue } ∷ []

-- the same, if there is one
abbrev pub seats_with : List Seat → Option InFlight → List Seat
seats_with seats None = seats
seats_with seats (Some flying) = with_seat seats flying

-- without those that an entry releases
abbrev pub seats_left : List Seat → Entry → List Seat
seats_left seats entry = filter (λ seat. not (releases seat.flying.queue seat.flying.id entry)) seats

-- the seats behind an entry
abbrev pub seats_after : List Seat → Entry → List Seat
seats_after seats entry = seats_left (seats_with seats (launched_by entry.event entry.outcome)) entry

-- the seats of packets, in the order of their launches, beside others
unfoldable pub seats_of : List Seat → List PacketOrigin → List Seat
seats_of seats [] = seats
seats_of seats (packet ∷ packets) = seats_of (with_seat seats packet.flying) packets
