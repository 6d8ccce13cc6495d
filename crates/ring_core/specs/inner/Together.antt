-- What a seat notes of accesses that it makes in turn, all at once.
use Rattle.std.specs.Prelude.{◌≡◌, ℕ, ◌+◌, Bool, List, [], ◌∷◌, ◌++◌, map, slice_index, slice_set, is_some, if◌then◌else◌}
use Rattle.std.specs.List.{fold}
use Rattle.aql_packet.specs.declared.ids.PacketId.{PacketId}
use Rattle.ring_core.specs.declared.access.Made.{Made}
use Rattle.ring_core.specs.declared.part.SeatPart.{SeatPart}
use Rattle.ring_core.specs.declared.ticket.HeldTicket.{HeldTicket}
use Rattle.ring_core.specs.declared.ticket.TicketChange.{TicketChange}
use Rattle.ring_core.specs.declared.ticket.TicketChange.TheVariants.{Saw, Wrote}
use Rattle.ring_core.specs.Calls.{body_places}
use Rattle.ring_core.specs.Runs.{after_own}
use Rattle.ring_core.specs.Tickets.{after_change, open_ticket}

-- a seat makes accesses in turn, if it makes them
abbrev pub after_all : Bool → SeatPart → List Made → SeatPart
after_all makes part mades = if makes then fold after_own part mades else part

-- the changes of a ticket that is published: it saw the read index, and its words were written, the header last
abbrev pub publication_changes : PacketId → ℕ → List ℕ → List TicketChange
publication_changes id seen words =
    Saw id seen ∷ map (λ place. Wrote id place (slice_index words place)) body_places ++ Wrote id 0 (slice_index words 0) ∷ []

-- the ticket under an id is changed, if it is open
abbrev pub IsChanged : PacketId → List TicketChange → List HeldTicket → Bool → List HeldTicket → Type 0
IsChanged id changes old found new =
    (found ≡ is_some (open_ticket id.0 old)) × (new ≡ (if found then fold after_change old changes else old))

-- a ring's words with a packet in a slot, the header last
abbrev pub packet_put : List ℕ → ℕ → List ℕ → List ℕ
packet_put words slot packet =
    slice_set (fold (λ others place. slice_set others (slot + place) (slice_index packet place)) words body_places) slot (slice_index packet 0)

-- the words of the packet in a slot
abbrev pub packet_in : List ℕ → ℕ → List ℕ
packet_in words slot = slice_index words slot ∷ map (λ place. slice_index words (slot + place)) body_places
