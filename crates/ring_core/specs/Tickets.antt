-- The tickets of a producer, by id.
use Rattle.std.specs.Prelude.{◌≡◌, ◌≢◌, ◌<◌, length, get_or, ℕ, ◌+◌, Bool, false, ◌==◌, nat_lt, List, [], ◌∷◌, ◌++◌, slice_set, Option, Some, None, is_some, if◌then◌else◌}
use Rattle.std.specs.List.{fold}
use Rattle.ring_core.specs.declared.ticket.Ticket.{Ticket}
use Rattle.ring_core.specs.declared.ticket.HeldTicket.{HeldTicket}
use Rattle.ring_core.specs.declared.ticket.TicketChange.{TicketChange}
use Rattle.ring_core.specs.declared.ticket.TicketChange.TheVariants.{Opened, Saw, Wrote}
use Rattle.ring_core.specs.Words.{word, no_words}

-- a new ticket: nothing seen, nothing written
abbrev pub blank : Ticket
blank = record { saw = None; words = no_words }

-- the ticket after it saw a read index
abbrev pub seeing : ℕ → Ticket → Ticket
seeing read_index ticket = record { saw = Some read_index; words = ticket.words }

-- the ticket after its word k was written
abbrev pub writing : ℕ → ℕ → Ticket → Ticket
writing k w ticket = record { saw = ticket.saw; words = slice_set ticket.words k (Some w) }

-- a ticket is published once its header word is written; until then it is open
abbrev pub is_published : Ticket → Bool
is_published ticket = is_some (word ticket.words 0)

-- whether a read index shows room for the packet with an id: its slot holds no packet that is not retired
-- (PSA, User Mode Queuing)
abbrev pub has_room : ℕ → ℕ → ℕ → Bool
has_room size id read_index = nat_lt id (read_index + size)

-- whether the read index that a ticket last saw does, if it saw one
abbrev pub shows_room : ℕ → ℕ → Option ℕ → Bool
shows_room size id None = false
shows_room size id (Some read_index) = has_room size id read_index

-- an entry, to stand for none
abbrev pub unnamed : HeldTicket
unnamed = record { id = record { 0 = 0 }; ticket = blank }

-- the ticket under an id
abbrev pub held : ℕ → List HeldTicket → Option Ticket
held id [] = None
held id (entry ∷ entries) = if entry.id.0 == id then Some entry.ticket else held id entries

-- the ticket under an id, if it is open
abbrev pub only_open : Option Ticket → Option Ticket
only_open None = None
only_open (Some ticket) = if is_published ticket then None else Some ticket

abbrev pub open_ticket : ℕ → List HeldTicket → Option Ticket
open_ticket id entries = only_open (held id entries)

-- the tickets after the one under the id was changed
abbrev pub changed : ℕ → (Ticket → Ticket) → List HeldTicket → List HeldTicket
changed id change [] = []
changed id change (entry ∷ entries) =
    if entry.id.0 == id then record { id = entry.id; ticket = change entry.ticket } ∷ entries else entry ∷ changed id change entries

-- the open ones among tickets, in order
abbrev pub open_ones : List HeldTicket → List HeldTicket
open_ones [] = []
open_ones (entry ∷ entries) = if is_published entry.ticket then open_ones entries else entry ∷ open_ones entries

-- the tickets but the first under an id
abbrev pub without : ℕ → List HeldTicket → List HeldTicket
without id [] = []
without id (entry ∷ entries) = if entry.id.0 == id then entries else entry ∷ without id entries

-- the tickets after one change of them, and after many from the opening
abbrev pub after_change : List HeldTicket → TicketChange → List HeldTicket
after_change tickets (Opened id) = tickets ++ record { id = id; ticket = blank } ∷ []
after_change tickets (Saw id read_index) = changed id.0 (seeing read_index) tickets
after_change tickets (Wrote id k w) = changed id.0 (writing k w) tickets

abbrev pub after_changes : List TicketChange → List HeldTicket
after_changes changes = fold after_change [] changes

-- the ticket under an id, if there is one, has its eight words
abbrev pub HasEightWords : ℕ → List HeldTicket → Type 0
HasEightWords id entries = (ticket : Ticket) → held id entries ≡ Some ticket → length ticket.words ≡ 8

-- where the first ticket under an id stands, if there is one
abbrev pub IsPlaceOf : ℕ → List HeldTicket → Option ℕ → Type 0
IsPlaceOf id entries None = (k : ℕ) → k < length entries → (get_or entries k unnamed).id.0 ≢ id
IsPlaceOf id entries (Some i) =
    (i < length entries) × ((get_or entries i unnamed).id.0 ≡ id) × ((k : ℕ) → k < i → (get_or entries k unnamed).id.0 ≢ id)

-- the ids rise
abbrev pub IsAscending : List HeldTicket → Type 0
IsAscending entries = (i j : ℕ) → i < j → j < length entries → (get_or entries i unnamed).id.0 < (get_or entries j unnamed).id.0

-- an id is above all of these
abbrev pub IsAbove : ℕ → List HeldTicket → Type 0
IsAbove id entries = (k : ℕ) → k < length entries → (get_or entries k unnamed).id.0 < id
