-- What each seat may do and knows: the eight steps, as far as the part of the step's own seat goes
-- (own; over PSA, User Mode Queuing).
use Rattle.std.specs.Prelude.{◌≡◌, ℕ, ◌-◌, Bool, true, false, not, ◌&&◌, nat_lt, List, [], ◌∷◌, ◌++◌, slice_set, Option, Some, None, ⊤, is_some, if◌then◌else◌}
use Rattle.std.specs.List.{list_all}
use Rattle.ring_core.specs.declared.ticket.Ticket.{Ticket}
use Rattle.ring_core.specs.declared.ticket.HeldTicket.{HeldTicket}
use Rattle.ring_core.specs.declared.access.Access.{Access}
use Rattle.ring_core.specs.declared.access.Access.TheVariants.{Reserve, LoadReadIndex, StoreBody, StoreHeader, LoadHeader, LoadBody, ClearHeader, RaiseReadIndex}
use Rattle.ring_core.specs.declared.access.Seen.{Seen}
use Rattle.ring_core.specs.declared.access.Seen.TheVariants.{Read, Stored}
use Rattle.ring_core.specs.declared.access.Made.{Made}
use Rattle.ring_core.specs.declared.part.ProducerPart.{ProducerPart}
use Rattle.ring_core.specs.declared.part.ProcessorPart.{ProcessorPart}
use Rattle.ring_core.specs.Limits.{most_reservations}
use Rattle.ring_core.specs.declared.part.SeatPart.{SeatPart}
use Rattle.ring_core.specs.declared.part.SeatPart.TheVariants.{Producer, Processor}
use Rattle.ring_core.specs.Words.{word, no_words, is_body, has_body, packet_of, is_invalid}
use Rattle.ring_core.specs.Tickets.{blank, seeing, writing, shows_room, open_ticket, changed, IsAbove}

-- what an access tells of the word as it was: loads and additions read it, stores read nothing
abbrev pub seen_by : Access → ℕ → Seen
seen_by (StoreBody ticket place word) old = Stored
seen_by (StoreHeader ticket word) old = Stored
seen_by ClearHeader old = Stored
seen_by Reserve old = Read old
seen_by (LoadReadIndex ticket) old = Read old
seen_by LoadHeader old = Read old
seen_by (LoadBody place) old = Read old
seen_by RaiseReadIndex old = Read old

-- a test of a ticket that there may be
abbrev pub passes : (Ticket → Bool) → Option Ticket → Bool
passes test None = false
passes test (Some ticket) = test ticket

-- what a producer may do, in a ring of this size
abbrev pub producer_may : ℕ → ProducerPart → Access → Bool
producer_may size p Reserve = nat_lt 0 p.allowance
producer_may size p (LoadReadIndex ticket) = is_some (open_ticket ticket.0 p.tickets)
producer_may size p (StoreBody ticket place word) =
    is_body place && passes (λ t. shows_room size ticket.0 t.saw) (open_ticket ticket.0 p.tickets)
producer_may size p (StoreHeader ticket word) =
    not (is_invalid word) && passes (λ t. has_body t.words) (open_ticket ticket.0 p.tickets)
producer_may size p _ = false

-- what the processor may do
abbrev pub processor_may : ProcessorPart → Access → Bool
processor_may p LoadHeader = not p.raising
processor_may p (LoadBody place) = is_body place && is_some (word p.collected 0)
processor_may p ClearHeader = not p.raising && has_body p.collected
processor_may p RaiseReadIndex = p.raising
processor_may p _ = false

-- whether a seat with this part may make an access
abbrev pub may_make : ℕ → SeatPart → Access → Bool
may_make size (Producer p) access = producer_may size p access
may_make size (Processor p) access = processor_may p access

-- the packet collected, once it is whole
abbrev pub collected_packet : ProcessorPart → Option (List ℕ)
collected_packet p = if list_all is_some p.collected then Some (packet_of p.collected) else None

-- the steps of a seat after one more, which found the word `old`
abbrev pub noted : List Made → Access → ℕ → List Made
noted steps access old = steps ++ record { access = access; seen = seen_by access old } ∷ []

-- each id reserved is one off the allowance
abbrev pub allowance_after : ℕ → Access → ℕ
allowance_after allowance Reserve = allowance - 1
allowance_after allowance _ = allowance

-- the tickets after an access that found the word `old`
abbrev pub tickets_after : List HeldTicket → Access → ℕ → List HeldTicket
tickets_after tickets Reserve old = tickets ++ record { id = record { 0 = old }; ticket = blank } ∷ []
tickets_after tickets (LoadReadIndex ticket) old = changed ticket.0 (seeing old) tickets
tickets_after tickets (StoreBody ticket place word) old = changed ticket.0 (writing place word) tickets
tickets_after tickets (StoreHeader ticket word) old = changed ticket.0 (writing 0 word) tickets
tickets_after tickets _ old = tickets

-- the words collected of the slot at the read index after an access that found the word `old`: a header
-- of type INVALID shows no packet
abbrev pub collected_after : List (Option ℕ) → Access → ℕ → List (Option ℕ)
collected_after collected LoadHeader old = if is_invalid old then collected else slice_set collected 0 (Some old)
collected_after collected (LoadBody place) old = slice_set collected place (Some old)
collected_after collected RaiseReadIndex old = no_words
collected_after collected _ old = collected

-- the packet collected is retired when the read index rises
abbrev pub retired_after : List (List ℕ) → List (Option ℕ) → Access → List (List ℕ)
retired_after retired collected RaiseReadIndex = retired ++ packet_of collected ∷ []
retired_after retired collected _ = retired

-- whether the processor then stands between clearing a header and raising the read index
abbrev pub raising_after : Bool → Access → Bool
raising_after raising ClearHeader = true
raising_after raising RaiseReadIndex = false
raising_after raising _ = raising

-- what a seat knows after an access that found the word `old`
abbrev pub after_producing : ProducerPart → Access → ℕ → ProducerPart
after_producing p access old =
    record {
      allowance = allowance_after p.allowance access;
      tickets = tickets_after p.tickets access old;
      steps = noted p.steps access old;
    }

abbrev pub after_processing : ProcessorPart → Access → ℕ → ProcessorPart
after_processing p access old =
    record {
      retired = retired_after p.retired p.collected access;
      collected = collected_after p.collected access old;
      raising = raising_after p.raising access;
      steps = noted p.steps access old;
    }

abbrev pub part_after : SeatPart → Access → ℕ → SeatPart
part_after (Producer p) access old = Producer (after_producing p access old)
part_after (Processor p) access old = Processor (after_processing p access old)

-- what an access asks of the tickets of its seat: an id that is reserved is above theirs, a ticket that is
-- named is open
abbrev pub Suits : Access → ℕ → List HeldTicket → Type 0
Suits Reserve old tickets = IsAbove old tickets
Suits (LoadReadIndex ticket) old tickets = is_some (open_ticket ticket.0 tickets) ≡ true
Suits (StoreBody ticket place word) old tickets = (is_some (open_ticket ticket.0 tickets) ≡ true) × (is_body place ≡ true)
Suits (StoreHeader ticket word) old tickets = is_some (open_ticket ticket.0 tickets) ≡ true
Suits _ old tickets = ⊤

abbrev pub SuitsPart : SeatPart → Access → ℕ → Type 0
SuitsPart (Producer p) access old = Suits access old p.tickets
SuitsPart (Processor p) access old = ⊤

-- the parts at the opening: the whole allowance of ids to reserve, no ticket, nothing retired or collected, no step made
abbrev pub new_producer : SeatPart
new_producer = Producer record { allowance = most_reservations; tickets = []; steps = [] }

abbrev pub new_processor : SeatPart
new_processor = Processor record { retired = []; collected = no_words; raising = false; steps = [] }

-- a seat that the ring doesn't have may do nothing
abbrev pub nobody : SeatPart
nobody = Producer record { allowance = 0; tickets = []; steps = [] }
