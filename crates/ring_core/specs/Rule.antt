-- The ring rule: what holds between any two steps (own).
use Rattle.std.specs.Prelude.{◌≡◌, ◌≢◌, ℕ, ◌+◌, ◌*◌, ◌<◌, ◌≤◌, Bool, true, false, not, ◌==◌, nat_lt, List, [], ◌∷◌, length, get_or, slice_index, flat_map, sum_by, Option, Some, is_some, unwrap_or, if◌then◌else◌}
use Rattle.std.specs.List.{list_all}
use Rattle.ring_core.specs.declared.ticket.Ticket.{Ticket}
use Rattle.ring_core.specs.declared.ticket.HeldTicket.{HeldTicket}
use Rattle.ring_core.specs.declared.part.ProcessorPart.{ProcessorPart}
use Rattle.ring_core.specs.declared.part.SeatPart.{SeatPart}
use Rattle.ring_core.specs.declared.part.SeatPart.TheVariants.{Producer, Processor}
use Rattle.ring_core.specs.Words.{word, no_words, is_invalid}
use Rattle.ring_core.specs.Tickets.{blank, is_published, shows_room, held}
use Rattle.aql_packet.specs.Ring.{is_ring_size}
use Rattle.aql_packet.specs.Kinds.{invalid_type}
use Rattle.ring_core.specs.Limits.{most_reservations}
use Rattle.ring_core.specs.Limits.{most_producers}
use Rattle.ring_core.specs.Machine.{Machine, word_count, write_index, read_index, slot_word, producers_of}

-- the tickets that a part has, and those of all parts
abbrev pub tickets_of : SeatPart → List HeldTicket
tickets_of (Producer p) = p.tickets
tickets_of (Processor p) = []

abbrev pub all_tickets : List SeatPart → List HeldTicket
all_tickets parts = flat_map tickets_of parts

-- the ticket of an id, whoever has it; of an id that is not reserved, a blank one
abbrev pub ticket_of : List SeatPart → ℕ → Ticket
ticket_of parts id = unwrap_or (held id (all_tickets parts)) blank

-- how often an id is among tickets
abbrev pub times : ℕ → List HeldTicket → ℕ
times id [] = 0
times id (entry ∷ entries) = (if entry.id.0 == id then 1 else 0) + times id entries

-- what is left to a part to reserve
abbrev pub allowance_of : SeatPart → ℕ
allowance_of (Producer p) = p.allowance
allowance_of (Processor p) = 0

abbrev pub is_producer : SeatPart → Bool
is_producer (Producer p) = true
is_producer (Processor p) = false

-- one processor part, then one part for each producer
abbrev pub AreSeats : ℕ → List SeatPart → Type 0
AreSeats producers [] = ⊥
AreSeats producers (Producer p ∷ parts) = ⊥
AreSeats producers (Processor p ∷ parts) =
    (length parts ≡ producers) × (list_all is_producer parts ≡ true)

-- what the processor knows
abbrev pub processor_of : List SeatPart → ProcessorPart
processor_of (Processor p ∷ parts) = p
processor_of _ = record { retired = []; collected = no_words; raising = false; steps = [] }

-- who has which ticket (own)
pub record IsShared (producers write_index : ℕ) (parts : List SeatPart) : Type 0 where
  -- one part for each producer and one processor part
  pub seats : AreSeats producers parts
  -- the write index and all allowances are together producers times 2^40
  pub allowances : write_index + sum_by allowance_of parts ≡ producers * most_reservations
  -- the ids below the write index are each in one part, once, and no other is
  pub named : (id : ℕ) → times id (all_tickets parts) ≡ (if nat_lt id write_index then 1 else 0)

-- what slots, tickets and processor have to do with one another (own): `slot id k` is word k of the
-- slot of an id, and the last three are what the processor retired, what it has collected, and whether
-- it stands between clearing a header and raising the read index
pub record IsTied (size read_index : ℕ) (slot : ℕ → ℕ → ℕ) (ticket : ℕ → Ticket)
    (packets : List (List ℕ)) (words : List (Option ℕ)) (raising : Bool) : Type 0 where
  -- ids below the read index are published
  pub behind : (id : ℕ) → id < read_index → is_published (ticket id) ≡ true
  -- what a ticket saw of the read index is at most the read index
  pub seen : (id r : ℕ) → (ticket id).saw ≡ Some r → r ≤ read_index
  -- a ticket with a word written saw room for it
  pub room : (id k w : ℕ) → word (ticket id).words k ≡ Some w
      → shows_room size id (ticket id).saw ≡ true
  -- a published packet has all eight words, and a type other than INVALID
  pub whole : (id k : ℕ) → is_published (ticket id) ≡ true → k < 8
      → is_some (word (ticket id).words k) ≡ true
  pub valid : (id w : ℕ) → word (ticket id).words 0 ≡ Some w → is_invalid w ≡ false
  -- of the `size` ids from the read index on, those are published whose slot's header has a type other
  -- than INVALID; except that, between clearing and raising, the header at the read index is INVALID
  pub header : (id : ℕ) → read_index ≤ id → id < read_index + size
      → (raising ≡ true → id ≢ read_index)
      → is_invalid (slot id 0) ≡ not (is_published (ticket id))
  pub cleared : raising ≡ true → slot read_index 0 ≡ invalid_type
  -- a word written for an id not below the read index is the slot's word, with the same exception
  pub live : (id k w : ℕ) → read_index ≤ id → word (ticket id).words k ≡ Some w
      → (raising ≡ true → id ≡ read_index → k ≢ 0)
      → slot id k ≡ w
  -- the processor retired the ids below the read index, each as its owner published it, word for word
  pub count : length packets ≡ read_index
  pub retired : (id k : ℕ) → id < read_index → k < 8
      → word (ticket id).words k ≡ Some (slice_index (get_or packets id []) k)
  -- words collected are those published for the read index, the header before the others
  pub collected : (k w : ℕ) → word words k ≡ Some w → word (ticket read_index).words k ≡ Some w
  pub begun : (k w : ℕ) → word words k ≡ Some w → is_some (word words 0) ≡ true
  -- between clearing and raising, all eight are collected
  pub complete : (k : ℕ) → raising ≡ true → k < 8 → is_some (word words k) ≡ true
  -- a packet has eight words
  pub eight : (id : ℕ) → length (ticket id).words ≡ 8
  pub eight_collected : length words ≡ 8

-- the tie of a machine
abbrev pub IsTiedTo : Machine → ProcessorPart → Type 0
IsTiedTo machine processor =
    IsTied machine.size (read_index machine) (slot_word machine) (ticket_of machine.parts)
    processor.retired processor.collected processor.raising

-- the ring rule (own)
pub record IsRule (producers : ℕ) (machine : Machine) : Type 0 where
  pub slots : 0 < machine.size
  pub words : length machine.words ≡ word_count machine.size
  pub shared : IsShared producers (write_index machine) machine.parts
  pub tied : IsTiedTo machine (processor_of machine.parts)

-- what is kept of a ring state: the ring rule, and the bounds of its opening
pub record IsRing (machine : Machine) : Type 0 where
  pub rule : IsRule (producers_of machine) machine
  pub few_producers : producers_of machine ≤ most_producers
  pub ring_size : is_ring_size machine.size ≡ true
