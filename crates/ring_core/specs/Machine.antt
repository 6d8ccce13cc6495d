-- The ring machine: its words and parts, and what a step is (own; over PSA, User Mode Queuing).
use Rattle.std.specs.Prelude.{◌≡◌, ℕ, ◌+◌, ◌*◌, ◌%◌, ◌-◌, ◌<◌, length, zero, suc, Bool, ◌&&◌, nat_le, true, false, List, [], ◌∷◌, get_or, slice_index, slice_set, replicate, ◌^◌, ⊤, if◌then◌else◌}
use Rattle.ring_core.specs.declared.access.Access.{Access}
use Rattle.ring_core.specs.declared.access.Access.TheVariants.{Reserve, LoadReadIndex, StoreBody, StoreHeader, LoadHeader, LoadBody, ClearHeader, RaiseReadIndex}
use Rattle.aql_packet.specs.Kinds.{invalid_type}
use Rattle.ring_core.specs.declared.access.TheConstants.{FIRST_SLOT, READ_PLACE, WRITE_PLACE}
use Rattle.ring_core.specs.Limits.{most_producers, no_ring_size}
use Rattle.ring_core.specs.declared.access.Step.{Step}
use Rattle.ring_core.specs.declared.access.Seen.{Seen}
use Rattle.ring_core.specs.declared.part.SeatPart.{SeatPart}
use Rattle.ring_core.specs.Parts.{may_make, part_after, seen_by, new_producer, new_processor, nobody}

-- a ring: how many slots it has, its words, and the part of each seat, that of the processor first
pub record Machine : Type 0 where
  pub size : ℕ
  pub words : List ℕ
  pub parts : List SeatPart

abbrev pub machine_of : ℕ → List ℕ → List SeatPart → Machine
machine_of size words parts = record { size = size; words = words; parts = parts }

-- how many words a ring has, and where word k of the packet with an id lies: eight words a slot (own)
abbrev pub word_count : ℕ → ℕ
word_count size = FIRST_SLOT + 8 * size

unfoldable pub word_place : ℕ → ℕ → ℕ → ℕ
word_place size id k = FIRST_SLOT + 8 * (id % size) + k

abbrev pub write_index : Machine → ℕ
write_index machine = slice_index machine.words WRITE_PLACE

abbrev pub read_index : Machine → ℕ
read_index machine = slice_index machine.words READ_PLACE

abbrev pub slot_word : Machine → ℕ → ℕ → ℕ
slot_word machine id k = slice_index machine.words (word_place machine.size id k)

-- the word that an access touches
abbrev pub place_of : ℕ → ℕ → Access → ℕ
place_of size read_index Reserve = WRITE_PLACE
place_of size read_index (LoadReadIndex ticket) = READ_PLACE
place_of size read_index (StoreBody ticket place word) = word_place size ticket.0 place
place_of size read_index (StoreHeader ticket word) = word_place size ticket.0 0
place_of size read_index LoadHeader = word_place size read_index 0
place_of size read_index (LoadBody place) = word_place size read_index place
place_of size read_index ClearHeader = word_place size read_index 0
place_of size read_index RaiseReadIndex = READ_PLACE

-- that word afterwards; a load leaves it
abbrev pub word_after : Access → ℕ → ℕ
word_after Reserve old = old + 1
word_after (StoreBody ticket place word) old = word
word_after (StoreHeader ticket word) old = word
word_after ClearHeader old = invalid_type
word_after RaiseReadIndex old = old + 1
word_after _ old = old

-- the part of a seat
abbrev pub part_at : Machine → ℕ → SeatPart
part_at machine seat = get_or machine.parts seat nobody

-- how many producers there are: the first part is the processor's
abbrev pub producers_of : Machine → ℕ
producers_of machine = length machine.parts - 1

-- whether a step is allowed
abbrev pub is_allowed : Machine → Step → Bool
is_allowed machine step = may_make machine.size (part_at machine step.seat) step.access

-- the place of the word that a step touches, and that word before it
abbrev pub touched : Machine → Step → ℕ
touched machine step = place_of machine.size (read_index machine) step.access

abbrev pub found : Machine → Step → ℕ
found machine step = slice_index machine.words (touched machine step)

-- what the seat of a step knows after it
abbrev pub knows_after : Machine → Step → SeatPart
knows_after machine step = part_after (part_at machine step.seat) step.access (found machine step)

-- the machine after a step: one word and the part of the step's own seat
abbrev pub made : Machine → Step → Machine
made machine step =
    record {
      size = machine.size;
      words = slice_set machine.words (touched machine step) (word_after step.access (found machine step));
      parts = slice_set machine.parts step.seat (knows_after machine step);
    }

-- a step: it is allowed, tells what it read, and leads to the next machine
pub record Makes (machine : Machine) (step : Step) (seen : Seen) (next : Machine) : Type 0 where
  pub allowed : is_allowed machine step ≡ true
  pub told : seen ≡ seen_by step.access (found machine step)
  pub leads : next ≡ made machine step

-- the words of so many free slots: word 0 has the type INVALID
abbrev pub free_slots : ℕ → List ℕ
free_slots zero = []
free_slots (suc n) = invalid_type ∷ 0 ∷ 0 ∷ 0 ∷ 0 ∷ 0 ∷ 0 ∷ 0 ∷ free_slots n

-- how many producers a ring may have (own)
abbrev pub is_producer_count : ℕ → Bool
is_producer_count producers = nat_le 1 producers && nat_le producers most_producers

-- the size by which the opening of a ring is judged: a bad count of producers is judged as a size that no ring has (own)
abbrev pub judged_size : ℕ → ℕ → ℕ
judged_size size producers = if is_producer_count producers then size else no_ring_size

-- a ring as it opens: both indices 0, each slot free
abbrev pub opened : ℕ → ℕ → Machine
opened size producers =
    record {
      size = size;
      words = 0 ∷ 0 ∷ free_slots size;
      parts = new_processor ∷ replicate producers new_producer;
    }

-- these steps, in turn, lead from one machine to another
abbrev pub Leads : Machine → List Step → Machine → Type 0
Leads machine [] last = last ≡ machine
Leads machine (step ∷ steps) last =
    (is_allowed machine step ≡ true) × Leads (made machine step) steps last

-- these steps, in turn, lead to this machine from the opening
abbrev pub Replays : ℕ → ℕ → List Step → Machine → Type 0
Replays size producers steps machine = Leads (opened size producers) steps machine

-- of these steps, in turn from this machine, the first that is not allowed is the one at this index
abbrev pub StopsAt : Machine → List Step → ℕ → Type 0
StopsAt machine [] index = ⊥
StopsAt machine (step ∷ steps) zero = is_allowed machine step ≡ false
StopsAt machine (step ∷ steps) (suc index) =
    (is_allowed machine step ≡ true) × StopsAt (made machine step) steps index

-- the word that an access leaves still fits 64 bits, if the access adds to it
abbrev pub Fits64 : Access → ℕ → Type 0
Fits64 Reserve old = old + 1 < 2 ^ 64
Fits64 RaiseReadIndex old = old + 1 < 2 ^ 64
Fits64 _ old = ⊤

-- an access that names a word names one of the eight
abbrev pub NamesWord : Access → Type 0
NamesWord (StoreBody ticket place word) = place < 8
NamesWord (LoadBody place) = place < 8
NamesWord _ = ⊤
