-- What a contract sees of a ring and of its passes (own).
use Rattle.std.specs.Prelude.{◌≡◌, ℕ, List, [], ◌∷◌, map, length, Option, Some, None, true, false, ⊤}
use Rattle.atomic_table.specs.Seated.{TableId}
use Rattle.ring_core.specs.declared.part.SeatPart.{SeatPart}
use Rattle.ring_core.specs.declared.part.SeatPart.TheVariants.{Producer, Processor}
use Rattle.ring_core.specs.declared.part.ProducerPart.{ProducerPart}
use Rattle.ring_core.specs.declared.part.ProcessorPart.{ProcessorPart}
use Rattle.ring_core.specs.Words.{no_words}
use Rattle.ring_core.specs.Parts.{nobody}
use Rattle.ring.specs.declared.share.Numbered.{Numbered}
use Rattle.ring.specs.declared.share.RingShape.{RingShape}
use Rattle.aql_packet.specs.Ring.{is_ring_size}
use Rattle.ring.specs.Places.{table_count}
use Rattle.ring_core.specs.Machine.{is_producer_count}
use Rattle.ring.specs.Shares.{alone, shape_of}

-- a ring: which table of words it is, how many slots it has, and how many producers
pub record RingSeen : Type 0 where
  pub table : TableId
  pub size : ℕ
  pub producers : ℕ

-- its table was made for this size and so many producers, and has eight words a slot, the two indices and
-- the gaps before each of them and before the first slot
pub record IsRing (table : TableId) (shape : RingShape) (size producers : ℕ) : Type 0 where
  pub made_for : shape ≡ shape_of size producers
  pub words : table.words ≡ table_count size
  pub no_slots : table.slots ≡ 0
  pub fits : is_ring_size size ≡ true
  pub few : is_producer_count producers ≡ true

-- a producer's pass: of which table, its number from 1, and what it knows
pub record ProducerSeen : Type 0 where
  pub table : TableId
  pub number : ℕ
  pub part : ProducerPart

-- the processor's pass
pub record ProcessorSeen : Type 0 where
  pub table : TableId
  pub part : ProcessorPart

-- the part of a producer, and of the processor
abbrev pub as_producer : SeatPart → ProducerPart
as_producer (Producer part) = part
as_producer (Processor part) = record { allowance = 0; tickets = []; steps = [] }

abbrev pub as_processor : SeatPart → ProcessorPart
as_processor (Processor part) = part
as_processor (Producer part) = record { retired = []; collected = no_words; raising = false; steps = [] }

-- the part of a share of one part
abbrev pub only_part : List Numbered → SeatPart
only_part [] = nobody
only_part (entry ∷ rest) = entry.part

-- the words collected of a packet that was shown, or of none
abbrev pub collected_of : Option (List ℕ) → List (Option ℕ)
collected_of None = no_words
collected_of (Some words) = map Some words

-- what a producer's pass keeps at run time is what its share says: its number, and what it may still reserve
pub record IsProducerPass (number allowance : ℕ) (me : List Numbered × List (ℕ × ⊤)) : Type 0 where
  pub share : me ≡ (alone number (Producer (as_producer (only_part me.0))), [])
  pub left : allowance ≡ (as_producer (only_part me.0)).allowance

-- and the processor's: the read index, and the packet that was shown and is not retired
pub record IsProcessorPass (next : ℕ) (packet : Option (List ℕ)) (me : List Numbered × List (ℕ × ⊤)) : Type 0 where
  pub share : me ≡ (alone 0 (Processor (as_processor (only_part me.0))), [])
  pub index : next ≡ length (as_processor (only_part me.0)).retired
  pub resting : (as_processor (only_part me.0)).raising ≡ false
  pub shown : (as_processor (only_part me.0)).collected ≡ collected_of packet
