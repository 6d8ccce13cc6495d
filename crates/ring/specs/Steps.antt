-- What a step on a ring's words tells its seat (own).
use Rattle.std.specs.Prelude.{◌≡◌, ◌⊎◌, ℕ, true, List, [], ◌∷◌, length, ⊤}
use Rattle.atomic_table.specs.Table.{Me}
use Rattle.ring_core.specs.declared.access.Access.{Access}
use Rattle.ring_core.specs.declared.access.Made.{Made}
use Rattle.ring_core.specs.declared.part.SeatPart.{SeatPart}
use Rattle.ring_core.specs.declared.access.Access.TheVariants.{Reserve, RaiseReadIndex}
use Rattle.ring_core.specs.declared.access.Seen.TheVariants.{Stored}
use Rattle.ring_core.specs.declared.part.SeatPart.TheVariants.{Producer, Processor}
use Rattle.ring_core.specs.Parts.{may_make, seen_by}
use Rattle.ring_core.specs.Machine.{place_of, word_after}
use Rattle.ring.specs.declared.share.Numbered.{Numbered}
use Rattle.ring.specs.Places.{table_place}
use Rattle.ring.specs.Shares.{alone}
pub use Rattle.ring_core.specs.Calls.{made_of}
use Rattle.ring.specs.Made.{WereMade, knowing_all}
use Rattle.ring.specs.Passes.{RingSeen, only_part}

-- the number of a share of one part
abbrev pub only_number : List Numbered → ℕ
only_number [] = 0
only_number (entry ∷ rest) = entry.number

-- the read index, as far as a part knows it: the processor counts what it retired
abbrev pub KnowsIndex : SeatPart → ℕ → Type 0
KnowsIndex (Producer part) index = ⊤
KnowsIndex (Processor part) index = index ≡ length part.retired

-- a seat of one part may make an access, and this is the place among the table's words of the word that it
-- touches
pub record IsReady {S : Type 0} (ring : RingSeen) (me : Me S (List Numbered)) (access : Access) (place : ℕ) : Type 0 where
  pub one : me ≡ (alone (only_number me.0) (only_part me.0), [])
  pub may : may_make ring.size (only_part me.0) access ≡ true
  pub lies : (index : ℕ) → KnowsIndex (only_part me.0) index → place ≡ table_place (place_of ring.size index access)

-- an access that leaves the word, that stores one, and that adds 1 to it
abbrev pub IsLoad : Access → Type 0
IsLoad access = (found : ℕ) → word_after access found ≡ found

abbrev pub IsStore : Access → ℕ → Type 0
IsStore access word = (found : ℕ) → (word_after access found ≡ word) × (seen_by access found ≡ Stored)

abbrev pub IsAdd : Access → Type 0
IsAdd access = (access ≡ Reserve) ⊎ (access ≡ RaiseReadIndex)

-- the seat of one part made just these steps, in turn, and knows what is known after them
pub record HasGained {S : Type 0} (size producers : ℕ) (me : Me S (List Numbered)) (made : List Made) (after : Me S (List Numbered)) : Type 0 where
  pub were : WereMade size producers (only_number me.0) (only_part me.0) made
  pub knows : after ≡ (alone (only_number me.0) (knowing_all (only_part me.0) made), [])

-- what an access that found this word tells
abbrev pub IsTold : {S : Type 0} → ℕ → ℕ → Access → Me S (List Numbered) → ℕ → Me S (List Numbered) → Type 0
IsTold size producers access me found after = HasGained size producers me (made_of access found ∷ []) after
