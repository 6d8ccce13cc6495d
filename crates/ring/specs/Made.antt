-- Which steps a pass made, and what it knows after them (own).
use Rattle.std.specs.Prelude.{◌≡◌, ℕ, List, [], ◌∷◌, ⊤}
use mathlib.Core.Option.{some}
use lib.ListN.{get_elem?}
use Rattle.ring_core.specs.declared.access.Access.{Access}
use Rattle.ring_core.specs.declared.access.Step.{Step}
use Rattle.ring_core.specs.declared.access.Seen.TheVariants.{Read, Stored}
use Rattle.ring_core.specs.declared.access.Made.{Made}
use Rattle.ring_core.specs.declared.part.SeatPart.{SeatPart}
use Rattle.ring_core.specs.Runs.{after_own}
use Rattle.ring_core.specs.Machine.{Machine, Makes, part_at}
use Rattle.ring.specs.declared.share.Numbered.{Numbered}
use Rattle.ring.specs.Shares.{alone, AreMachine, words_after, shares_after}
pub use Rattle.ring_core.specs.Calls.{packet_stored, publication, showing, retiring}

-- an access that read a word, and one that stored
abbrev pub read : Access → ℕ → Made
read access word = record { access = access; seen = Read word }

abbrev pub stored : Access → Made
stored access = record { access = access; seen = Stored }

-- the step of a seat that makes an access
abbrev pub step_by : ℕ → Access → Step
step_by number access = record { seat = number; access = access }

-- a seat that knew a part made this step: as it made it, the words of the ring and the shares of all its
-- seats were together a machine that meets the ring rule; in it the seat had that part, and no other; the
-- step is allowed in that machine, tells this, and leads to the machine that words and shares then were
pub record WasMade (size producers number : ℕ) (part : SeatPart) (made : Made) : Type 0 where
  pub words : List ℕ
  pub shares : List (List Numbered)
  pub machine : Machine
  pub are : AreMachine size producers words shares machine
  pub seat : ℕ
  pub knew : get_elem? shares seat ≡ some (alone number part)
  pub had : part_at machine number ≡ part
  pub next : Machine
  pub makes : Makes machine (step_by number made.access) made.seen next
  pub become : AreMachine size producers (words_after machine (step_by number made.access) words) (shares_after machine (step_by number made.access) seat shares) next

-- what a seat knows after several steps that it made, in turn
abbrev pub knowing_all : SeatPart → List Made → SeatPart
knowing_all part [] = part
knowing_all part (made ∷ rest) = knowing_all (after_own part made) rest

-- it made them, in turn
abbrev pub WereMade : ℕ → ℕ → ℕ → SeatPart → List Made → Type 0
WereMade size producers number part [] = ⊤
WereMade size producers number part (made ∷ rest) =
    WasMade size producers number part made × WereMade size producers number (after_own part made) rest

-- a seat gained just these steps, in turn
abbrev pub Gained : ℕ → ℕ → ℕ → SeatPart → List Made → SeatPart → Type 0
Gained size producers number part made after =
    WereMade size producers number part made × (after ≡ knowing_all part made)
