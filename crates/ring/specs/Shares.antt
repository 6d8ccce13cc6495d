-- What the seats of a shared ring know together, and the fact that its table keeps (own).
use Rattle.std.specs.Prelude.{◌≡◌, ℕ, ◌+◌, suc, List, [], ◌∷◌, length, get_or, sum_by, nat_lt, ◌==◌, slice_set, ⊤, if◌then◌else◌}
use mathlib.Core.Option.{some}
use lib.ListN.{get_elem?}
use Rattle.atomic_table.specs.Table.{State}
use Rattle.ring_core.specs.declared.access.Step.{Step}
use Rattle.ring_core.specs.declared.part.SeatPart.{SeatPart}
use Rattle.ring_core.specs.Parts.{nobody, seen_by}
use Rattle.ring_core.specs.Machine.{Machine, Makes, machine_of, opened, Replays, made, touched, found, word_after, knows_after}
use Rattle.ring_core.specs.Rule.{IsRule}
use Rattle.ring.specs.declared.share.Numbered.{Numbered}
use Rattle.ring.specs.declared.share.RingShape.{RingShape}
use Rattle.ring.specs.Places.{table_place, words_seen}

abbrev pub shape_of : ℕ → ℕ → RingShape
shape_of size producers = record { size = size; producers = producers }

-- a share of one part
abbrev pub alone : ℕ → SeatPart → List Numbered
alone number part = record { number = number; part = part } ∷ []

-- parts under their numbers, from a number on
abbrev pub numbered : ℕ → List SeatPart → List Numbered
numbered number [] = []
numbered number (part ∷ parts) = record { number = number; part = part } ∷ numbered (suc number) parts

-- the share of the first seat: all parts of a ring that opens
abbrev pub first_share : RingShape → List Numbered
first_share shape = numbered 0 (opened shape.size shape.producers).parts

-- each part of a share is the one that a machine has under its number
abbrev pub AreOf : List SeatPart → List Numbered → Type 0
AreOf parts [] = ⊤
AreOf parts (entry ∷ share) = (get_or parts entry.number nobody ≡ entry.part) × AreOf parts share

-- how often a number is in a share
abbrev pub times_in : ℕ → List Numbered → ℕ
times_in number [] = 0
times_in number (entry ∷ share) = (if entry.number == number then 1 else 0) + times_in number share

-- the shares of all seats unite to the parts of a machine: each share has parts of it, and each number is
-- in one share, once. A spent share is empty
pub record Unite (parts : List SeatPart) (shares : List (List Numbered)) : Type 0 where
  pub own : (seat : ℕ) (share : List Numbered) → get_elem? shares seat ≡ some share → AreOf parts share
  pub once : (number : ℕ) → sum_by (times_in number) shares ≡ (if nat_lt number (length parts) then 1 else 0)

-- the words of a ring's table and the shares of all its seats are together this machine: its words are
-- those seen among the table's, the shares unite to its parts, some list of steps leads to it from the
-- opening, and it meets the ring rule
pub record AreMachine (size producers : ℕ) (words : List ℕ) (shares : List (List Numbered)) (machine : Machine) : Type 0 where
  pub sized : machine.size ≡ size
  pub are : machine.words ≡ words_seen words
  pub unite : Unite machine.parts shares
  pub reached : (steps : List Step) × Replays size producers steps machine
  pub rule : IsRule producers machine

-- the table's words once a machine made a step: the word at the place that it touches has changed, and no
-- other has, in the gaps neither
abbrev pub words_after : Machine → Step → List ℕ → List ℕ
words_after machine step words =
    slice_set words (table_place (touched machine step)) (word_after step.access (found machine step))

-- and the shares: that of the seat which made it, all of whose knowledge is one part
abbrev pub shares_after : Machine → Step → ℕ → List (List Numbered) → List (List Numbered)
shares_after machine step seat shares =
    slice_set shares seat (alone step.seat (knows_after machine step))

-- an access by a seat is this one step of a machine: words and shares are then the next machine
pub record IsOneStep (size producers : ℕ) (words : List ℕ) (shares : List (List Numbered)) (machine : Machine) (seat : ℕ) (step : Step) : Type 0 where
  pub makes : Makes machine step (seen_by step.access (found machine step)) (made machine step)
  pub become : AreMachine size producers (words_after machine step words) (shares_after machine step seat shares) (made machine step)

-- the fact that the table keeps between any two steps: some list of steps leads from the opening to a
-- machine with the words seen among these and with the parts to which the shares of all seats unite
abbrev pub IsKept : {S : Type 0} → RingShape → State S (List Numbered) → Type 0
IsKept shape state =
    (steps : List Step) × (parts : List SeatPart)
    × Replays shape.size shape.producers steps (machine_of shape.size (words_seen state.words) parts)
    × Unite parts state.views
