-- What a run of steps leaves with each seat (own).
use Rattle.std.specs.Prelude.{ℕ, ◌≡◌, ◌==◌, zero, suc, List, map, get_or, Some, Option, []}
use Rattle.std.specs.List.{filter, fold}
use Rattle.ring_core.specs.declared.access.Access.{Access}
use Rattle.ring_core.specs.declared.access.Made.{Made}
use Rattle.ring_core.specs.declared.access.Seen.{Seen}
use Rattle.ring_core.specs.declared.access.Seen.TheVariants.{Read, Stored}
use Rattle.ring_core.specs.declared.access.Step.{Step}
use Rattle.ring_core.specs.declared.part.SeatPart.{SeatPart}
use Rattle.ring_core.specs.declared.part.SeatPart.TheVariants.{Producer, Processor}
use Rattle.ring_core.specs.Parts.{part_after, new_producer, new_processor}
use Rattle.ring_core.specs.Machine.{Machine, part_at}
use Rattle.ring_core.specs.Rule.{processor_of, ticket_of}

-- the steps that a part has
abbrev pub steps_of : SeatPart → List Made
steps_of (Producer p) = p.steps
steps_of (Processor p) = p.steps

-- the word that a step read; a store read none
abbrev pub word_read : Seen → ℕ
word_read (Read word) = word
word_read Stored = 0

-- what a seat knows after one step more of its own
abbrev pub after_own : SeatPart → Made → SeatPart
after_own part made = part_after part made.access (word_read made.seen)

-- the part with which a seat begins: seat 0 is the processor
abbrev pub begins_with : ℕ → SeatPart
begins_with zero = new_processor
begins_with (suc seat) = new_producer

-- of these steps, what one seat made
abbrev pub accesses_of : ℕ → List Step → List Access
accesses_of seat steps = map (λ step. step.access) (filter (λ step. step.seat == seat) steps)

-- a seat has just the steps that it made, and knows what follows from them
pub record KnowsItsOwn (steps : List Step) (machine : Machine) (seat : ℕ) : Type 0 where
  pub own : map (λ made. made.access) (steps_of (part_at machine seat)) ≡ accesses_of seat steps
  pub follows : part_at machine seat ≡ fold after_own (begins_with seat) (steps_of (part_at machine seat))

-- the packet that the processor retired under an id
abbrev pub retired_at : Machine → ℕ → List ℕ
retired_at machine id = get_or (processor_of machine.parts).retired id []

-- the words of a ticket, as far as they are written
abbrev pub ticket_words : Machine → ℕ → List (Option ℕ)
ticket_words machine id = (ticket_of machine.parts id).words

-- words that are all known
abbrev pub all_known : List ℕ → List (Option ℕ)
all_known words = map (λ word. Some word) words
