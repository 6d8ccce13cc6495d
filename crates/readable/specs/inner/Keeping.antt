-- What is kept of the requests of a drain as they are made (own).
use Rattle.std.specs.Prelude.{◌≡◌, ◌||◌, List, [], ◌++◌, false}
use Rattle.std.specs.List.{list_any}
use Rattle.world.specs.States.{Joined}
use Rattle.script.specs.Expansions.{does}
use Rattle.script.specs.Runs.{Told}
use Rattle.readable.specs.declared.flight.Queues.{Queues}
use Rattle.readable.specs.declared.log.Log.{Log}
use Rattle.readable.specs.Fates.{fated}
use Rattle.readable.specs.declared.moves.Came.{Came}
use Rattle.readable.specs.declared.moves.Move.{Move}
use Rattle.readable.specs.Moves.{Made, MadeInTurn, came_of, command_of}
use Rattle.readable.specs.Rounds.{IsRound}
use Rattle.readable.specs.Steps.{has_moved}
use Rattle.readable.specs.Tallies.{tallied}

-- a request was made as its line makes it, and came to this
abbrev pub Requests : Move → Joined → Came → Joined → Type 0
Requests asked old came new = (told : Told) × does [] (command_of asked) old told new × (came ≡ came_of told)

-- the counts and the fates behind requests are those before with what these came to
pub record Counts (before : Log) (made : List Made) (after : Log) : Type 0 where
  pub tally : after.tally ≡ tallied before.tally made
  pub fates : after.fates.items ≡ fated before.fates.items made

-- requests were made in turn and kept, and whether one moved something
pub record Asks (old : Joined) (before : Log) (made : List Made) (new : Joined) (after : Log) : Type 0 where
  pub made_in_turn : MadeInTurn old made new
  pub counts : Counts before made after
  pub moved : after.has_moved ≡ (before.has_moved || list_any has_moved made)

-- rounds so far: requests were made in turn and counted
pub record Rounds (old : Joined) (before : Log) (made : List Made) (new : Joined) (after : Log) : Type 0 where
  pub made_in_turn : MadeInTurn old made new
  pub counts : Counts before made after

-- they end with a round in which nothing moved
pub record Ends (queues : Queues) (old : Joined) (before : Log) (made : List Made) (new : Joined) (after : Log) : Type 0 where
  pub front : List Made
  pub round : List Made
  pub mid : Joined
  pub made_is : made ≡ front ++ round
  pub made_before : MadeInTurn old front mid
  pub is_round : IsRound queues mid round new
  pub still : list_any has_moved round ≡ false
  pub made_in_turn : MadeInTurn old made new
  pub counts : Counts before made after
