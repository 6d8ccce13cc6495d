-- What a drain does: requests in turn, as lines of a script ask them, of which it keeps count.
use Rattle.std.specs.Prelude.{◌≡◌, List, [], Option, Some, None}
use Rattle.aql_packet.specs.declared.ids.QueueId.{QueueId}
use Rattle.world.specs.States.{Joined}
use Rattle.readable.specs.declared.drained.Drained.{Drained}
use Rattle.readable.specs.declared.fates.Fate.{Fate}
use Rattle.readable.specs.declared.flight.Queues.{Queues}
use Rattle.readable.specs.declared.flight.Queues.TheVariants as queues
use Rattle.readable.specs.declared.tally.Tally.{Tally}
use Rattle.readable.specs.Fates.{fated}
use Rattle.readable.specs.Moves.{Made, MadeInTurn}
use Rattle.readable.specs.Rounds.{IsOver}
use Rattle.readable.specs.Tallies.{none_yet, tallied}

-- requests of a drain, made in turn, lead from one world to the other
abbrev pub Makes : Joined → Joined → Type 0
Makes old new = (made : List Made) × MadeInTurn old made new

-- what a drain came to: how often its requests came to what, and what came of its packets
pub record Story : Type 0 where
  pub tally : Tally
  pub fates : List Fate

-- that of requests: a function of what they were and were replied
abbrev pub story_of : List Made → Story
story_of made = record { tally = tallied none_yet made; fates = fated [] made }

-- the one that is kept
abbrev pub story_in : Drained → Story
story_in drained = record { tally = drained.tally; fates = drained.fates.items }

-- the queues that are drained: the one that is named, or all that are open
abbrev pub queues_of : Option QueueId → Queues
queues_of (Some queue) = queues.One queue
queues_of None = queues.All

-- requests lead from one world to the other, behind which a drain of these queues is over, and this is their story
abbrev pub Drains : Queues → Joined → Story → Joined → Type 0
Drains queues old story new = (made : List Made) × MadeInTurn old made new × IsOver queues old made new × (story ≡ story_of made)
