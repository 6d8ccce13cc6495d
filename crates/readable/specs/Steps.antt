-- What follows in a drain from what a request came to (own).
use Rattle.std.specs.Prelude.{Bool, true, false, nat_lt, if◌then◌else◌}
use Rattle.core_model.specs.declared.outcome.Outcome.{Outcome}
use Rattle.core_model.specs.declared.outcome.Outcome.TheVariants as outcome
use Rattle.core_model.specs.declared.outcome.Polled.TheVariants as polled
use Rattle.core_model.specs.declared.outcome.Taken.{Taken}
use Rattle.core_model.specs.declared.outcome.Taken.TheVariants as taken
use Rattle.core_model.specs.declared.outcome.Worked.{Worked}
use Rattle.core_model.specs.declared.outcome.Worked.TheVariants as worked
use Rattle.readable.specs.declared.moves.Came.{Came}
use Rattle.readable.specs.declared.moves.Came.TheVariants as came
use Rattle.readable.specs.declared.steps.Step.{Step}
use Rattle.readable.specs.declared.steps.Step.TheVariants as step
use Rattle.readable.specs.Moves.{Made, came_of}

-- a group ran, and others are left or not; there was none left; or it faulted, and its packet left flight
abbrev pub step_of_worked : Worked → Step
step_of_worked (worked.Ran group left) = if nat_lt 0 left then step.Again else step.Done
step_of_worked worked.Done = step.Done
step_of_worked (worked.Faulted error) = step.Gone

-- a packet that was handed over waits, or left its slot
abbrev pub step_of_taken : Taken → Step
step_of_taken (taken.Waiting cause) = step.Waits
step_of_taken taken.Launched = step.Again
step_of_taken (taken.Denied error) = step.Again

-- of an event; a packet that is finished, or failed, left flight
abbrev pub step_of_outcome : Outcome → Step
step_of_outcome (outcome.Worked worked) = step_of_worked worked
step_of_outcome (outcome.Polled (polled.Pending seen)) = step.Waits
step_of_outcome (outcome.Polled (polled.Ready seen)) = step.Done
step_of_outcome _ = step.Gone

-- of any request; a refused one waits
abbrev pub step_of : Came → Step
step_of came.Nothing = step.Nothing
step_of (came.Taken packet taken) = step_of_taken taken
step_of (came.Outcome outcome) = step_of_outcome outcome
step_of (came.Refused why) = step.Waits

-- whether something moved: a packet left its slot or its flight, or a group ran and others are left
abbrev pub moves : Step → Bool
moves step.Again = true
moves step.Gone = true
moves step.Done = false
moves step.Nothing = false
moves step.Waits = false

-- whether the same is asked once more
abbrev pub is_again : Step → Bool
is_again step.Again = true
is_again step.Gone = false
is_again step.Done = false
is_again step.Nothing = false
is_again step.Waits = false

-- whether a packet's work is done
abbrev pub is_done : Step → Bool
is_done step.Done = true
is_done step.Again = false
is_done step.Gone = false
is_done step.Nothing = false
is_done step.Waits = false

-- what follows from a request that was made, and whether it moved something
abbrev pub step_made : Made → Step
step_made made = step_of (came_of made.told)

abbrev pub has_moved : Made → Bool
has_moved made = moves (step_made made)
