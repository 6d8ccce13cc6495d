-- What watchers say to a reply (own).
use Rattle.std.specs.Prelude.{◌≡◌, List, Result, Ok, Err, ⊤}
use Rattle.core_model.specs.declared.answer.Answer as core
use Rattle.core_model.specs.declared.answer.Answer.TheVariants as answer
use Rattle.core_model.specs.declared.outcome.Outcome.{Outcome}
use Rattle.core_model.specs.declared.outcome.Outcome.TheVariants as outcome
use Rattle.core_model.specs.declared.outcome.Polled.{Polled}
use Rattle.core_model.specs.declared.outcome.Polled.TheVariants as polled
use Rattle.core_model.specs.declared.outcome.Taken.{Taken}
use Rattle.core_model.specs.declared.outcome.Taken.TheVariants as taken
use Rattle.core_model.specs.declared.outcome.Worked.{Worked}
use Rattle.core_model.specs.declared.outcome.Worked.TheVariants as worked
use Rattle.world.specs.declared.reply.Answer.{Answer}
use Rattle.world.specs.declared.reply.Answer.TheVariants as world
use Rattle.world.specs.declared.reply.Refusal.{Refusal}
use Rattle.script.specs.declared.command.LineAnswer.{LineAnswer}
use Rattle.script.specs.declared.command.LineAnswer.TheVariants as line
use Rattle.script.specs.declared.watch.Flow.{Flow}
use Rattle.script.specs.declared.watch.Flow.TheVariants.{GoOn, Pause, End}
use Rattle.policy.specs.Policy.{Declared}
use Rattle.world.specs.States.{Joined}
use Rattle.script.specs.Runs.{Law, Watching, as_text, by_line, law}

-- a denied packet, a group that faulted and a barrier packet that failed are failures
abbrev pub of_taken : Taken → Flow
of_taken (taken.Denied error) = End
of_taken _ = GoOn

abbrev pub of_worked : Worked → Flow
of_worked (worked.Faulted error) = End
of_worked _ = GoOn

abbrev pub of_polled : Polled → Flow
of_polled (polled.Failed error) = End
of_polled _ = GoOn

abbrev pub of_outcome : Outcome → Flow
of_outcome (outcome.Worked worked) = of_worked worked
of_outcome (outcome.Polled polled) = of_polled polled
of_outcome _ = GoOn

abbrev pub of_core : core.Answer → Flow
of_core (answer.Outcome outcome) = of_outcome outcome
of_core _ = GoOn

abbrev pub of_answer : Answer → Flow
of_answer (world.Taken packet taken) = of_taken taken
of_answer (world.Core answer) = of_core answer
of_answer _ = GoOn

-- a strict run ends at the first reply that tells that a line was refused, or of a failure, and nowhere else
abbrev pub strictly : Result LineAnswer Refusal → Flow
strictly (Ok (line.Answered meaning answer)) = of_answer answer
strictly (Ok _) = GoOn
strictly (Err refusal) = End

-- a strict run goes on behind nothing that isn't done
abbrev pub goes_by_strictly : Flow → Type 0
goes_by_strictly GoOn = ⊤
goes_by_strictly Pause = ⊤
goes_by_strictly End = ⊥

-- nobody watches: the run goes on whatever is replied, and nobody ends it
abbrev pub nobody : Watching
nobody = record {
  says = λ told flow. flow ≡ GoOn;
  passes = λ flow. ⊤;
  lets_by = ⊥;
  may_fail = ⊥;
}

-- a strict watcher ends the run behind the reply to the first line that isn't done, and nowhere else
abbrev pub strict : Watching
strict = record {
  says = λ told flow. flow ≡ strictly told;
  passes = goes_by_strictly;
  lets_by = ⊥;
  may_fail = ⊥;
}

-- nothing is known of who watches
abbrev pub anyone : Watching
anyone = record {
  says = λ told flow. ⊤;
  passes = λ flow. ⊤;
  lets_by = ⊤;
  may_fail = ⊤;
}

-- each line is one of a script, told as text, and nobody watches; these are the further policies
abbrev pub worlds : List Declared → Law Joined
worlds later = law (by_line as_text) nobody later
