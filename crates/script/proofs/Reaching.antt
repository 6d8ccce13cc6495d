-- What a line does is a list of requests.
use Rattle.std.proofs.Common.{◌≡◌, ℕ, List, [], ◌∷◌, ◌++◌, Option, Some, None, Result, Ok, Err, refl, sym, subst, ◌∙◌, inl, inr}
use Rattle.std.specs.Prelude.{⊤}
use Rattle.std.specs.List.{cons_option}
use Rattle.policy.specs.Policy.{Declared, numbered}
use Rattle.world.specs.declared.reply.Refusal.{Refusal}
use Rattle.world.specs.declared.request.Request.{Request}
use Rattle.world.specs.declared.request.Request.TheVariants as request
use Rattle.core_model.specs.History.{Part}
use Rattle.world.specs.declared.lane.Served.{Served}
use Rattle.world.specs.declared.lane.Shown.{Shown}
use Rattle.world.specs.declared.reply.Answer.{Answer}
use Rattle.world.specs.declared.reply.Answer.TheVariants as answer
use Rattle.world.specs.Actions.{Action, Reaches, and_then, asks, goes_on, returns}
use Rattle.world.specs.Dues.{IsServed, Reply, part_of}
use Rattle.world.specs.Lanes.{peek, publish, retire, serve_next, submit}
use Rattle.world.specs.States.{Joined}
use Rattle.world.proofs.Requesting.{Keeps, keeps_peek, keeps_publish, keeps_retire, keeps_serve_next, keeps_submit, reaches, reaches_more, reaches_none, reaches_one}
use Rattle.script.specs.declared.command.Command.{Command}
use Rattle.script.specs.declared.command.Command.TheVariants as command
use Rattle.script.specs.declared.command.LineAnswer.{LineAnswer}
use Rattle.script.specs.declared.command.NumberMeaning.{NumberMeaning}
use Rattle.script.specs.declared.command.LineAnswer.TheVariants as line
use Rattle.script.specs.declared.lines.Line.{Line}
use Rattle.script.specs.declared.lines.Line.TheVariants as lines
use Rattle.script.specs.Expansions.{ask, copies, does, meaning_of, raised, reload, served_or_empty, shown_or_empty}
use Rattle.script.specs.declared.fault.RunFault.TheVariants.{Script, Watcher}
use Rattle.script.specs.declared.fault.ScriptFault.TheVariants.{OutOfMemory, BadLine, Read, Write}
use Rattle.script.specs.declared.watch.Flow.{Flow}
use Rattle.script.specs.declared.watch.Flow.TheVariants.{GoOn}
use Rattle.script.specs.Runs.{CutShort, EndsAt, PausesAt, Replied, Runs, Said, StopsSaying, Telling, Told, Turns, WantsAt, Watching, answers_as, by_line, cuts_as, law, lines_of, parts_told, stands_for}
use Rattle.script.specs.Scripts.{Ending, Outcome, RunsScript}

-- ---- any line

-- one request, told as any answer is
told_one : (meaning : NumberMeaning) (answered : Answer) → cons_option (part_of (Ok answered)) [] ≡ parts_told (Ok (line.Answered meaning answered))
told_one meaning (answer.Core told) = refl
told_one meaning (answer.Step told) = refl
told_one meaning (answer.Header packet word) = refl
told_one meaning (answer.Taken packet taken) = refl
told_one meaning (answer.Rotated part) = refl

asked_reaches : (asked : Request) (old : Joined) (told : Told) (new : Joined) → ask asked old told new → Reaches old (parts_told told) new
unfolding asks
asked_reaches asked old told new (reply, mid, served, on) = by_reply reply served on
  where
    by_reply : (reply : Reply) → IsServed old asked reply mid → goes_on (λ answered. returns (line.Answered (meaning_of asked) answered)) reply mid told new → Reaches old (parts_told told) new
    by_reply (Ok answered) served (is, same) =
        subst (λ (t : Told). Reaches old (parts_told t) new) (sym is)
        (subst (λ (w : Joined). Reaches old (parts_told (Ok (line.Answered (meaning_of asked) answered))) w) (sym same)
        (subst (λ (ps : List Part). Reaches old ps mid) (told_one (meaning_of asked) answered) (reaches_one old mid asked (Ok answered) served)))
    by_reply (Err why) served (is, same) =
        subst (λ (t : Told). Reaches old (parts_told t) new) (sym is)
        (subst (λ (w : Joined). Reaches old [] w) (sym same) (reaches_one old mid asked (Err why) served))

-- a call of a lane, and its value told so, which tells of no part
told_reaches : {X : Type 0} (call : Action X) (told_as : X → LineAnswer) → Keeps call → ((value : X) → parts_told (Ok (told_as value)) ≡ []) →
    (old : Joined) (told : Told) (new : Joined) → and_then call (λ value. returns (told_as value)) old told new → Reaches old (parts_told told) new
told_reaches {X = X} call told_as kept none old told new (reached, mid, done, on) = by_value reached done on
  where
    by_value : (reached : Result X Refusal) → call old reached mid → goes_on (λ value. returns (told_as value)) reached mid told new → Reaches old (parts_told told) new
    by_value (Ok value) done (is, same) =
        subst (λ (t : Told). Reaches old (parts_told t) new) (sym is)
        (subst (λ (w : Joined). Reaches old (parts_told (Ok (told_as value))) w) (sym same)
        (subst (λ (ps : List Part). Reaches old ps mid) (sym (none value)) (reaches call kept old (Ok value) mid done)))
    by_value (Err why) done (is, same) =
        subst (λ (t : Told). Reaches old (parts_told t) new) (sym is)
        (subst (λ (w : Joined). Reaches old [] w) (sym same) (reaches call kept old (Err why) mid done))

shown_none : (shown : Option Shown) → parts_told (Ok (shown_or_empty shown)) ≡ []
shown_none None = refl
shown_none (Some shown) = refl

served_none : (served : Option Served) → parts_told (Ok (served_or_empty served)) ≡ []
served_none None = refl
served_none (Some served) = refl

reload_reaches : (named : Option Declared) (old : Joined) (told : Told) (new : Joined) → reload named old told new → Reaches old (parts_told told) new
reload_reaches named old told new (reached, mid, copied, on) = by_policy reached copied on
  where
    by_policy : (reached : Result Declared Refusal) → copies named old reached mid → goes_on (λ policy. ask (request.Reload policy)) reached mid told new → Reaches old (parts_told told) new
    by_policy (Ok policy) copied asked =
        subst (λ (w : Joined). Reaches w (parts_told told) new) copied.1 (asked_reaches (request.Reload policy) mid told new asked)
    by_policy (Err why) copied (is, same) =
        subst (λ (t : Told). Reaches old (parts_told t) new) (sym is) (reaches_none old new (same ∙ copied.1))

pub line_reaches : (later : List Declared) (asked : Command) (old : Joined) (told : Told) (new : Joined) → does later asked old told new → Reaches old (parts_told told) new
unfolding does
line_reaches later (command.Ask asked) old told new done = asked_reaches asked old told new done
line_reaches later (command.Publish queue producer ticket words) old told new done =
    told_reaches (publish queue producer ticket words) line.Sent (keeps_publish queue producer ticket words) (λ sent. refl) old told new done
line_reaches later (command.Submit queue producer words) old told new done =
    told_reaches (submit queue producer words) line.Sent (keeps_submit queue producer words) (λ sent. refl) old told new done
line_reaches later (command.Peek queue) old told new done = told_reaches (peek queue) shown_or_empty (keeps_peek queue) shown_none old told new done
line_reaches later (command.Retire queue) old told new done = told_reaches (retire queue) raised (keeps_retire queue) (λ read. refl) old told new done
line_reaches later (command.Serve queue) old told new done = told_reaches (serve_next queue) served_or_empty (keeps_serve_next queue) served_none old told new done
line_reaches later (command.Reload number) old told new done = reload_reaches (numbered later number) old told new done

-- one thing after another
reach_on : (old mid new : Joined) → ((parts : List Part) × Reaches old parts mid) → ((parts : List Part) × Reaches mid parts new) → (parts : List Part) × Reaches old parts new
reach_on old mid new one more = (one.0 ++ more.0, reaches_more old mid new one.0 more.0 one.1 more.1)

-- what a line stands for that is answered, or cut short
answers_reach : (tells : Telling) (says : Told → Flow → Type 0) (later : List Declared) (old new : Joined) (stands : Option Line) (reply : List ℕ) (said : Flow) →
    answers_as tells says later old stands reply said new → (parts : List Part) × Reaches old parts new
answers_reach tells says later old new None reply said done = absurd done
answers_reach tells says later old new (Some lines.Quiet) reply said done = ([], reaches_none old new done.2)
answers_reach tells says later old new (Some (lines.Asks asked)) reply said done = (parts_told done.0, line_reaches later asked old done.0 new done.1)

cuts_reach : (later : List Declared) (old new : Joined) (stands : Option Line) (last : List ℕ) → cuts_as later old stands last new → (parts : List Part) × Reaches old parts new
cuts_reach later old new None last done = absurd done
cuts_reach later old new (Some lines.Quiet) last done = absurd done
cuts_reach later old new (Some (lines.Asks asked)) last done = (parts_told done.0, line_reaches later asked old done.0 new done.1)

-- ---- lines in turn, in any voice and whoever watches

module _ (tells : Telling) (watcher : Watching) (later : List Declared) where
  said_reach : (old new : Joined) (line reply : List ℕ) (said : Flow) → Said (law (by_line tells) watcher later) old line reply said new → (parts : List Part) × Reaches old parts new
  unfolding law
  said_reach old new line reply said (inl answered) = answers_reach tells watcher.says later old new (stands_for later old line) reply said answered
  said_reach old new line reply said (inr by) = ([], reaches_none old new by.4)

  turn_reach : (old new : Joined) → Turns (law (by_line tells) watcher later) old new → (parts : List Part) × Reaches old parts new
  unfolding law
  turn_reach old new (inl same) = ([], reaches_none old new same)
  turn_reach old new (inr rotated) = (rotated.0 ∷ [], reaches_one old new request.Rotate (Ok (answer.Rotated rotated.0)) rotated.1)

  replied_reach : (old new : Joined) (line reply : List ℕ) → Replied (law (by_line tells) watcher later) old line reply new → (parts : List Part) × Reaches old parts new
  unfolding law
  replied_reach old new line reply (inl said) = said_reach old new line reply GoOn said
  replied_reach old new line reply (inr (mid, said, answered, passes, turns)) = reach_on old mid new (said_reach old mid line reply said answered) (turn_reach mid new turns)

  cut_reach : (old new : Joined) (line last : List ℕ) → CutShort (law (by_line tells) watcher later).cuts old line last new → (parts : List Part) × Reaches old parts new
  unfolding law
  cut_reach old new line last (inl same) = ([], reaches_none old new same.0)
  cut_reach old new line last (inr cut) = cuts_reach later old new (stands_for later old line) last cut

  pub runs_reach : (old new : Joined) (script : List (List ℕ)) (text : List ℕ) → Runs (law (by_line tells) watcher later) old script text new → (parts : List Part) × Reaches old parts new
  runs_reach old new [] text done = ([], reaches_none old new done.1)
  runs_reach old new (first ∷ script) text done = reach_on old done.0 new (replied_reach old done.0 first done.1 done.3) (runs_reach done.0 new script done.2 done.4)

  pauses_reach : (old new : Joined) (line last : List ℕ) → PausesAt (law (by_line tells) watcher later) old new line last → (parts : List Part) × Reaches old parts new
  pauses_reach old new line last paused = said_reach old new line last paused.0 paused.1

  pub ends_reach : (old new : Joined) (line last : List ℕ) → EndsAt (law (by_line tells) watcher later) old new line last → (parts : List Part) × Reaches old parts new
  unfolding law
  ends_reach old new line last (inl paused) = pauses_reach old new line last paused
  ends_reach old new line last (inr failed) = cut_reach old new line last (inr failed.1)

  saying_reach : (old new : Joined) (script : List (List ℕ)) (last : List ℕ) → StopsSaying (law (by_line tells) watcher later) old new script last → (parts : List Part) × Reaches old parts new
  saying_reach old new [] last same = ([], reaches_none old new same.0)
  saying_reach old new (line ∷ script) last (inl cut) = cut_reach old new line last cut
  saying_reach old new (line ∷ script) last (inr said) = said_reach old new line last said.0 said.1

  wants_reach : (old new : Joined) (line last : List ℕ) → WantsAt (law (by_line tells) watcher later) old new line last → (parts : List Part) × Reaches old parts new
  wants_reach old new line last (inl cut) = cut_reach old new line last cut
  wants_reach old new line last (inr paused) = pauses_reach old new line last paused

  -- a whole run, whatever it comes to
  outcome_reaches : {F : Type 0} (old new : Joined) (held holds left : Option (List ℕ)) (script : List ℕ) (result : Ending F) →
      Outcome (law (by_line tells) watcher later) old new held holds left script result → (parts : List Part) × Reaches old parts new
  outcome_reaches old new held holds left script (Ok done) ran = runs_reach old new (lines_of script) ran.1.0 ran.1.1
  outcome_reaches old new held holds left script (Err (Script (BadLine number))) ran = runs_reach old new ran.0 ran.6.0 ran.6.1
  outcome_reaches old new held holds left script (Err (Script Read)) ran = runs_reach old new ran.0 ran.5.0 ran.5.1
  outcome_reaches old new held holds left script (Err (Script OutOfMemory)) ran =
      reach_on old ran.3 new (runs_reach old ran.3 ran.0 ran.4 ran.7) (wants_reach ran.3 new ran.1 ran.5 ran.8)
  outcome_reaches old new held holds left script (Err (Script Write)) ran =
      reach_on old ran.2 new (runs_reach old ran.2 ran.0 ran.3 ran.6) (saying_reach ran.2 new ran.1 ran.4 ran.7)
  outcome_reaches old new held holds left script (Err (Watcher fault)) ran =
      reach_on old ran.3 new (runs_reach old ran.3 ran.0 ran.4 ran.7) (ends_reach ran.3 new ran.1 ran.5 ran.8)

  pub script_reaches : {F : Type 0} (old new : Joined) (held holds had left : Option (List ℕ)) (result : Ending F) →
      RunsScript (law (by_line tells) watcher later) old new held holds had left result → (parts : List Part) × Reaches old parts new
  script_reaches old new held holds had left result ran = outcome_reaches old new held holds left ran.0 result ran.2
