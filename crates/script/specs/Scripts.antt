-- What a run of a whole script comes to.
use Rattle.std.specs.Prelude.{ℕ, Bool, true, ◌≡◌, ◌⊎◌, ◌+◌, ◌<◌, ◌≤◌, List, [], ◌∷◌, ◌++◌, length, Option, Some, None, Result, Ok, Err, ⊤}
use Rattle.std.specs.Io.KnownBytes.{Appends, IsAtEnd}
use Rattle.script.specs.declared.fault.ScriptFault.{ScriptFault}
use Rattle.script.specs.declared.fault.ScriptFault.TheVariants.{OutOfMemory, BadLine, Read, Write}
use Rattle.script.specs.declared.fault.RunFault.{RunFault}
use Rattle.script.specs.declared.fault.RunFault.TheVariants.{Script, Watcher}
use Rattle.script.specs.declared.session.Session.{Session}
use Rattle.script.specs.declared.watch.Flow.{Flow}
use Rattle.script.specs.declared.watch.Never.{Never}
use Rattle.script.specs.declared.watch.Flow.TheVariants.{GoOn, Pause, End}
use Rattle.world.specs.States.{Joined}
use Rattle.script.specs.Streams.{AppendsBeginning}
use Rattle.words.specs.Lines.{nonempty_before}
use Rattle.script.specs.Runs.{Law, EndsAt, Rotates, IsBad, Runs, StopsSaying, WantsAt, lines_from, lines_of}
use Rattle.script.specs.Sessions.{begun, pending}

-- the bytes that a reader has left are these, where it tells them
abbrev pub Tells : Option (List ℕ) → List ℕ → Type 0
Tells None bytes = ⊤
Tells (Some left) bytes = left ≡ bytes

-- these lines were served in turn, and just their replies were handed over
abbrev pub Replies : {S : Type 0} → Law S → S → S → Option (List ℕ) → Option (List ℕ) → List (List ℕ) → Type 0
Replies law old new held holds lines = (text : List ℕ) × Runs law old lines text new × Appends held holds text

-- how a run ended: all is done, it couldn't go on, or whoever watches ended it
abbrev pub Ending : Type 0 → Type 0
Ending F = Result ⊤ (RunFault F)

-- the same of a run that nobody watches, so that nobody else ends it
abbrev pub unwatched : Result ⊤ ScriptFault → Ending Never
unwatched (Ok done) = Ok done
unwatched (Err fault) = Err (Script fault)

-- how some lines ended before the last: `number` is that of the first; `held` and `holds` are the writer's bytes before and after
abbrev pub EndsIn : {S F : Type 0} → Law S → S → S → Option (List ℕ) → Option (List ℕ) → ℕ → List (List ℕ) → RunFault F → Type 0
-- the line of a number is no request, and the lines before it are replied to
EndsIn law old new held holds number lines (Script (BadLine bad)) =
    (before : List (List ℕ)) × (line : List ℕ) × (after : List (List ℕ)) × (lines ≡ before ++ line ∷ after)
    × (bad ≡ number + length before) × IsBad law new line × Replies law old new held holds before
-- memory was wanted at a line, and what is told of it is the last
EndsIn law old new held holds number lines (Script OutOfMemory) =
    (before : List (List ℕ)) × (line : List ℕ) × (after : List (List ℕ)) × (mid : _) × (text : List ℕ) × (last : List ℕ)
    × (lines ≡ before ++ line ∷ after) × Runs law old before text mid × WantsAt law mid new line last × Appends held holds (text ++ last)
-- some lines were served, the next was served at most, and these replies handed over in part
EndsIn law old new held holds number lines (Script Write) =
    (before : List (List ℕ)) × (after : List (List ℕ)) × (mid : _) × (text : List ℕ) × (last : List ℕ) × (lines ≡ before ++ after)
    × Runs law old before text mid × StopsSaying law mid new after last × AppendsBeginning held holds (text ++ last)
-- at a line whoever watches ended the run, and what is told of it is the last
EndsIn law old new held holds number lines (Watcher fault) =
    (before : List (List ℕ)) × (line : List ℕ) × (after : List (List ℕ)) × (mid : _) × (text : List ℕ) × (last : List ℕ)
    × (lines ≡ before ++ line ∷ after) × Runs law old before text mid × EndsAt law mid new line last × Appends held holds (text ++ last)
-- lines alone are no reading
EndsIn law old new held holds number lines (Script Read) = ⊥

-- what a run comes to: `left` has the reader's bytes after
abbrev pub Outcome : {S F : Type 0} → Law S → S → S → Option (List ℕ) → Option (List ℕ) → Option (List ℕ) → List ℕ → Ending F → Type 0
-- all lines are replied to, and nothing is left to read
Outcome law old new held holds left script (Ok done) = IsAtEnd left × Replies law old new held holds (lines_of script)
-- the lines that ended in what was read are replied to
Outcome law old new held holds left script (Err (Script Read)) =
    (before : List (List ℕ)) × (begun : List ℕ) × (rest : List ℕ) × Tells left rest × (lines_of script ≡ before ++ lines_from begun rest)
    × Replies law old new held holds before
-- a line ended it
Outcome law old new held holds left script (Err (Script (BadLine bad))) = EndsIn {F = ⊤} law old new held holds 1 (lines_of script) (Script (BadLine bad))
Outcome law old new held holds left script (Err (Script OutOfMemory)) = EndsIn {F = ⊤} law old new held holds 1 (lines_of script) (Script OutOfMemory)
Outcome law old new held holds left script (Err (Script Write)) = EndsIn {F = ⊤} law old new held holds 1 (lines_of script) (Script Write)
Outcome law old new held holds left script (Err (Watcher fault)) = EndsIn law old new held holds 1 (lines_of script) (Watcher fault)

-- what a run comes to, whatever the reader and the writer are: the script is what the reader gives, and just that
-- where it tells its bytes; `had` and `left` are the reader's bytes before and after
abbrev pub RunsScript : {S F : Type 0} → Law S → S → S → Option (List ℕ) → Option (List ℕ) → Option (List ℕ) → Option (List ℕ) → Ending F → Type 0
RunsScript law old new held holds had left result = (script : List ℕ) × Tells had script × Outcome law old new held holds left script result

-- whether the reader and the writer have failed, before and after: the reader has just where the run ends by Read, and the writer just
-- where it ends by Write
abbrev pub HasCause : {F : Type 0} → (read_before read_after write_before write_after : Bool) → Ending F → Type 0
HasCause r s w v (Ok done) = (s ≡ r) × (v ≡ w)
HasCause r s w v (Err (Script Read)) = (s ≡ true) × (v ≡ w)
HasCause r s w v (Err (Script Write)) = (s ≡ r) × (v ≡ true)
HasCause r s w v (Err (Script OutOfMemory)) = (s ≡ r) × (v ≡ w)
HasCause r s w v (Err (Script (BadLine number))) = (s ≡ r) × (v ≡ w)
HasCause r s w v (Err (Watcher fault)) = (s ≡ r) × (v ≡ w)

-- the same of the writer alone, where nothing is read
abbrev pub IsCaused : {F : Type 0} → (write_before write_after : Bool) → RunFault F → Type 0
IsCaused w v (Script Read) = ⊥
IsCaused w v (Script Write) = v ≡ true
IsCaused w v (Script OutOfMemory) = v ≡ w
IsCaused w v (Script (BadLine number)) = v ≡ w
IsCaused w v (Watcher fault) = v ≡ w

-- ---- between the blocks that are read

-- a turn, behind what isn't that the run goes on
abbrev pub TurnEnds : {F : Type 0} → (Flow → Type 0) → Joined → Joined → Flow → Ending F → Type 0
TurnEnds passes old new said (Ok done) = passes said × ((new ≡ old) ⊎ Rotates old new)
TurnEnds passes old new said (Err (Script fault)) = (fault ≡ OutOfMemory) × passes said × (new ≡ old)
TurnEnds passes old new said (Err (Watcher fault)) = new ≡ old

-- a turn of whoever watches: the world stays or its audit is rotated; or memory is wanted for that, or the run ends
abbrev pub TakesTurn : {F : Type 0} → (Flow → Type 0) → Joined → Joined → Flow → Ending F → Type 0
TakesTurn passes old new GoOn (Ok done) = new ≡ old
TakesTurn passes old new GoOn (Err fault) = ⊥
TakesTurn passes old new Pause ended = TurnEnds passes old new Pause ended
TakesTurn passes old new End ended = TurnEnds passes old new End ended

-- bytes were taken, and the replies to the lines that ended in them handed over
pub record TookBlock {S : Type 0} (law : Law S) (old new : S) (held holds : Option (List ℕ)) (before after : Session) (bytes : List ℕ) : Type 0 where
  pub done : List (List ℕ)
  pub text : List ℕ
  pub lines : (more : List ℕ) → lines_from (begun before) (bytes ++ more) ≡ done ++ lines_from (begun after) more
  pub runs : Runs law old done text new
  pub handed : Appends held holds text
  pub empty : pending after ≡ []
  pub number : after.number ≡ before.number + length done
  pub few : length done ≤ length bytes

-- bytes were taken up to those that are left, at least one, and the replies handed over
pub record TookUpTo {S : Type 0} (law : Law S) (old new : S) (held holds : Option (List ℕ)) (before after : Session) (bytes rest : List ℕ) : Type 0 where
  pub front : List ℕ
  pub parts : bytes ≡ front ++ rest
  pub took : TookBlock law old new held holds before after front
  pub some : 0 < length front

-- not all lines could be served, whatever follows
abbrev pub FailedBlock : {S F : Type 0} → Law S → S → S → Option (List ℕ) → Option (List ℕ) → ℕ → (List ℕ → List (List ℕ)) → RunFault F → Type 0
FailedBlock law old new held holds number lines fault = (more : List ℕ) → EndsIn law old new held holds number (lines more) fault

-- the last line, if one was begun, is replied to
abbrev pub EndedAll : {S : Type 0} → Law S → S → S → Option (List ℕ) → Option (List ℕ) → Session → Type 0
EndedAll law old new held holds before = Replies law old new held holds (nonempty_before (begun before) [])
