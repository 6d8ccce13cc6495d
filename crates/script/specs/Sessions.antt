-- What a run in its course has done.
use Rattle.std.specs.Prelude.{ℕ, ◌⊎◌, ◌≡◌, ◌≢◌, ◌+◌, ◌<◌, ◌≤◌, List, [], ◌∷◌, ◌++◌, length, Option, Some, None, Result, Ok, Err, ⊤, slice_index, string_bytes}
use Rattle.script.specs.declared.fault.ScriptFault.{ScriptFault}
use Rattle.script.specs.declared.fault.ScriptFault.TheVariants.{OutOfMemory, BadLine, Read, Write}
use Rattle.script.specs.declared.fault.RunFault.{RunFault}
use Rattle.script.specs.declared.fault.RunFault.TheVariants.{Script, Watcher}
use Rattle.script.specs.declared.session.Session.{Session}
use Rattle.script.specs.declared.watch.Flow.{Flow}
use Rattle.script.specs.declared.watch.Flow.TheVariants.{GoOn, Pause, End}
use Rattle.words.specs.Lines.{nonempty_before}
use Rattle.script.specs.Runs.{Law, CutShort, IsBad, Runs, Said, lines_from}

-- the bytes of the line that is begun
abbrev pub begun : Session → List ℕ
begun session = session.line.items

-- the replies that were not handed over yet
abbrev pub pending : Session → List ℕ
pending session = string_bytes session.out

-- what is said of a line of no form
abbrev pub GoesBy : Type 0 → ℕ → Result Flow ScriptFault → Type 0
GoesBy lets_by number (Ok said) = lets_by × (said ≡ Pause)
GoesBy lets_by number (Err fault) = fault ≡ BadLine number

-- what is said to a line, if it has a form; else what follows where it has none
abbrev pub FlowOf : Type 0 → ℕ → Option Flow → Result Flow ScriptFault → Type 0
FlowOf lets_by number (Some flow) (Ok said) = said ≡ flow
FlowOf lets_by number (Some flow) (Err fault) = ⊥
FlowOf lets_by number None ended = GoesBy lets_by number ended

-- bytes were taken: the lines that ended in them are done, and their replies wait
pub record Took {S : Type 0} (law : Law S) (old new : S) (before after : Session) (bytes : List ℕ) : Type 0 where
  pub done : List (List ℕ)
  pub text : List ℕ
  pub lines : (more : List ℕ) → lines_from (begun before) (bytes ++ more) ≡ done ++ lines_from (begun after) more
  pub runs : Runs law old done text new
  pub out : pending after ≡ pending before ++ text
  pub number : after.number ≡ before.number + length done
  pub few : length done ≤ length bytes

-- bytes were taken up to the end of a line, behind which whoever watches has a turn
pub record Paused {S : Type 0} (law : Law S) (old new : S) (before after : Session) (bytes : List ℕ) (said : Flow) : Type 0 where
  pub done : List (List ℕ)
  pub text : List ℕ
  pub mid : S
  pub line : List ℕ
  pub reply : List ℕ
  pub lines : (more : List ℕ) → lines_from (begun before) (bytes ++ more) ≡ done ++ line ∷ lines_from (begun after) more
  pub runs : Runs law old done text mid
  pub answered : Said law mid line reply said new
  pub out : pending after ≡ pending before ++ (text ++ reply)
  pub number : after.number ≡ before.number + (length done + 1)
  pub few : length done + 1 ≤ length bytes

-- all of some bytes were taken; or those before a rest, and whoever watches has a turn
abbrev pub TookSome : {S : Type 0} → Law S → S → S → Session → Session → List ℕ → List ℕ → Flow → Type 0
TookSome law old new before after bytes rest GoOn = (rest ≡ []) × Took law old new before after bytes
TookSome law old new before after bytes rest said = (front : List ℕ) × (bytes ≡ front ++ rest) × Paused law old new before after front said

-- a line of some lines is bad
abbrev pub HasBadLine : {S : Type 0} → Law S → S → List (List ℕ) → List (List ℕ) → Type 0
HasBadLine law broker done lines = (line : List ℕ) × (further : List (List ℕ)) × (lines ≡ done ++ line ∷ further) × IsBad law broker line

-- some lines begin with those done, and the further one is cut short
abbrev pub StopsBehind : {S : Type 0} → Law S → S → S → List (List ℕ) → List (List ℕ) → List ℕ → Type 0
StopsBehind law mid new done lines last =
    (line : List ℕ) × (further : List (List ℕ)) × (lines ≡ done ++ line ∷ further) × CutShort law.cuts mid line last new

-- some lines begin with those done, and as a reply to the further one is seen, whoever watches fails
abbrev pub FailsBehind : {S : Type 0} → Law S → S → S → List (List ℕ) → List (List ℕ) → List ℕ → Type 0
FailsBehind law mid new done lines last =
    (line : List ℕ) × (further : List (List ℕ)) × (lines ≡ done ++ line ∷ further) × law.may_fail × law.cuts mid line last new

-- why some lines could not all be served, after those done; `number` is the first one's, and `last` what is told of the one at which they stop
abbrev pub Why : {S F : Type 0} → Law S → S → S → ℕ → List (List ℕ) → List (List ℕ) → List ℕ → RunFault F → Type 0
Why law mid new number done lines last (Script (BadLine bad)) = (bad ≡ number + length done) × (new ≡ mid) × HasBadLine law new done lines × (last ≡ [])
Why law mid new number done lines last (Script OutOfMemory) = StopsBehind law mid new done lines last
Why law mid new number done lines last (Script Read) = ⊥
Why law mid new number done lines last (Script Write) = ⊥
Why law mid new number done lines last (Watcher fault) = FailsBehind law mid new done lines last

-- the lines that come when further bytes follow some, or when none follow the line that is begun
abbrev pub with_further : Session → List ℕ → List ℕ → List (List ℕ)
with_further session bytes more = lines_from (begun session) (bytes ++ more)

abbrev pub at_end : Session → List ℕ → List (List ℕ)
at_end session more = nonempty_before (begun session) []

-- lines could not all be served: the replies of those done before wait, and what is told of the one at which they stop
pub record Failed {S F : Type 0} (law : Law S) (old new : S) (before after : Session) (lines : List ℕ → List (List ℕ)) (fault : RunFault F) : Type 0 where
  pub done : List (List ℕ)
  pub text : List ℕ
  pub last : List ℕ
  pub mid : S
  pub runs : Runs law old done text mid
  pub out : pending after ≡ pending before ++ (text ++ last)
  pub why : (more : List ℕ) → Why law mid new before.number done (lines more) last fault

-- no byte of a part of a line is a line feed
abbrev pub HasNoFeed : List ℕ → Type 0
HasNoFeed part = (place : ℕ) → place < length part → slice_index part place ≢ 10

-- bytes are a part of a line, a line feed, and what stands behind it
pub record FeedBetween (bytes part behind : List ℕ) : Type 0 where
  pub plain : HasNoFeed part
  pub parts : bytes ≡ (part ++ 10 ∷ []) ++ behind

-- a part belongs to the line that is begun
pub record TookPart (before after : Session) (part : List ℕ) : Type 0 where
  pub line : begun after ≡ begun before ++ part
  pub out : pending after ≡ pending before
  pub number : after.number ≡ before.number

-- a part makes the line too long, or finds no room
abbrev pub WhyPart : Session → List ℕ → ScriptFault → Type 0
WhyPart before part (BadLine bad) = (bad ≡ before.number) × (16384 < length (begun before) + length part)
WhyPart before part OutOfMemory = 0 < length part
WhyPart before part Read = ⊥
WhyPart before part Write = ⊥

abbrev pub FailedPart : Session → Session → List ℕ → ScriptFault → Type 0
FailedPart before after part fault = (pending after ≡ pending before) × WhyPart before part fault

-- a line is served, and the next one begins
pub record AnsweredLine {S : Type 0} (law : Law S) (old new : S) (line : List ℕ) (before after : Session) (said : Flow) : Type 0 where
  pub reply : List ℕ
  pub answered : Said law old line reply said new
  pub out : pending after ≡ pending before ++ reply
  pub fresh : begun after ≡ []
  pub number : after.number ≡ before.number + 1

-- the end was taken: no line was begun, or the one that was is served
abbrev pub AnsweredEnd : {S : Type 0} → Law S → S → S → Session → Session → Flow → Type 0
AnsweredEnd law old new before after said =
    ((begun before ≡ []) × (new ≡ old) × (after ≡ before) × (said ≡ GoOn))
    ⊎ ((0 < length (begun before)) × AnsweredLine law old new (begun before) before after said)

-- a line could not be served, or is cut short
abbrev pub FailedLine : {S F : Type 0} → Law S → S → S → List ℕ → Session → Session → RunFault F → Type 0
FailedLine law old new line before after (Script (BadLine bad)) =
    (pending after ≡ pending before) × (bad ≡ before.number) × (new ≡ old) × IsBad law old line
FailedLine law old new line before after (Script OutOfMemory) =
    (last : List ℕ) × (pending after ≡ pending before ++ last) × CutShort law.cuts old line last new
FailedLine law old new line before after (Script Read) = ⊥
FailedLine law old new line before after (Script Write) = ⊥
FailedLine law old new line before after (Watcher fault) =
    (last : List ℕ) × (pending after ≡ pending before ++ last) × law.may_fail × law.cuts old line last new
