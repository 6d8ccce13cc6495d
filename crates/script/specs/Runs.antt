-- What is owed to the lines of a script.
use Rattle.std.specs.Prelude.{ℕ, ◌≡◌, ◌==◌, ◌<◌, ◌⊎◌, List, [], ◌∷◌, ◌++◌, Option, Some, None, Result, Ok, if◌then◌else◌, length, ⊤}
use Rattle.policy.specs.Policy.{Declared}
use Rattle.core_model.specs.History.{Part, beginning}
use Rattle.core_model.specs.declared.answer.Answer.TheVariants.{Audit}
use Rattle.world.specs.declared.reply.Answer.TheVariants as answer
use Rattle.world.specs.declared.reply.Refusal.{Refusal}
use Rattle.world.specs.declared.request.Request.TheVariants as request
use Rattle.world.specs.Dues.{IsServed, Reply}
use Rattle.world.specs.States.{Joined}
use Rattle.script.specs.declared.command.Command.{Command}
use Rattle.script.specs.declared.command.LineAnswer.{LineAnswer}
use Rattle.script.specs.declared.command.LineAnswer.TheVariants as told
use Rattle.script.specs.declared.command.NumberMeaning.TheVariants.{Plain}
use Rattle.script.specs.declared.fault.RunFault.{RunFault}
use Rattle.script.specs.declared.fault.RunFault.TheVariants.{Script, Watcher}
use Rattle.script.specs.declared.fault.ScriptFault.TheVariants.{OutOfMemory, BadLine, Read, Write}
use Rattle.script.specs.declared.lines.Line.{Line}
use Rattle.script.specs.declared.lines.Line.TheVariants as line
use Rattle.script.specs.declared.watch.Flow.{Flow}
use Rattle.script.specs.declared.watch.Flow.TheVariants.{GoOn, Pause, End}
use Rattle.words.specs.Lines.{nonempty_before}
use Rattle.script.specs.Lines.{line_of}
use Rattle.script.specs.Replies.{text_of_line}
use Rattle.script.specs.Expansions.{does}

-- lines of bytes that come behind the begin of a line: a line ends at a line feed, or at the end if it has a byte
unfoldable pub lines_from : List ℕ → List ℕ → List (List ℕ)
lines_from line [] = nonempty_before line []
lines_from line (byte ∷ bytes) = if byte == 10 then line ∷ lines_from [] bytes else lines_from (line ++ byte ∷ []) bytes

-- the lines of a text
abbrev pub lines_of : List ℕ → List (List ℕ)
lines_of bytes = lines_from [] bytes

-- the reply to a line that asks something
abbrev pub Told : Type 0
Told = Result LineAnswer Refusal

-- the part of the audit that the reply to a line hands out, if it does (own)
abbrev pub parts_told : Told → List Part
parts_told (Ok (told.Answered meaning (answer.Rotated part))) = part ∷ []
parts_told _ = []

-- the audit, as the reply to a line that asks for it
abbrev pub audit_reply : Joined → Told
audit_reply world = Ok (told.Answered Plain (answer.Core (Audit (beginning world.core).before world.core.entries)))

-- names are those of the policy that the world was opened over
abbrev pub names : Joined → Declared
names world = world.core.origin.policy

-- the audit of a world is rotated: handed out to nobody
abbrev pub Rotates : Joined → Joined → Type 0
Rotates old new = (part : Part) × IsServed old request.Rotate (Ok (answer.Rotated part)) new

-- what a watcher may say to a reply; what it may have said where it lets the run go on at its turn; that the run may go on behind a line of
-- no form; and that it may fail as it sees a reply
pub record Watching : Type 1 where
  pub says : Told → Flow → Type 0
  pub passes : Flow → Type 0
  pub lets_by : Type 0
  pub may_fail : Type 0

-- what a line may come to in a style, under a watcher that may say so: its replies, what is said to them, and the world behind it; that a
-- line has no form; and what may be done of a line that is cut short, with the replies that are told
pub record Answering : Type 1 where
  pub answers : (Told → Flow → Type 0) → List Declared → Joined → List ℕ → List ℕ → Flow → Joined → Type 0
  pub unformed : List Declared → Joined → List ℕ → Type 0
  pub cuts : List Declared → Joined → List ℕ → List ℕ → Joined → Type 0

-- who serves lines: what a line may come to; which lines have no form; what may be done of one that is cut short; what may have been said
-- where the run goes on behind a turn; that it may go on behind a line of no form; that whoever watches may fail as a reply is seen; and
-- what a turn may do to the world
pub record Law (S : Type 0) : Type 1 where
  pub answers : S → List ℕ → List ℕ → Flow → S → Type 0
  pub unformed : S → List ℕ → Type 0
  pub cuts : S → List ℕ → List ℕ → S → Type 0
  pub passes : Flow → Type 0
  pub lets_by : Type 0
  pub may_fail : Type 0
  pub rotates : S → S → Type 0

-- a style and a watcher over a world, with these further policies
unfoldable pub law : Answering → Watching → List Declared → Law Joined
law style watcher later = record {
  answers = style.answers watcher.says later;
  unformed = style.unformed later;
  cuts = style.cuts later;
  passes = watcher.passes;
  lets_by = watcher.lets_by;
  may_fail = watcher.may_fail;
  rotates = Rotates;
}

-- what is said to a line: to its replies, or that it goes by without a form
abbrev pub Said : {S : Type 0} → Law S → S → List ℕ → List ℕ → Flow → S → Type 0
Said law old line reply said new =
    law.answers old line reply said new ⊎ (law.lets_by × law.unformed old line × (reply ≡ []) × (said ≡ Pause) × (new ≡ old))

-- a turn leaves the world, or rotates its audit
abbrev pub Turns : {S : Type 0} → Law S → S → S → Type 0
Turns law old new = (new ≡ old) ⊎ law.rotates old new

-- what a line comes to behind which the run goes on: at once, or behind a turn of whoever watches
abbrev pub Replied : {S : Type 0} → Law S → S → List ℕ → List ℕ → S → Type 0
Replied law old line reply new =
    Said law old line reply GoOn new ⊎ ((mid : _) × (said : Flow) × Said law old line reply said mid × law.passes said × Turns law mid new)

-- what is replied to lines in turn: the replies one behind the other
abbrev pub Runs : {S : Type 0} → Law S → S → List (List ℕ) → List ℕ → S → Type 0
Runs law old [] text new = (text ≡ []) × (new ≡ old)
Runs law old (line ∷ lines) text new =
    (mid : _) × (first : List ℕ) × (rest : List ℕ) × Replied law old line first mid × Runs law mid lines rest new × (text ≡ first ++ rest)

-- nothing is done, and nothing told
abbrev pub Untouched : {S : Type 0} → S → List ℕ → S → Type 0
Untouched old last new = (new ≡ old) × (last ≡ [])

-- a line is cut short: nothing is done of it, or something, with the replies that are told
abbrev pub CutShort : {S : Type 0} → (S → List ℕ → List ℕ → S → Type 0) → S → List ℕ → List ℕ → S → Type 0
CutShort cuts old line last new = Untouched old last new ⊎ cuts old line last new

-- a run stops near some lines, and this is told last: nothing, or replies to the first of the lines
abbrev pub StopsSaying : {S : Type 0} → Law S → S → S → List (List ℕ) → List ℕ → Type 0
StopsSaying law old new [] last = Untouched old last new
StopsSaying law old new (line ∷ lines) last = CutShort law.cuts old line last new ⊎ ((said : Flow) × Said law old line last said new)

-- whoever watches has its turn behind a line, to whose replies it had said so
abbrev pub PausesAt : {S : Type 0} → Law S → S → S → List ℕ → List ℕ → Type 0
PausesAt law old new line last = (said : Flow) × Said law old line last said new × (said ≡ GoOn → ⊥)

-- memory is wanted at a line: for the line, which is cut short, or for a rotation at a turn behind it
abbrev pub WantsAt : {S : Type 0} → Law S → S → S → List ℕ → List ℕ → Type 0
WantsAt law old new line last = CutShort law.cuts old line last new ⊎ PausesAt law old new line last

-- whoever watches ends the run at a line: at a turn behind it; or as it sees a reply, which isn't told then
abbrev pub EndsAt : {S : Type 0} → Law S → S → S → List ℕ → List ℕ → Type 0
EndsAt law old new line last = PausesAt law old new line last ⊎ (law.may_fail × law.cuts old line last new)

-- a line that is no request: of no form, or too long
abbrev pub IsBad : {S : Type 0} → Law S → S → List ℕ → Type 0
IsBad law broker line = law.unformed broker line ⊎ (16384 < length line)

-- what a line's service left, and what was said to its replies; or it has no form, and all is as it was
abbrev pub Served : {S : Type 0} → Law S → S → S → List ℕ → List ℕ → List ℕ → Option Flow → Type 0
Served law old new line before after (Some said) = (reply : List ℕ) × law.answers old line reply said new × (after ≡ before ++ reply)
Served law old new line before after None = law.unformed old line × (new ≡ old) × (after ≡ before)

-- what the service of a line left that was cut short: memory was wanted, or whoever watches failed
abbrev pub Cut : {S F : Type 0} → Law S → S → S → List ℕ → List ℕ → List ℕ → RunFault F → Type 0
Cut law old new line before after (Script OutOfMemory) = (last : List ℕ) × (after ≡ before ++ last) × CutShort law.cuts old line last new
Cut law old new line before after (Script (BadLine bad)) = ⊥
Cut law old new line before after (Script Read) = ⊥
Cut law old new line before after (Script Write) = ⊥
Cut law old new line before after (Watcher fault) = (last : List ℕ) × (after ≡ before ++ last) × law.may_fail × law.cuts old line last new

-- ---- the lines of a script

-- what a voice tells of a reply, by the policy whose names it uses
abbrev pub Telling : Type 1
Telling = Declared → Told → List ℕ → Type 0

-- it is told behind other text
abbrev pub TellsBehind : (List ℕ → Type 0) → List ℕ → List ℕ → Type 0
TellsBehind tells before after = (text : List ℕ) × tells text × (after ≡ before ++ text)

-- what a line may come to that stands for this: what it asks is done, and the reply told
abbrev pub answers_as : Telling → (Told → Flow → Type 0) → List Declared → Joined → Option Line → List ℕ → Flow → Joined → Type 0
answers_as tells says later old None reply said new = ⊥
answers_as tells says later old (Some line.Quiet) reply said new = (reply ≡ []) × (said ≡ GoOn) × (new ≡ old)
answers_as tells says later old (Some (line.Asks command)) reply said new =
    (told : Told) × does later command old told new × tells (names new) told reply × says told said

-- what may be done of one that is cut short: what it asks, whose reply isn't told
abbrev pub cuts_as : List Declared → Joined → Option Line → List ℕ → Joined → Type 0
cuts_as later old None last new = ⊥
cuts_as later old (Some line.Quiet) last new = ⊥
cuts_as later old (Some (line.Asks command)) last new = (told : Told) × does later command old told new × (last ≡ [])

-- what a line stands for over a world, with these further policies
abbrev pub stands_for : List Declared → Joined → List ℕ → Option Line
stands_for later world line = line_of (names world) (length later) line

-- each line is one of a script, and told so
abbrev pub by_line : Telling → Answering
by_line tells = record {
  answers = λ says later old line reply said new. answers_as tells says later old (stands_for later old line) reply said new;
  unformed = λ later world line. stands_for later world line ≡ None;
  cuts = λ later old line last new. cuts_as later old (stands_for later old line) last new;
}

-- as text
abbrev pub as_text : Telling
as_text policy told text = text ≡ text_of_line policy told

-- not at all
abbrev pub in_silence : Telling
in_silence policy told text = text ≡ []

-- whoever watches fails only where it may
abbrev pub IsCutBy : {F : Type 0} → Type 0 → RunFault F → Type 0
IsCutBy may_fail (Script OutOfMemory) = ⊤
IsCutBy may_fail (Script (BadLine number)) = ⊥
IsCutBy may_fail (Script Read) = ⊥
IsCutBy may_fail (Script Write) = ⊥
IsCutBy may_fail (Watcher fault) = may_fail
