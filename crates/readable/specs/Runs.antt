-- What a readable line comes to: requests in turn, each as a script's line makes it, and replies that are just theirs (own).
use Rattle.std.specs.Prelude.{ℕ, ◌≡◌, ◌⊎◌, List, [], ◌∷◌, ◌++◌, codes, flat_map, map, ⊤}
use Rattle.policy.specs.Policy.{Declared}
use Rattle.world.specs.States.{Joined}
use Rattle.script.specs.declared.command.Command.{Command}
use Rattle.script.specs.Expansions.{does}
use Rattle.script.specs.Runs.{Answering, Telling, Told, names}
use Rattle.readable.specs.declared.flight.Queues.{Queues}
use Rattle.readable.specs.Drains.{Story, story_of}
use Rattle.readable.specs.FateLines.{text_of_fates}
use Rattle.readable.specs.Moves.{Made, command_of}
use Rattle.readable.specs.Rounds.{IsOver}
use Rattle.readable.specs.Tallies.{text_of_tally}

-- ---- requests in turn

-- what was asked of a world, and what it was replied
pub record Asked : Type 0 where
  pub command : Command
  pub told : Told

-- each is done in turn as a script's line does it; these are the further policies
unfoldable pub AskedInTurn : List Declared → Joined → List Asked → Joined → Type 0
AskedInTurn later old [] new = new ≡ old
AskedInTurn later old (asked ∷ more) new =
    (mid : Joined) × does later asked.command old asked.told mid × AskedInTurn later mid more new

-- ---- replies

-- a reply: what it answers, and its text
pub record Reply : Type 0 where
  pub asked : List Asked
  pub text : List ℕ

-- what a voice tells of a drain that came to this, by the policy whose names it uses
abbrev pub TellingDrains : Type 1
TellingDrains = Declared → Story → List ℕ → Type 0

-- what a voice tells of what there is
abbrev pub TellingState : Type 1
TellingState = List ℕ → Type 0

-- a reply to one request: just what a script is replied
abbrev pub AnswersLine : Telling → Declared → Reply → Type 0
AnswersLine tells policy reply = (one : Asked) × (reply.asked ≡ one ∷ []) × tells policy one.told reply.text

-- a request of a drain, as one of a line
abbrev pub asked_of : Made → Asked
asked_of made = record { command = command_of made.asked; told = made.told }

-- a reply to a drain that leads from one world to the other: behind its requests the drain is over, and what is told is their story
abbrev pub AnswersDrain : TellingDrains → Joined → Reply → Joined → Type 0
AnswersDrain drains old reply new =
    (queues : Queues) × (made : List Made) × (reply.asked ≡ map asked_of made) × IsOver queues old made new × drains (names new) (story_of made) reply.text

-- a reply that tells what there is: nothing is asked
abbrev pub AnswersState : TellingState → Reply → Type 0
AnswersState states reply = (reply.asked ≡ []) × states reply.text

abbrev pub Answers : Telling → TellingDrains → TellingState → Joined → Reply → Joined → Type 0
Answers tells drains states old reply new = AnswersLine tells (names new) reply ⊎ (AnswersDrain drains old reply new ⊎ AnswersState states reply)

-- what each reply answers is asked in turn; names are those of the policy that the world was opened over
unfoldable pub RepliedInTurn : Telling → TellingDrains → TellingState → List Declared → Joined → List Reply → Joined → Type 0
RepliedInTurn tells drains states later old [] new = new ≡ old
RepliedInTurn tells drains states later old (reply ∷ more) new =
    (mid : Joined) × AskedInTurn later old reply.asked mid × Answers tells drains states old reply mid × RepliedInTurn tells drains states later mid more new

-- the texts of replies, one behind the other
abbrev pub text_of_replies : List Reply → List ℕ
text_of_replies replies = flat_map (λ reply. reply.text) replies

-- requests in turn lead from one world to the other, and these are their replies
abbrev pub Replied : Telling → TellingDrains → TellingState → List Declared → Joined → List ℕ → Joined → Type 0
Replied tells drains states later old text new = (replies : List Reply) × RepliedInTurn tells drains states later old replies new × (text ≡ text_of_replies replies)

-- the same, and more requests behind them, which aren't replied to
abbrev pub RepliedInPart : Telling → TellingDrains → TellingState → List Declared → Joined → List ℕ → Joined → Type 0
RepliedInPart tells drains states later old text new =
    (mid : Joined) × (asked : List Asked) × Replied tells drains states later old text mid × AskedInTurn later mid asked new

-- each line is readable, and told so
abbrev pub by_readable : Telling → TellingDrains → TellingState → Answering
by_readable tells drains states = record {
  answers = λ says later old line reply said new. Replied tells drains states later old reply new;
  unformed = λ later world line. ⊤;
  cuts = λ later old line last new. RepliedInPart tells drains states later old last new;
}

-- as text a drain is told as a line of each packet, and behind these with its counts
abbrev pub fates_and_counts : TellingDrains
fates_and_counts policy story text = (rest : List ℕ) × (text ≡ text_of_fates policy story.fates ++ text_of_tally story.tally ++ rest)

-- as text, what there is begins with its word
abbrev pub begins_with_state : TellingState
begins_with_state text = (rest : List ℕ) × (text ≡ codes "state " ++ rest)
