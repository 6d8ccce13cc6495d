-- How a replay asks its core.
use Rattle.std.specs.Prelude.{◌≡◌, Bool, List, [], ◌∷◌, length, Option, Some, None, slice_get, Result, Ok, Err}
use Rattle.std.specs.List.{Contains}
use Rattle.policy.specs.Policy.{Declared}
use Rattle.core_model.specs.declared.answer.Answer.TheVariants as answer
use Rattle.core_model.specs.declared.entry.Entry.{Entry}
use Rattle.core_model.specs.declared.event.Event.{Event}
use Rattle.core_model.specs.declared.event.Event.TheVariants.{Call, Open, Reload, Take}
use Rattle.core_model.specs.declared.event.CoreRequest.{CoreRequest}
use Rattle.core_model.specs.declared.event.CoreRequest.TheVariants as request
use Rattle.core_model.specs.declared.refusal.Refusal.TheVariants as refusal
use Rattle.core_model.specs.History.{History}
use Rattle.core_model.specs.Legal.{IsServed}
use Rattle.core_model.specs.Queries.{AnswerOrRefusal}
use Rattle.replay.specs.declared.stop.Due.TheVariants as due
use Rattle.replay.specs.declared.stop.Stop.{Stop}
use Rattle.replay.specs.declared.stop.Stop.TheVariants as stop
use Rattle.replay.specs.Replays.{GoesOn, HasRows, IsFull, IsOther, IsOwed, IsUnknown, Replayed, TellsTheSame}

-- a request asks for an event: a reload by a further policy that has its rows
abbrev pub Asks : Replayed → Event → CoreRequest → Type 0
Asks replay (Open client agent size) asked = asked ≡ request.Open client agent size
Asks replay (Take queue packet bytes) asked = asked ≡ request.Take queue packet bytes
Asks replay (Call call) asked = asked ≡ request.Call call
Asks replay (Reload rows) asked =
    (policy : Declared) × Contains replay.further policy × HasRows replay.history.origin.policy rows policy × (asked ≡ request.Reload policy)

-- a request isn't a query
abbrev pub IsCall : CoreRequest → Type 0
IsCall (request.Query asked) = ⊥
IsCall _ = Unit {0}

-- the request of an event, unless memory is wanted; there is none where no further policy has the rows
abbrev pub AsksOrNot : Replayed → Event → Result CoreRequest Stop → Type 0
AsksOrNot replay event (Ok asked) = Asks replay event asked
AsksOrNot replay event (Err stop.OutOfMemory) = Unit {0}
AsksOrNot replay event (Err stop.UnknownRows) = IsUnknown replay.history.origin.policy replay.further event
AsksOrNot replay event (Err _) = ⊥

-- why there is no place for an entry more
abbrev pub LacksPlace : Replayed → Stop → Type 0
LacksPlace replay stop.OutOfMemory = Unit {0}
LacksPlace replay stop.NoRoom = IsFull replay
LacksPlace replay _ = ⊥

-- what a reply tells where no entry was made
abbrev pub told_in : AnswerOrRefusal → Stop
told_in (Ok (answer.Outcome outcome)) = stop.NotOwed (due.Answered outcome)
told_in (Ok _) = stop.OutOfMemory
told_in (Err refusal.OutOfMemory) = stop.OutOfMemory
told_in (Err why) = stop.NotOwed (due.Refused why)

-- what holding an entry that was made against the one that is told comes to
abbrev pub IsHeld : Entry → Entry → Result (Unit {0}) Stop → Type 0
IsHeld made told (Ok done) = TellsTheSame made told
IsHeld made told (Err why) = (why ≡ stop.NotOwed due.Entered) × (TellsTheSame made told → ⊥)

-- the same of one that may have been made
abbrev pub IsJudged : Option Entry → Entry → AnswerOrRefusal → Result (Unit {0}) Stop → Type 0
IsJudged (Some made) told reply result = IsHeld made told result
IsJudged None told reply result = result ≡ Err (told_in reply)

-- a request was served, and what came was held against the entry
abbrev pub HasMade : History → CoreRequest → Entry → Result (Unit {0}) Stop → History → Type 0
HasMade old asked entry result new = (reply : AnswerOrRefusal) × IsServed old asked reply new × IsJudged (slice_get new.entries (length old.entries)) entry reply result

-- what making the call of an entry comes to, where there is a place for it
abbrev pub Makes : Replayed → Entry → Result (Unit {0}) Stop → Replayed → Type 0
Makes old entry (Ok done) new = IsOwed old entry × GoesOn old (entry ∷ []) new
Makes old entry (Err stop.OutOfMemory) new = GoesOn old [] new
Makes old entry (Err (stop.NotOwed told)) new = IsOther old entry told new
Makes old entry (Err _) new = ⊥
