-- Which histories are legal, and what a list of requests is owed in turn.
use Rattle.std.specs.Prelude.{ℕ, ◌+◌, ◌≡◌, ◌⊎◌, Bool, true, false, List, [], ◌∷◌, ◌++◌, length, nat_lt, Result, Ok, Err, if◌then◌else◌}
use Rattle.core_model.specs.declared.event.Event.{Event}
use Rattle.core_model.specs.declared.event.Event.TheVariants.{Open, Take, Reload, Call}
use Rattle.core_model.specs.declared.call.Call.TheVariants.{RunNext, HostWrite}
use Rattle.core_model.specs.declared.event.Query.{Query}
use Rattle.core_model.specs.declared.event.CoreRequest.{CoreRequest}
use Rattle.core_model.specs.declared.event.CoreRequest.TheVariants as request
use Rattle.core_model.specs.declared.entry.Entry.{Entry}
use Rattle.core_model.specs.declared.entry.Effect.{Effect}
use Rattle.core_model.specs.declared.outcome.Outcome.{Outcome}
use Rattle.core_model.specs.declared.outcome.Outcome.TheVariants as outcomes
use Rattle.core_model.specs.declared.outcome.Taken.TheVariants.{Launched}
use Rattle.core_model.specs.declared.answer.Answer.TheVariants as answer
use Rattle.core_model.specs.declared.refusal.Refusal.{Refusal}
use Rattle.core_model.specs.declared.refusal.Refusal.TheVariants as refusal
use Rattle.kernel_check.specs.Programs.{Program}
use Rattle.policy.specs.Policy.{Declared}
use Rattle.policy.specs.Declaring.{DeclaresAs}
use Rattle.policy.specs.Results.{map_ok}
use Rattle.core_model.specs.History.{History, IsOpeningOrigin, Origin, Part, Start, begin, beginning, opening_state, policy_in}
use Rattle.grants.specs.Ledger as ledger
use Rattle.aql_packet.specs.declared.ids.ClientId.{ClientId}
use Rattle.aql_packet.specs.declared.ids.QueueId.{QueueId}
use Rattle.aql_packet.specs.declared.ids.PacketId.{PacketId}
use Rattle.policy.specs.declared.object.Object.{Object}
use Rattle.policy.specs.declared.rights.Right.{Right}
use Rattle.core_model.specs.States.{state_after}
use Rattle.core_model.specs.Flight.{flight, flight_after}
use Rattle.core_model.specs.Owed.{Owed, refuses, answers, enters, owed}
use Rattle.core_model.specs.Queries.{AnswerOrRefusal, query_answer}
pub use Rattle.core_model.specs.Asking.{asks_for_memory, query_may_lack_memory}

-- the history of a core that was just opened: it begins from what a core begins from that is opened over this policy, and has no entry yet (own)
pub record IsOpening (history : History) (policy : Declared) (kernels : List Program) (capacity : ℕ) : Type 0 where
  pub origin_is : IsOpeningOrigin policy history.origin
  pub kernels_are : history.kernels ≡ kernels
  pub capacity_is : history.capacity ≡ capacity
  pub entries_are : history.entries ≡ []

-- the entries follow each other lawfully after those before: each is what its event was owed at that point (own)
abbrev pub IsLegalAfter : Start → List Entry → List Entry → Type 0
IsLegalAfter start before [] = Unit {0}
IsLegalAfter start before (entry ∷ entries) =
    (owed start before entry.event ≡ enters entry.outcome entry.effects) × IsLegalAfter start (before ++ entry ∷ []) entries

-- a whole history is legal: it begins from an opening state, and each entry is what its event was owed by the entries before it (own)
pub record IsWhole (start : Start) (entries : List Entry) : Type 0 where
  pub opens : start ≡ opening_state start.policy start.kernels
  pub legal : IsLegalAfter start [] entries

-- a history is legal: it is the rest of a whole one, with the same kernels, and begins from the state behind the part before (own)
pub record IsLegal (start : Start) (entries : List Entry) : Type 0 where
  -- the policy at the opening, and the entries before the start
  pub first : Declared
  pub prior : List Entry
  pub start_is : start ≡ state_after (opening_state first start.kernels) prior
  pub whole : IsWhole (opening_state first start.kernels) (prior ++ entries)

-- a part is legal for these kernels: its entries are, from what it begins from, and it ends in the state behind them (own)
pub record IsLegalPart (kernels : List Program) (part : Part) : Type 0 where
  pub legal : IsLegal (begin kernels part.start) part.entries
  pub end_is : begin kernels part.end ≡ state_after (begin kernels part.start) part.entries

-- two are the same to begin from: the same policy in force, grants told by their look-ups, and all else equal (own)
pub record SameOrigin (one other : Origin) : Type 0 where
  pub policy : policy_in one ≡ policy_in other
  pub granted : (client : ClientId) (on : Object) (right : Right) → ledger.in_force one.grants client on right ≡ ledger.in_force other.grants client on right
  pub held : (queue : QueueId) (id : PacketId) (client : ClientId) (on : Object) (right : Right) → ledger.holds one.grants queue id client on right ≡ ledger.holds other.grants queue id client on right
  pub memory : one.memory ≡ other.memory
  pub signals : one.signals ≡ other.signals
  pub opened : one.opened ≡ other.opened
  pub queues : one.queues ≡ other.queues
  pub packets : one.packets ≡ other.packets
  pub before : one.before ≡ other.before

-- a part ends where another begins (own)
abbrev pub IsFollowedBy : Part → Part → Type 0
IsFollowedBy first second = SameOrigin second.start first.end

-- two parts in one (own)
abbrev pub joined : Part → Part → Part
joined first second = record { start = first.start; entries = first.entries ++ second.entries; end = second.end }

-- the entry of an event (own)
abbrev pub entry_of : Event → Outcome → List Effect → Entry
entry_of event outcome effects = record { event = event; outcome = outcome; effects = effects }

-- whether an audit has no room for one entry more: after it fewer places would be free than packets are in flight (own)
abbrev pub lacks_room : History → Entry → Bool
lacks_room history entry =
    nat_lt history.capacity (length history.entries + 1 + length (flight_after (flight (beginning history) history.entries) entry))

-- what is due where an event is owed this: an entry that the audit has no room for is refused, after every other refusal (own)
abbrev pub within_room : History → Event → Owed → Owed
within_room history event (refuses why) = refuses why
within_room history event (answers outcome) = answers outcome
within_room history event (enters outcome effects) =
    if lacks_room history (entry_of event outcome effects) then refuses refusal.AuditFull
    else enters outcome effects

-- what is due to an event: what it is owed, or that the audit has no room for its entry (own)
abbrev pub due : History → Event → Owed
due history event = within_room history event (owed (beginning history) history.entries event)

-- the reply to an event that is owed this (own)
abbrev pub reply_of : Owed → Result Outcome Refusal
reply_of (refuses why) = Err why
reply_of (answers outcome) = Ok outcome
reply_of (enters outcome effects) = Ok outcome

-- the entries after an event that is owed this (own)
abbrev pub entries_after : List Entry → Event → Owed → List Entry
entries_after entries event (refuses why) = entries
entries_after entries event (answers outcome) = entries
entries_after entries event (enters outcome effects) = entries ++ entry_of event outcome effects ∷ []

-- the history after an event that is owed this (own)
abbrev pub history_after : History → Event → Owed → History
history_after history event owing = record history { entries = entries_after history.entries event owing }

-- a call that answers nothing more than that it was made (own)
abbrev pub as_accepted : Result (Unit {0}) Refusal → Result Outcome Refusal
as_accepted made = map_ok (λ done. outcomes.Accepted) made

-- an event got what was due, and left what was due (own)
pub record Meets (event : Event) (old new : History) (reply : Result Outcome Refusal) : Type 0 where
  pub reply_is : reply ≡ reply_of (due old event)
  pub history_is : new ≡ history_after old event (due old event)

-- whether an event that is due this may want memory: an opening, a launch, a group, a client's write and a reload, and only where they
-- are entered; a group also where the audit is full, since only what it comes to tells whether its entry needs room; any other
-- refusal, an answer without an entry, and every other call never do (own)
abbrev pub may_lack_memory : Event → Owed → Bool
may_lack_memory (Open _ _ _) (enters _ _) = true
may_lack_memory (Take _ _ _) (enters (outcomes.Taken Launched) _) = true
may_lack_memory (Call (RunNext _ _)) (enters _ _) = true
may_lack_memory (Call (RunNext _ _)) (refuses refusal.AuditFull) = true
may_lack_memory (Call (HostWrite _ _ _)) (enters _ _) = true
may_lack_memory (Reload _) (enters _ _) = true
may_lack_memory _ _ = false

-- memory was asked for and not to be had, and all is as before (own)
pub record LacksMemory (event : Event) (old new : History) (reply : Result Outcome Refusal) : Type 0 where
  pub may : may_lack_memory event (due old event) ≡ true
  pub asks : asks_for_memory old event (due old event) ≡ true
  pub reply_is : reply ≡ Err refusal.OutOfMemory
  pub history_is : new ≡ old

-- an event got and left what was due, unless memory was wanted (own)
abbrev pub MeetsOrLacks : Event → History → History → Result Outcome Refusal → Type 0
MeetsOrLacks event old new reply = Meets event old new reply ⊎ LacksMemory event old new reply

-- a policy that declares other clients or objects was refused, and all is as before (own)
pub record IsOfOthers (policy : Declared) (old new : History) (reply : Result Outcome Refusal) : Type 0 where
  pub others : DeclaresAs (beginning old).policy policy → ⊥
  pub reply_is : reply ≡ Err refusal.OtherObjects
  pub history_is : new ≡ old

-- a policy was handed in, to be in force from then on: where it declares other clients or objects it was refused, before all else; else
-- the reload of its rows got and left what was due, unless memory was wanted (own)
abbrev pub ReloadMeetsOrLacks : Declared → History → History → Result Outcome Refusal → Type 0
ReloadMeetsOrLacks policy old new reply =
    IsOfOthers policy old new reply ⊎ (DeclaresAs (beginning old).policy policy × MeetsOrLacks (Reload policy.rows) old new reply)

-- an event's reply as a reply to a request (own)
abbrev pub as_reply : Result Outcome Refusal → AnswerOrRefusal
as_reply made = map_ok answer.Outcome made

-- a query got its answer, or its refusal, and changed nothing (own)
abbrev pub Replies : Query → History → AnswerOrRefusal → Type 0
Replies asked history reply = reply ≡ query_answer (beginning history) history.entries asked

-- it did, or it may want memory, and was told so (own)
abbrev pub RepliesOrLacks : Query → History → AnswerOrRefusal → Type 0
RepliesOrLacks asked history reply =
    Replies asked history reply ⊎ ((query_may_lack_memory (query_answer (beginning history) history.entries asked) ≡ true) × (reply ≡ Err refusal.OutOfMemory))

-- an event was made: it got and left what was due, and was told so; or it was told that memory was wanted (own)
abbrev pub IsMade : Event → History → AnswerOrRefusal → History → Type 0
IsMade event old reply new = (made : Result Outcome Refusal) × (reply ≡ as_reply made) × MeetsOrLacks event old new made

-- a request was served: its event got and left what was due, so did the reload of a policy that declares as before, and a query, which
-- changes nothing, got its reply; or it was told that memory was wanted, and then it counts as not made (own)
abbrev pub IsServed : History → CoreRequest → AnswerOrRefusal → History → Type 0
IsServed old (request.Open client agent size) reply new = IsMade (Open client agent size) old reply new
IsServed old (request.Take queue packet bytes) reply new = IsMade (Take queue packet bytes) old reply new
IsServed old (request.Call asked) reply new = IsMade (Call asked) old reply new
IsServed old (request.Query asked) reply new = RepliesOrLacks asked old reply × (new ≡ old)
IsServed old (request.Reload policy) reply new = (made : Result Outcome Refusal) × (reply ≡ as_reply made) × ReloadMeetsOrLacks policy old new made

-- these replies answer these requests in turn, and lead from one history to the other (own)
abbrev pub AreReplies : History → List CoreRequest → List AnswerOrRefusal → History → Type 0
AreReplies old [] [] new = new ≡ old
AreReplies old (asked ∷ requests) (reply ∷ replies) new = (mid : History) × IsServed old asked reply mid × AreReplies mid requests replies new
AreReplies old [] (reply ∷ replies) new = ⊥
AreReplies old (asked ∷ requests) [] new = ⊥
