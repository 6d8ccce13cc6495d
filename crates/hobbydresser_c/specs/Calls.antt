-- What each call for C is answered, and what it leaves (own).
use Rattle.std.specs.Prelude.{ℕ, ℤ, ◌≡◌, Bool, true, nat_lt, ◌-◌, List, [], ◌∷◌, length, slice_get, Option, Some, None, option_map, Result, Ok, Err, if◌then◌else◌}
use Rattle.core_model.specs.declared.answer.Answer.{Answer}
use Rattle.core_model.specs.declared.entry.Effect.{Effect}
use Rattle.core_model.specs.declared.entry.Entry.{Entry}
use Rattle.core_model.specs.declared.event.Event.{Event}
use Rattle.core_model.specs.declared.event.Query.{Query}
use Rattle.core_model.specs.declared.outcome.Outcome.{Outcome}
use Rattle.core_model.specs.declared.outcome.Outcome.TheVariants as outcomes
use Rattle.core_model.specs.declared.outcome.Taken.{Taken}
use Rattle.core_model.specs.declared.refusal.Refusal.{Refusal}
use Rattle.core_model.specs.declared.refusal.Refusal.TheVariants as refusal
use Rattle.core_model.specs.History.{History, beginning}
use Rattle.core_model.specs.Owed.{is_host_size}
use Rattle.core_model.specs.Legal.{MeetsOrLacks, RepliesOrLacks}
use Rattle.policy.specs.Results.{map_ok}
use Rattle.policy.specs.Policy.{rules_of}
use Rattle.policy.specs.Rules.{knows_client}
use Rattle.policy.specs.Object.{object_of}
use Rattle.policy.specs.declared.object.Kind.{Kind}
use Rattle.policy.specs.declared.object.Kind.TheVariants.{Agent, Region, Signal, Kernel}
use Rattle.policy.specs.declared.object.Object.{Object}
use Rattle.policy.specs.declared.object.Object.TheVariants as objects
use Rattle.policy.specs.declared.rights.Right.TheVariants.{Write}
use Rattle.regions.specs.Memory.{region_of}
use Rattle.policy.specs.declared.rights.Rights.{Rights}
use Rattle.aql_packet.specs.declared.ids.ClientId.{ClientId}
use Rattle.core_model.specs.Grants.{in_force}
use Rattle.policy.specs.Rights.{rights_that}
use Rattle.signals.specs.declared.operation.Condition.{Condition}
use Rattle.signals.specs.declared.operation.Condition.TheVariants as condition
use Rattle.signals.specs.declared.operation.SignalOp.{SignalOp}
use Rattle.signals.specs.declared.operation.SignalOp.TheVariants as operation
use Rattle.hobbydresser_c.specs.declared.broker.Broker.{Broker}
use Rattle.hobbydresser_c.specs.declared.session.Session.{Session}
use Rattle.hobbydresser_c.specs.declared.told.HeldRecord.{HeldRecord}
use Rattle.hobbydresser_c.specs.declared.told.TakenRecord.{TakenRecord}
use Rattle.hobbydresser_c.specs.Buffers.{FillsRecords}
use Rattle.hobbydresser_c.specs.LastCalls.{call_of, no_right, session_after}
use Rattle.hobbydresser_c.specs.Words.{stands_open}
use Rattle.hobbydresser_c.specs.Statuses.{ok, no_such, status_of_refusal}
use Rattle.hobbydresser_c.specs.Told.{taken_told}

-- whether a broker is open
abbrev pub is_open : Broker → Bool
is_open broker = stands_open broker.state

-- what a broker stands for, where it is open, and the history of its core
abbrev pub session_of : Broker → Session
session_of broker = broker.pointer.session

abbrev pub history_of : Broker → History
history_of broker = (session_of broker).core.history

-- the broker is as it was, the last call too
pub record IsSame (old new : Broker) : Type 0 where
  pub state_is : new.state ≡ old.state
  pub session_is : session_of new ≡ session_of old

-- a call was made that lacked this, and all else of the broker is as it was
pub record IsNotedLacking (lacking : HeldRecord) (old new : Broker) : Type 0 where
  pub state_is : new.state ≡ old.state
  pub session_is : session_of new ≡ session_after (is_open old) lacking (session_of old)

abbrev pub IsNoted : Broker → Broker → Type 0
IsNoted old new = IsNotedLacking no_right old new

-- a call was made that lacked this: a broker is open or not as before, and of the text that it was opened with the digest is kept
pub record KeepsLacking (lacking : HeldRecord) (old new : Broker) : Type 0 where
  pub open_is : is_open new ≡ is_open old
  pub digest_is : (session_of new).digest ≡ (session_of old).digest
  pub last_is : is_open old ≡ true → (session_of new).last ≡ call_of (history_of old) lacking

abbrev pub Keeps : Broker → Broker → Type 0
Keeps old new = KeepsLacking no_right old new

-- an event was asked of an open broker, which stays open: it got what was due and left what was due, unless memory was wanted; and this
-- was told of the answer
abbrev pub Answered : {A : Type 0} → Event → (A → Outcome) → Broker → Broker → (Result A Refusal → Type 0) → Type 0
Answered {A} event outcome_of old new Tells =
    (answer : Result A Refusal) × MeetsOrLacks event (history_of old) (history_of new) (map_ok outcome_of answer) × Tells answer

-- a query was asked: it got its answer, unless memory was wanted; and this was told of the answer
abbrev pub Replied : {A : Type 0} → Query → (A → Answer) → Broker → (Result A Refusal → Type 0) → Type 0
Replied {A} query answer_of broker Tells =
    (answer : Result A Refusal) × RepliesOrLacks query (history_of broker) (map_ok answer_of answer) × Tells answer

-- the status says whether the call was made, or why it was refused
abbrev pub status_of : {A : Type 0} → Result A Refusal → ℕ
status_of (Ok value) = ok
status_of (Err why) = status_of_refusal why

-- the value that an out-parameter holds after an answer: that of the answer, or after a refusal what it held before
abbrev pub value_after : {A T : Type 0} → (A → T) → T → Result A Refusal → T
value_after told before (Ok value) = told value
value_after told before (Err why) = before

-- an answer was told: by the status, and by an out-parameter
abbrev pub Tells : {A T : Type 0} → (A → T) → ℕ → T → T → Result A Refusal → Type 0
Tells told status before after answer = (status ≡ status_of answer) × (after ≡ value_after told before answer)

-- a list was told: by the status, by records, and by how many there are
abbrev pub TellsRecords : {A T : Type 0} → (A → T) → ℕ → List T → List T → ℕ → ℕ → Result (List A) Refusal → Type 0
TellsRecords told status before after needed_before needed (Ok items) = FillsRecords told items status before after needed
TellsRecords told status before after needed_before needed (Err why) =
    (status ≡ status_of_refusal why) × (after ≡ before) × (needed ≡ needed_before)

-- an event without an answer of its own was asked, and the status says whether it was made, or why it was refused
abbrev pub IsMade : Event → Broker → Broker → ℕ → Type 0
IsMade event old new status = Answered {A = Unit {0}} event (λ done. outcomes.Accepted) old new (λ answer. status ≡ status_of answer)

-- the queue, and the id, of the packet that holds a right that was to be revoked, where that is why it was refused; else what stood
-- there before
abbrev pub holder_queue : ℕ → Result (Unit {0}) Refusal → ℕ
holder_queue before (Err (refusal.Busy queue packet)) = queue.0
holder_queue before _ = before

abbrev pub holder_packet : ℕ → Result (Unit {0}) Refusal → ℕ
holder_packet before (Err (refusal.Busy queue packet)) = packet.0
holder_packet before _ = before

-- a revocation was told: by the status, and by two out-parameters for the packet that stands against it
pub record TellsHolder (status queue_before queue_now packet_before packet_now : ℕ) (answer : Result (Unit {0}) Refusal) : Type 0 where
  pub status_is : status ≡ status_of answer
  pub queue_is : queue_now ≡ holder_queue queue_before answer
  pub packet_is : packet_now ≡ holder_packet packet_before answer

-- an event without an answer of its own was asked, and a packet that stands against it was told
abbrev pub IsRevoked : Event → Broker → Broker → ℕ → ℕ → ℕ → ℕ → ℕ → Type 0
IsRevoked event old new status queue_before queue_now packet_before packet_now =
    Answered {A = Unit {0}} event (λ done. outcomes.Accepted) old new (TellsHolder status queue_before queue_now packet_before packet_now)

-- the id of a queue's next packet, where another was handed over; else what stood there before
abbrev pub next_after : ℕ → Result Taken Refusal → ℕ
next_after before (Err (refusal.OutOfStep next)) = next
next_after before _ = before

-- what became of a packet was told: by the status, by an out-parameter, and by another for the id that was due
pub record TellsTaken (status : ℕ) (before after : TakenRecord) (next_before next_now : ℕ) (answer : Result Taken Refusal) : Type 0 where
  pub status_is : status ≡ status_of answer
  pub taken_is : after ≡ value_after taken_told before answer
  pub next_is : next_now ≡ next_after next_before answer

-- bytes that a client would write are copied: there is the client, they may be so many, and its right on the region is in force
abbrev pub IsCopied : History → ℕ → ℕ → List ℕ → Type 0
IsCopied history client address bytes =
    (knows_client (rules_of (beginning history).policy) (record { 0 = client }) ≡ true)
    × (is_host_size (length bytes) ≡ true)
    × (in_force (beginning history) history.entries (record { 0 = client }) (objects.Region (record { 0 = region_of address })) Write ≡ true)

-- ---- numbers for which something stands

-- the kinds of objects, by their numbers
abbrev pub kinds : List Kind
kinds = Agent ∷ Region ∷ Signal ∷ Kernel ∷ []

abbrev pub kind_of_number : ℕ → Option Kind
kind_of_number number = slice_get kinds number

-- the rights of a set's bits
abbrev pub rights_of_bits : ℕ → Option Rights
rights_of_bits bits = if nat_lt bits 64 then Some (record { 0 = bits }) else None

-- an object with rights on it
abbrev pub rights_on : ℕ → Option Kind → Option Rights → Option (Object × Rights)
rights_on number None rights = None
rights_on number (Some kind) None = None
rights_on number (Some kind) (Some rights) = Some (object_of kind number, rights)

abbrev pub rights_named : ℕ → ℕ → ℕ → Option (Object × Rights)
rights_named kind number bits = rights_on number (kind_of_number kind) (rights_of_bits bits)

-- an object, by its kind's number
abbrev pub object_named : ℕ → ℕ → Option Object
object_named kind number = option_map (λ it. object_of it number) (kind_of_number kind)

-- the rights on an object that a client has in force, if there is the client
abbrev pub rights_in_force : History → ClientId → Object → Result Rights Refusal
rights_in_force history client on =
    if knows_client (rules_of (beginning history).policy) client
    then Ok (rights_that (in_force (beginning history) history.entries client on)) else Err refusal.UnknownClient

-- the conditions of a test, by their numbers
abbrev pub conditions : List Condition
conditions = condition.Eq ∷ condition.Ne ∷ condition.Lt ∷ condition.Gte ∷ []

abbrev pub condition_of_number : ℕ → Option Condition
condition_of_number number = slice_get conditions number

-- the changes of a signal, by their numbers, with a value and, for the last, what is expected
abbrev pub operations : ℤ → ℤ → List SignalOp
operations value expected =
    operation.Store value ∷ operation.Add value ∷ operation.Subtract value ∷ operation.And value ∷ operation.Or value
    ∷ operation.Xor value ∷ operation.Exchange value ∷ operation.Cas expected value ∷ []

abbrev pub operation_of_number : ℕ → ℤ → ℤ → Option SignalOp
operation_of_number number value expected = slice_get (operations value expected) number

-- nothing stands for a number that was given: the call says so, and all but the last call is as before
abbrev pub IsUnknown : Broker → Broker → ℕ → Type 0
IsUnknown old new status = (status ≡ no_such) × IsNoted old new

-- what holds where something stands for a number, else that nothing does
abbrev pub WhereKnown : {A : Type 0} → Option A → Type 0 → (A → Type 0) → Type 0
WhereKnown None Unknown Holds = Unknown
WhereKnown (Some it) Unknown Holds = Holds it

-- ---- the changes that the last entry of the audit tells

abbrev pub effects_in : Option Entry → List Effect
effects_in None = []
effects_in (Some entry) = entry.effects

abbrev pub session_effects : Session → List Effect
session_effects session = effects_in (slice_get session.core.history.entries (length session.core.history.entries - 1))

abbrev pub last_effects : Broker → List Effect
last_effects broker = session_effects (session_of broker)
