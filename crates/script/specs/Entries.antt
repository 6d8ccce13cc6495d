-- The audit as text, row by row (own).
use Rattle.std.specs.Prelude.{ℕ, ◌+◌, ◌-◌, Bool, List, [], ◌∷◌, ◌++◌, map, filter, length, flat_map, codes, decimal, slice_index_or, false}
use Rattle.std.specs.Fmt.{signed_decimal}
use Rattle.aql_packet.specs.declared.ids.QueueId.{QueueId}
use Rattle.aql_packet.specs.declared.ids.PacketId.{PacketId}
use Rattle.aql_packet.specs.declared.ids.ClientId.{ClientId}
use Rattle.policy.specs.declared.object.Object.{Object}
use Rattle.policy.specs.declared.rights.Rights.{Rights}
use Rattle.policy.specs.Object.{kind_of, number_of}
use Rattle.policy.specs.KindNames.{name_of_kind}
use Rattle.policy.specs.Policy.{Declared}
use Rattle.signals.specs.declared.operation.SignalOp.{SignalOp}
use Rattle.signals.specs.declared.operation.SignalOp.TheVariants as op
use Rattle.core_model.specs.declared.outcome.Satisfied.{Satisfied}
use Rattle.core_model.specs.declared.outcome.Taken.{Taken}
use Rattle.core_model.specs.declared.outcome.Taken.TheVariants as taken
use Rattle.core_model.specs.declared.outcome.Worked.{Worked}
use Rattle.core_model.specs.declared.outcome.Worked.TheVariants as worked
use Rattle.core_model.specs.declared.outcome.Polled.{Polled}
use Rattle.core_model.specs.declared.outcome.Polled.TheVariants as polled
use Rattle.core_model.specs.declared.outcome.Outcome.{Outcome}
use Rattle.core_model.specs.declared.outcome.Outcome.TheVariants as outcome
use Rattle.core_model.specs.declared.event.Event.{Event}
use Rattle.core_model.specs.declared.event.Event.TheVariants as event
use Rattle.core_model.specs.declared.call.Call.{Call}
use Rattle.core_model.specs.declared.call.Call.TheVariants as call
use Rattle.core_model.specs.History.{Part}
use Rattle.core_model.specs.declared.entry.Effect.{Effect}
use Rattle.core_model.specs.declared.entry.Effect.TheVariants as effect
use Rattle.core_model.specs.declared.entry.Entry.{Entry}
use Rattle.words.specs.Bytes.{text_of_address, text_of_bytes}
use Rattle.script.specs.Rights.{text_of_rights}
use Rattle.words.specs.Names.{name_of_client}
use Rattle.words.specs.Errors.{text_of_broken}
use Rattle.script.specs.Lists.{with_commas}

-- the word of a signal's operation
abbrev pub name_of_operation : SignalOp → List ℕ
name_of_operation (op.Store value) = codes "store"
name_of_operation (op.Add value) = codes "add"
name_of_operation (op.Subtract value) = codes "subtract"
name_of_operation (op.And value) = codes "and"
name_of_operation (op.Or value) = codes "or"
name_of_operation (op.Xor value) = codes "xor"
name_of_operation (op.Exchange value) = codes "exchange"
name_of_operation (op.Cas expected value) = codes "cas"

-- `Q ID`
abbrev pub text_of_packet : QueueId → PacketId → List ℕ
text_of_packet queue packet = decimal queue.0 ++ codes " " ++ decimal packet.0

-- `C KIND NUMBER R,R`
abbrev pub text_of_rights_on : Declared → ClientId → Object → Rights → List ℕ
text_of_rights_on policy client object rights =
    name_of_client policy client ++ codes " " ++ name_of_kind (kind_of object) ++ codes " " ++ decimal (number_of object)
    ++ codes " " ++ text_of_rights rights

-- the number under which an opening opened its queue
abbrev pub opened : Outcome → ℕ
opened (outcome.Opened queue) = queue.0
opened _ = 0

-- `queue Q C agent NUMBER size N`
abbrev pub text_of_opening : Declared → ℕ → ClientId → ℕ → ℕ → List ℕ
text_of_opening policy number client agent size =
    codes "queue " ++ decimal number ++ codes " " ++ name_of_client policy client ++ codes " agent " ++ decimal agent
    ++ codes " size " ++ decimal size

-- what was called
abbrev pub text_of_call : Declared → Call → List ℕ
text_of_call policy (call.Grant client object rights) = codes "grant " ++ text_of_rights_on policy client object rights
text_of_call policy (call.Revoke client object rights) = codes "revoke " ++ text_of_rights_on policy client object rights
text_of_call policy (call.Stop queue) = codes "stop " ++ decimal queue.0
text_of_call policy (call.Close queue) = codes "close " ++ decimal queue.0
text_of_call policy (call.RunNext queue packet) = codes "run " ++ text_of_packet queue packet
text_of_call policy (call.Poll queue packet) = codes "poll " ++ text_of_packet queue packet
text_of_call policy (call.Finish queue packet) = codes "finish " ++ text_of_packet queue packet
text_of_call policy (call.HostWrite client address bytes) = codes "write " ++ name_of_client policy client
text_of_call policy (call.ChangeSignal client signal operation) =
    codes "signal " ++ name_of_client policy client ++ codes " " ++ name_of_operation operation

-- what happened; `number` is the number of a queue that was opened
abbrev pub text_of_event : Declared → ℕ → Event → List ℕ
text_of_event policy number (event.Open client agent size) = text_of_opening policy number client agent.0 size
text_of_event policy number (event.Take queue packet bytes) = codes "take " ++ text_of_packet queue packet
text_of_event policy number (event.Call asked) = text_of_call policy asked
text_of_event policy number (event.Reload rows) = codes "reload"

-- the dependency at a position, from 1, was newly seen
abbrev pub seen_at : Satisfied → ℕ → Bool
seen_at seen position = slice_index_or seen.0 (position - 1) false

-- the positions at which a dependency was newly seen
abbrev pub positions_seen : Satisfied → List ℕ
positions_seen seen = filter (seen_at seen) (1 ∷ 2 ∷ 3 ∷ 4 ∷ 5 ∷ [])

-- ` seen K,K`
abbrev pub text_of_seen : Satisfied → List ℕ
text_of_seen seen = codes " seen " ++ with_commas (map decimal (positions_seen seen))

-- what became of a packet that was handed over
abbrev pub text_of_take : Taken → List ℕ
text_of_take taken.Launched = codes " launched"
text_of_take (taken.Denied error) = codes " denied " ++ text_of_broken error
text_of_take (taken.Waiting why) = []

-- what became of a group
abbrev pub text_of_work : Worked → List ℕ
text_of_work (worked.Ran group left) = codes " group " ++ decimal group
text_of_work (worked.Faulted error) = codes " faulted " ++ text_of_broken error
text_of_work worked.Done = []

-- what a poll found
abbrev pub text_of_poll : Polled → List ℕ
text_of_poll (polled.Pending seen) = text_of_seen seen
text_of_poll (polled.Ready seen) = text_of_seen seen
text_of_poll (polled.Failed error) = codes " failed " ++ text_of_broken error

-- what the call came to, as far as an entry tells it
abbrev pub text_of_result : Outcome → List ℕ
text_of_result outcome.Accepted = []
text_of_result (outcome.Opened queue) = []
text_of_result (outcome.Taken taken) = text_of_take taken
text_of_result (outcome.Worked worked) = text_of_work worked
text_of_result (outcome.Polled polled) = text_of_poll polled
text_of_result (outcome.Changed value) = []

-- a change, behind a semicolon
abbrev pub text_of_effect : Effect → List ℕ
text_of_effect (effect.Write address bytes) = codes "; write " ++ text_of_address address.0 ++ codes " " ++ text_of_bytes bytes
text_of_effect (effect.Signal signal old new) =
    codes "; signal " ++ decimal signal.0 ++ codes " " ++ signed_decimal old ++ codes " " ++ signed_decimal new
text_of_effect (effect.Release queue packet) = codes "; release " ++ text_of_packet queue packet

-- an entry with its number: `N TEXT; EFFECT; EFFECT`
abbrev pub text_of_entry : Declared → ℕ → Entry → List ℕ
text_of_entry policy number entry =
    decimal number ++ codes " " ++ text_of_event policy (opened entry.outcome) entry.event ++ text_of_result entry.outcome
    ++ flat_map text_of_effect entry.effects ++ codes "\n"

-- entries numbered from one number on
abbrev pub text_of_entries : Declared → ℕ → List Entry → List ℕ
text_of_entries policy number [] = []
text_of_entries policy number (entry ∷ entries) = text_of_entry policy number entry ++ text_of_entries policy (number + 1) entries

-- the audit: `audit N`, then N lines, numbered on from those that came before
abbrev pub text_of_audit : Declared → ℕ → List Entry → List ℕ
text_of_audit policy before entries = codes "audit " ++ decimal (length entries) ++ codes "\n" ++ text_of_entries policy (before + 1) entries

-- a part that was handed out: `rotated N`, then N lines as those of the audit
abbrev pub text_of_rotated : Declared → Part → List ℕ
text_of_rotated policy part = codes "rotated " ++ decimal (length part.entries) ++ codes "\n" ++ text_of_entries policy (part.start.before + 1) part.entries
