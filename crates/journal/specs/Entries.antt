-- The words of an entry: all that was handed to the call, what it came to, and what it changed (own).
use Rattle.std.specs.Prelude.{Bool, List, [], ◌∷◌, ◌++◌, length, flat_map, codes, Option, Some, None}
use Rattle.std.specs.List.{list_all}
use Rattle.aql_packet.specs.declared.ids.ClientId.{ClientId}
use Rattle.aql_packet.specs.declared.ids.QueueId.{QueueId}
use Rattle.aql_packet.specs.declared.ids.PacketId.{PacketId}
use Rattle.policy.specs.declared.object.Object.{Object}
use Rattle.policy.specs.declared.object.Object.TheVariants as object
use Rattle.policy.specs.declared.rights.Rights.{Rights}
use Rattle.policy.specs.declared.row.Grantee.{Grantee}
use Rattle.policy.specs.declared.row.Grantee.TheVariants as grantee
use Rattle.policy.specs.declared.row.Target.{Target}
use Rattle.policy.specs.declared.row.Target.TheVariants as target
use Rattle.policy.specs.declared.row.RightsRow.{RightsRow}
use Rattle.policy.specs.declared.rows.PolicyRows.{PolicyRows}
use Rattle.policy.specs.KindNames.{name_of_kind}
use Rattle.queue_error.specs.declared.error.FaultPlace.{FaultPlace}
use Rattle.queue_error.specs.declared.error.SegmentAddress.{SegmentAddress}
use Rattle.queue_error.specs.declared.error.SegmentAddress.TheVariants as segment
use Rattle.queue_error.specs.declared.error.QueueError.{QueueError}
use Rattle.queue_error.specs.Texts.{text_of_rule}
use Rattle.signals.specs.declared.operation.SignalOp.{SignalOp}
use Rattle.signals.specs.declared.operation.SignalOp.TheVariants as op
use Rattle.core_model.specs.declared.outcome.WaitCause.{WaitCause}
use Rattle.core_model.specs.declared.outcome.WaitCause.TheVariants as cause
use Rattle.core_model.specs.declared.outcome.Taken.TheVariants as taken
use Rattle.core_model.specs.declared.outcome.Worked.TheVariants as worked
use Rattle.core_model.specs.declared.outcome.Polled.TheVariants as polled
use Rattle.core_model.specs.declared.outcome.Outcome.{Outcome}
use Rattle.core_model.specs.declared.outcome.Outcome.TheVariants as outcome
use Rattle.core_model.specs.declared.call.Call.{Call}
use Rattle.core_model.specs.declared.call.Call.TheVariants as call
use Rattle.core_model.specs.declared.event.Event.{Event}
use Rattle.core_model.specs.declared.event.Event.TheVariants as event
use Rattle.core_model.specs.declared.entry.Effect.{Effect}
use Rattle.core_model.specs.declared.entry.Effect.TheVariants as effect
use Rattle.core_model.specs.declared.entry.Entry.{Entry}
use Rattle.journal.specs.Words.{Text, Word, Name, Number, Signed, Bytes, Packet, Flags, fits, behind_blanks}

-- `KIND NUMBER`
abbrev pub words_of_object : Object → List Word
words_of_object (object.Agent h) = Name (codes "agent") ∷ Number 32 h.0 ∷ []
words_of_object (object.Region h) = Name (codes "region") ∷ Number 32 h.0 ∷ []
words_of_object (object.Signal h) = Name (codes "signal") ∷ Number 64 h.0 ∷ []
words_of_object (object.Kernel h) = Name (codes "kernel") ∷ Number 64 h.0 ∷ []

-- `CLIENT KIND NUMBER RIGHTS`, the rights as the number of their bits
abbrev pub words_of_rights_on : ClientId → Object → Rights → List Word
words_of_rights_on client on rights = Number 32 client.0 ∷ words_of_object on ++ Number 8 rights.0 ∷ []

-- `Q ID`
abbrev pub words_of_packet : QueueId → PacketId → List Word
words_of_packet queue packet = Number 64 queue.0 ∷ Number 64 packet.0 ∷ []

-- the operation on a signal, with its operands
abbrev pub words_of_operation : SignalOp → List Word
words_of_operation (op.Store value) = Name (codes "store") ∷ Signed value ∷ []
words_of_operation (op.Add value) = Name (codes "add") ∷ Signed value ∷ []
words_of_operation (op.Subtract value) = Name (codes "subtract") ∷ Signed value ∷ []
words_of_operation (op.And value) = Name (codes "and") ∷ Signed value ∷ []
words_of_operation (op.Or value) = Name (codes "or") ∷ Signed value ∷ []
words_of_operation (op.Xor value) = Name (codes "xor") ∷ Signed value ∷ []
words_of_operation (op.Exchange value) = Name (codes "exchange") ∷ Signed value ∷ []
words_of_operation (op.Cas expected value) = Name (codes "cas") ∷ Signed expected ∷ Signed value ∷ []

-- a call of a client or an administrator
abbrev pub words_of_call : Call → List Word
words_of_call (call.Grant client on rights) = Name (codes "grant") ∷ words_of_rights_on client on rights
words_of_call (call.Revoke client on rights) = Name (codes "revoke") ∷ words_of_rights_on client on rights
words_of_call (call.Stop queue) = Name (codes "stop") ∷ Number 64 queue.0 ∷ []
words_of_call (call.Close queue) = Name (codes "close") ∷ Number 64 queue.0 ∷ []
words_of_call (call.RunNext queue packet) = Name (codes "run") ∷ words_of_packet queue packet
words_of_call (call.Poll queue packet) = Name (codes "poll") ∷ words_of_packet queue packet
words_of_call (call.Finish queue packet) = Name (codes "finish") ∷ words_of_packet queue packet
words_of_call (call.HostWrite client address bytes) = Name (codes "write") ∷ Number 32 client.0 ∷ Number 64 address.0 ∷ Bytes bytes ∷ []
words_of_call (call.ChangeSignal client signal operation) = Name (codes "signal") ∷ Number 32 client.0 ∷ Number 64 signal.0 ∷ words_of_operation operation

-- whom a row on rights covers
abbrev pub words_of_grantee : Grantee → List Word
words_of_grantee grantee.Any = Name (codes "anyone") ∷ []
words_of_grantee (grantee.One client) = Name (codes "client") ∷ Number 32 client.0 ∷ []

-- what a row on rights covers
abbrev pub words_of_target : Target → List Word
words_of_target (target.Any kind) = Name (codes "each") ∷ Name (name_of_kind kind) ∷ []
words_of_target (target.One on) = Name (codes "one") ∷ words_of_object on

-- a row on rights
abbrev pub words_of_row : RightsRow → List Word
words_of_row row = words_of_grantee row.subject ++ (words_of_target row.target ++ Number 8 row.rights.0 ∷ [])

-- how many items a list has, and these in order
abbrev pub words_of_list : {X : Type 0} → (X → List Word) → List X → List Word
words_of_list words items = Number 64 (length items) ∷ flat_map words items

-- the rows of a policy: its allow rows, and its deny rows
abbrev pub words_of_rows : PolicyRows → List Word
words_of_rows rows = words_of_list words_of_row rows.allows ++ words_of_list words_of_row rows.denies

-- what happened, with all that was handed to it
abbrev pub words_of_event : Event → List Word
words_of_event (event.Open client agent size) = Name (codes "open") ∷ Number 32 client.0 ∷ Number 32 agent.0 ∷ Number 64 size ∷ []
words_of_event (event.Take queue packet bytes) = Name (codes "take") ∷ Number 64 queue.0 ∷ Number 64 packet.0 ∷ Packet bytes ∷ []
words_of_event (event.Call made) = words_of_call made
words_of_event (event.Reload rows) = Name (codes "reload") ∷ words_of_rows rows

-- the address that a work-item asked for, where it asked for one
abbrev pub words_of_address : Option SegmentAddress → List Word
words_of_address None = Name (codes "nowhere") ∷ []
words_of_address (Some (segment.Global address)) = Name (codes "global") ∷ Number 64 address ∷ []
words_of_address (Some (segment.Group address)) = Name (codes "group") ∷ Number 32 address ∷ []

-- where a kernel's work broke a rule; the whole packet, where it has no place
abbrev pub words_of_place : Option FaultPlace → List Word
words_of_place None = Name (codes "whole") ∷ []
words_of_place (Some place) =
    Name (codes "at") ∷ Number 32 place.group ∷ Number 32 place.item ∷ Number 32 place.line ∷ words_of_address place.address

-- an error: whose it is, the rule, and where
abbrev pub words_of_error : QueueError → List Word
words_of_error error = Number 64 error.queue.0 ∷ Number 64 error.packet.0 ∷ Name (text_of_rule error.rule) ∷ words_of_place error.place

-- why a packet may not start yet
abbrev pub name_of_cause : WaitCause → Text
name_of_cause cause.Barrier = codes "barrier"
name_of_cause cause.Active = codes "active"
name_of_cause cause.Slots = codes "slots"

-- what a call came to
abbrev pub words_of_outcome : Outcome → List Word
words_of_outcome outcome.Accepted = Name (codes "accepted") ∷ []
words_of_outcome (outcome.Opened queue) = Name (codes "opened") ∷ Number 64 queue.0 ∷ []
words_of_outcome (outcome.Taken taken.Launched) = Name (codes "launched") ∷ []
words_of_outcome (outcome.Taken (taken.Denied error)) = Name (codes "denied") ∷ words_of_error error
words_of_outcome (outcome.Taken (taken.Waiting why)) = Name (codes "waiting") ∷ Name (name_of_cause why) ∷ []
words_of_outcome (outcome.Worked (worked.Ran group left)) = Name (codes "ran") ∷ Number 32 group ∷ Number 32 left ∷ []
words_of_outcome (outcome.Worked (worked.Faulted error)) = Name (codes "faulted") ∷ words_of_error error
words_of_outcome (outcome.Worked worked.Done) = Name (codes "done") ∷ []
words_of_outcome (outcome.Polled (polled.Pending seen)) = Name (codes "pending") ∷ Flags seen.0 ∷ []
words_of_outcome (outcome.Polled (polled.Ready seen)) = Name (codes "ready") ∷ Flags seen.0 ∷ []
words_of_outcome (outcome.Polled (polled.Failed error)) = Name (codes "failed") ∷ words_of_error error
words_of_outcome (outcome.Changed old) = Name (codes "changed") ∷ Signed old ∷ []

-- a change
abbrev pub words_of_effect : Effect → List Word
words_of_effect (effect.Write address bytes) = Name (codes "write") ∷ Number 64 address.0 ∷ Bytes bytes ∷ []
words_of_effect (effect.Signal signal old new) = Name (codes "signal") ∷ Number 64 signal.0 ∷ Signed old ∷ Signed new ∷ []
words_of_effect (effect.Release queue packet) = Name (codes "release") ∷ words_of_packet queue packet

-- what the call of an entry came to, and the changes that it made
abbrev pub words_of_result : Entry → List Word
words_of_result entry = words_of_outcome entry.outcome ++ words_of_list words_of_effect entry.effects

-- an entry: what happened, what it came to, and the changes that it made
abbrev pub words_of_entry : Entry → List Word
words_of_entry entry = words_of_event entry.event ++ words_of_result entry

-- an entry as text, each word behind a blank
abbrev pub text_of_entry : Entry → Text
text_of_entry entry = behind_blanks (words_of_entry entry)

-- each word of some tells what it can tell
abbrev pub fit : List Word → Bool
fit words = list_all fits words

-- each entry of some has words that tell what they can tell
abbrev pub all_fit : List Entry → Bool
all_fit entries = list_all (λ entry. fit (words_of_entry entry)) entries
