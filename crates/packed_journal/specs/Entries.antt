-- Entries: what happened, what it came to, and what it changed, each with its words and how it is read (own).
use Rattle.std.specs.Prelude.{ℕ, nat_lt, ◌==◌, Bool, true, ◌&&◌, List, [], ◌∷◌, ◌++◌, Option, Some, None, Result, Ok, Err, if◌then◌else◌}
use Rattle.std.specs.List.{list_all}
use Rattle.policy.specs.declared.rights.Rights.{Rights}
use Rattle.policy.specs.declared.row.RightsRow.{RightsRow}
use Rattle.core_model.specs.declared.outcome.WaitCause.{WaitCause}
use Rattle.core_model.specs.declared.outcome.WaitCause.TheVariants as cause
use Rattle.core_model.specs.declared.outcome.Taken.TheVariants as taken
use Rattle.core_model.specs.declared.outcome.Worked.TheVariants as worked
use Rattle.core_model.specs.declared.outcome.Polled.TheVariants as polled
use Rattle.core_model.specs.declared.outcome.Outcome.{Outcome}
use Rattle.core_model.specs.declared.outcome.Outcome.TheVariants as outcome
use Rattle.core_model.specs.declared.call.Call.{Call}
use Rattle.core_model.specs.declared.call.Call.TheVariants as call
use Rattle.core_model.specs.declared.event.Event.{Event}
use Rattle.core_model.specs.declared.event.Event.TheVariants as event
use Rattle.core_model.specs.declared.entry.Effect.{Effect}
use Rattle.core_model.specs.declared.entry.Effect.TheVariants as effect
use Rattle.core_model.specs.declared.entry.Entry.{Entry}
use Rattle.packed_journal.specs.declared.entry_writing.Unwritten.{Unwritten}
use Rattle.packed_journal.specs.declared.entry_writing.Unwritten.TheVariants.{NoForm, OutOfMemory, TooMany}
use Rattle.packed_journal.specs.Words.{Word, Tag, Number, Signed, Bytes, Packet, Flags, Digest}
use Rattle.packed_journal.specs.Readings.{Read, wrong, and_read, made, both, bytes_of, read_tag, read_number, read_signed, read_bytes, read_packet, read_flags, read_digest, words_of_list, read_list}
use Rattle.packed_journal.specs.Parts.{words_of_client, read_client, words_of_packet, read_queue, read_packet_named, words_of_rights_on, read_rights_on, words_of_rows, read_rows, words_of_operation, read_operation, words_of_error, read_error, named}

-- ---- events

-- a call of a client or an administrator
abbrev pub words_of_call : Call → List Word
words_of_call (call.Grant client on rights) = Tag 3 ∷ words_of_rights_on (client, (on, rights))
words_of_call (call.Revoke client on rights) = Tag 4 ∷ words_of_rights_on (client, (on, rights))
words_of_call (call.Stop queue) = Tag 5 ∷ Number 64 queue.0 ∷ []
words_of_call (call.Close queue) = Tag 6 ∷ Number 64 queue.0 ∷ []
words_of_call (call.RunNext queue packet) = Tag 7 ∷ words_of_packet (queue, packet)
words_of_call (call.Poll queue packet) = Tag 8 ∷ words_of_packet (queue, packet)
words_of_call (call.Finish queue packet) = Tag 9 ∷ words_of_packet (queue, packet)
words_of_call (call.HostWrite client address bytes) = Tag 10 ∷ words_of_client client ++ Number 64 address.0 ∷ Bytes bytes ∷ []
words_of_call (call.ChangeSignal client signal operation) = Tag 11 ∷ words_of_client client ++ Number 64 signal.0 ∷ words_of_operation operation

-- what happened, with all that was handed to it; of a reload also the digest of the policy's text that it was asked with, since an
-- entry keeps rows alone
abbrev pub words_of_event : Event → List ℕ → List Word
words_of_event (event.Open client agent size) policy = Tag 1 ∷ words_of_client client ++ Number 32 agent.0 ∷ Number 64 size ∷ []
words_of_event (event.Take queue packet bytes) policy = Tag 2 ∷ words_of_packet (queue, packet) ++ Packet bytes ∷ []
words_of_event (event.Call made) policy = words_of_call made
words_of_event (event.Reload rows) policy = Tag 12 ∷ Digest policy ∷ words_of_rows rows

-- the digest that a form keeps: that of a reload
abbrev pub kept_policy : Event → List ℕ → Option (List ℕ)
kept_policy (event.Open client agent size) policy = None
kept_policy (event.Take queue packet bytes) policy = None
kept_policy (event.Call made) policy = None
kept_policy (event.Reload rows) policy = Some policy

-- an event, and the digest of the policy's text, of a reload
abbrev pub Happened : Type 0
Happened = Event × Option (List ℕ)

abbrev pub read_open : List ℕ → Read Happened
read_open bytes = made (λ r. (event.Open r.0 (record { 0 = r.1.0 }) r.1.1, None)) (both read_client (both (read_number 32) (read_number 64)) bytes)

abbrev pub read_take : List ℕ → Read Happened
read_take bytes = made (λ r. (event.Take r.0.0 r.0.1 r.1, None)) (both read_packet_named read_packet bytes)

abbrev pub read_grant : List ℕ → Read Happened
read_grant bytes = made (λ r. (event.Call (call.Grant r.0 r.1.0 r.1.1), None)) (read_rights_on bytes)

abbrev pub read_revoke : List ℕ → Read Happened
read_revoke bytes = made (λ r. (event.Call (call.Revoke r.0 r.1.0 r.1.1), None)) (read_rights_on bytes)

abbrev pub read_stop : List ℕ → Read Happened
read_stop bytes = made (λ queue. (event.Call (call.Stop queue), None)) (read_queue bytes)

abbrev pub read_close : List ℕ → Read Happened
read_close bytes = made (λ queue. (event.Call (call.Close queue), None)) (read_queue bytes)

abbrev pub read_run : List ℕ → Read Happened
read_run bytes = made (λ r. (event.Call (call.RunNext r.0 r.1), None)) (read_packet_named bytes)

abbrev pub read_poll : List ℕ → Read Happened
read_poll bytes = made (λ r. (event.Call (call.Poll r.0 r.1), None)) (read_packet_named bytes)

abbrev pub read_finish : List ℕ → Read Happened
read_finish bytes = made (λ r. (event.Call (call.Finish r.0 r.1), None)) (read_packet_named bytes)

abbrev pub read_change : List ℕ → Read Happened
read_change bytes =
    made (λ r. (event.Call (call.ChangeSignal r.0 (record { 0 = r.1.0 }) r.1.1), None)) (both read_client (both (read_number 64) read_operation) bytes)

abbrev pub read_write : List ℕ → Read Happened
read_write bytes =
    made (λ r. (event.Call (call.HostWrite r.0 (record { 0 = r.1.0 }) r.1.1), None)) (both read_client (both (read_number 64) read_bytes) bytes)

abbrev pub read_reload : List ℕ → Read Happened
read_reload bytes = made (λ r. (event.Reload r.1, Some r.0)) (both read_digest read_rows bytes)

-- an event that hands over no list, of its tag, which stands before these bytes
abbrev pub read_plain : List ℕ → ℕ → List ℕ → Read Happened
read_plain bytes tag rest =
    if tag == 1 then read_open rest
    else if tag == 2 then read_take rest
    else if tag == 3 then read_grant rest
    else if tag == 4 then read_revoke rest
    else if tag == 5 then read_stop rest
    else if tag == 6 then read_close rest
    else if tag == 7 then read_run rest
    else if tag == 8 then read_poll rest
    else if tag == 9 then read_finish rest
    else if tag == 11 then read_change rest
    else Err (wrong bytes)

abbrev pub read_event : List ℕ → Read Happened
read_event bytes =
    and_read (read_tag bytes) (λ tag rest.
    if tag == 10 then read_write rest
    else if tag == 12 then read_reload rest
    else read_plain bytes tag rest)

-- ---- outcomes

-- why a packet may not start yet
abbrev pub number_of_cause : WaitCause → ℕ
number_of_cause cause.Barrier = 0
number_of_cause cause.Active = 1
number_of_cause cause.Slots = 2

abbrev pub cause_numbered : ℕ → Option WaitCause
cause_numbered tag =
    if tag == 0 then Some cause.Barrier
    else if tag == 1 then Some cause.Active
    else if tag == 2 then Some cause.Slots
    else None

-- what a call came to
abbrev pub words_of_outcome : Outcome → List Word
words_of_outcome outcome.Accepted = Tag 0 ∷ []
words_of_outcome (outcome.Opened queue) = Tag 1 ∷ Number 64 queue.0 ∷ []
words_of_outcome (outcome.Taken taken.Launched) = Tag 2 ∷ []
words_of_outcome (outcome.Taken (taken.Denied error)) = Tag 3 ∷ words_of_error error
words_of_outcome (outcome.Taken (taken.Waiting why)) = Tag 4 ∷ Tag (number_of_cause why) ∷ []
words_of_outcome (outcome.Worked (worked.Ran group left)) = Tag 5 ∷ Number 32 group ∷ Number 32 left ∷ []
words_of_outcome (outcome.Worked (worked.Faulted error)) = Tag 6 ∷ words_of_error error
words_of_outcome (outcome.Worked worked.Done) = Tag 7 ∷ []
words_of_outcome (outcome.Polled (polled.Pending seen)) = Tag 8 ∷ Flags seen.0 ∷ []
words_of_outcome (outcome.Polled (polled.Ready seen)) = Tag 9 ∷ Flags seen.0 ∷ []
words_of_outcome (outcome.Polled (polled.Failed error)) = Tag 10 ∷ words_of_error error
words_of_outcome (outcome.Changed old) = Tag 11 ∷ Signed old ∷ []

abbrev pub read_opened : List ℕ → Read Outcome
read_opened bytes = made outcome.Opened (read_queue bytes)

abbrev pub read_denied : List ℕ → Read Outcome
read_denied bytes = made (λ error. outcome.Taken (taken.Denied error)) (read_error bytes)

abbrev pub read_cause : List ℕ → Read WaitCause
read_cause bytes = and_read (read_tag bytes) (λ tag rest. named bytes (cause_numbered tag) rest)

abbrev pub read_waiting : List ℕ → Read Outcome
read_waiting bytes = made (λ why. outcome.Taken (taken.Waiting why)) (read_cause bytes)

abbrev pub read_ran : List ℕ → Read Outcome
read_ran bytes = made (λ r. outcome.Worked (worked.Ran r.0 r.1)) (both (read_number 32) (read_number 32) bytes)

abbrev pub read_faulted : List ℕ → Read Outcome
read_faulted bytes = made (λ error. outcome.Worked (worked.Faulted error)) (read_error bytes)

abbrev pub read_pending : List ℕ → Read Outcome
read_pending bytes = made (λ flags. outcome.Polled (polled.Pending (record { 0 = flags }))) (read_flags bytes)

abbrev pub read_ready : List ℕ → Read Outcome
read_ready bytes = made (λ flags. outcome.Polled (polled.Ready (record { 0 = flags }))) (read_flags bytes)

abbrev pub read_failed : List ℕ → Read Outcome
read_failed bytes = made (λ error. outcome.Polled (polled.Failed error)) (read_error bytes)

abbrev pub read_changed : List ℕ → Read Outcome
read_changed bytes = made outcome.Changed (read_signed bytes)

abbrev pub read_outcome : List ℕ → Read Outcome
read_outcome bytes =
    and_read (read_tag bytes) (λ tag rest.
    if tag == 0 then Ok (outcome.Accepted, rest)
    else if tag == 1 then read_opened rest
    else if tag == 2 then Ok (outcome.Taken taken.Launched, rest)
    else if tag == 3 then read_denied rest
    else if tag == 4 then read_waiting rest
    else if tag == 5 then read_ran rest
    else if tag == 6 then read_faulted rest
    else if tag == 7 then Ok (outcome.Worked worked.Done, rest)
    else if tag == 8 then read_pending rest
    else if tag == 9 then read_ready rest
    else if tag == 10 then read_failed rest
    else if tag == 11 then read_changed rest
    else Err (wrong bytes))

-- ---- changes

abbrev pub words_of_effect : Effect → List Word
words_of_effect (effect.Write address bytes) = Tag 0 ∷ Number 64 address.0 ∷ Bytes bytes ∷ []
words_of_effect (effect.Signal signal old new) = Tag 1 ∷ Number 64 signal.0 ∷ Signed old ∷ Signed new ∷ []
words_of_effect (effect.Release queue packet) = Tag 2 ∷ words_of_packet (queue, packet)

abbrev pub read_written : List ℕ → Read Effect
read_written bytes = made (λ r. effect.Write (record { 0 = r.0 }) r.1) (both (read_number 64) read_bytes bytes)

abbrev pub read_signalled : List ℕ → Read Effect
read_signalled bytes = made (λ r. effect.Signal (record { 0 = r.0 }) r.1.0 r.1.1) (both (read_number 64) (both read_signed read_signed) bytes)

abbrev pub read_released : List ℕ → Read Effect
read_released bytes = made (λ r. effect.Release r.0 r.1) (read_packet_named bytes)

abbrev pub read_effect : List ℕ → Read Effect
read_effect bytes =
    and_read (read_tag bytes) (λ tag rest.
    if tag == 0 then read_written rest
    else if tag == 1 then read_signalled rest
    else if tag == 2 then read_released rest
    else Err (wrong bytes))

-- ---- entries

-- an entry: what happened, with the digest of the policy's text where it is a reload; what it came to; and the changes that it made
abbrev pub words_of_entry : Entry → List ℕ → List Word
words_of_entry entry policy = words_of_event entry.event policy ++ (words_of_outcome entry.outcome ++ words_of_list words_of_effect entry.effects)

-- the form of an entry, and of the digest of the policy's text
abbrev pub form_of_entry : Entry → List ℕ → List ℕ
form_of_entry entry policy = bytes_of (words_of_entry entry policy)

abbrev pub read_entry : List ℕ → Read (Entry × Option (List ℕ))
read_entry bytes =
    made (λ r. (record { event = r.0.0; outcome = r.1.0; effects = r.1.1 }, r.0.1)) (both read_event (both read_outcome (read_list read_effect)) bytes)

-- ---- which entries have a form

-- rights are of the six
abbrev pub are_six : Rights → Bool
are_six rights = nat_lt rights.0 64

-- rows on rights name the six alone
abbrev pub name_six : List RightsRow → Bool
name_six rows = list_all (λ row. are_six row.rights) rows

abbrev pub event_has_form : Event → Bool
event_has_form (event.Open client agent size) = true
event_has_form (event.Take queue packet bytes) = true
event_has_form (event.Call (call.Grant client on rights)) = are_six rights
event_has_form (event.Call (call.Revoke client on rights)) = are_six rights
event_has_form (event.Call (call.Stop queue)) = true
event_has_form (event.Call (call.Close queue)) = true
event_has_form (event.Call (call.RunNext queue packet)) = true
event_has_form (event.Call (call.Poll queue packet)) = true
event_has_form (event.Call (call.Finish queue packet)) = true
event_has_form (event.Call (call.HostWrite client address bytes)) = true
event_has_form (event.Call (call.ChangeSignal client signal operation)) = true
event_has_form (event.Reload rows) = name_six rows.allows && name_six rows.denies

-- an entry has a form: it names rights of the six alone
abbrev pub has_form : Entry → Bool
has_form entry = event_has_form entry.event

-- why an entry isn't written, but for want of memory
abbrev pub refused : {A : Type 0} → Result A Unwritten → Option Unwritten
refused (Ok done) = None
refused (Err OutOfMemory) = None
refused (Err NoForm) = Some NoForm
refused (Err TooMany) = Some TooMany
