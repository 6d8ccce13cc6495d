-- Entries are read as they were written, and written as they were read.
use Rattle.std.proofs.Common.{◌≡◌, ℕ, Bool, true, List, [], ◌∷◌, ◌++◌, refl, sym, ap, ◌∙◌, subst}
use Rattle.std.specs.Prelude.{ℤ, Option, Some, None, Ok, Err}
use Rattle.std.specs.Option.{unwrap_or}
use Rattle.aql_packet.specs.declared.ids.ClientId.{ClientId}
use Rattle.aql_packet.specs.declared.ids.QueueId.{QueueId}
use Rattle.aql_packet.specs.declared.ids.PacketId.{PacketId}
use Rattle.policy.specs.declared.rows.PolicyRows.{PolicyRows}
use Rattle.signals.specs.declared.operation.SignalOp.{SignalOp}
use Rattle.core_model.specs.declared.outcome.WaitCause.{WaitCause}
use Rattle.core_model.specs.declared.outcome.WaitCause.TheVariants as cause
use Rattle.core_model.specs.declared.outcome.Taken.TheVariants as taken
use Rattle.core_model.specs.declared.outcome.Worked.TheVariants as worked
use Rattle.core_model.specs.declared.outcome.Polled.TheVariants as polled
use Rattle.core_model.specs.declared.outcome.Outcome.{Outcome}
use Rattle.core_model.specs.declared.outcome.Outcome.TheVariants as outcome
use Rattle.core_model.specs.declared.call.Call.TheVariants as call
use Rattle.core_model.specs.declared.event.Event.{Event}
use Rattle.core_model.specs.declared.event.Event.TheVariants as event
use Rattle.core_model.specs.declared.entry.Effect.{Effect}
use Rattle.core_model.specs.declared.entry.Effect.TheVariants as effect
use Rattle.core_model.specs.declared.entry.Entry.{Entry}
use Rattle.packed_journal.specs.Words.{Word, Tag, Bytes, Packet, Flags, Digest}
use Rattle.packed_journal.specs.Readings.{Read, bytes_of, fit, and_read, made, both, read_number, read_signed, read_bytes, read_packet, read_flags, read_digest, words_of_list, read_list}
use Rattle.packed_journal.specs.Parts.{words_of_client, read_client, words_of_packet, read_queue, read_packet_named, words_of_rights_on, read_rights_on, words_of_rows, read_rows, words_of_operation, read_operation, words_of_error, read_error}
use Rattle.packed_journal.specs.Entries.{Happened, words_of_event, kept_policy, read_event, number_of_cause, read_cause, words_of_outcome, read_outcome, words_of_effect, read_effect, words_of_entry, form_of_entry, read_entry}
use Rattle.packed_journal.proofs.Forms.{WrittenSo, IsForm, fit_front, fit_behind, both_bytes, number_form, signed_form, bytes_form, flags_form, digest_form, then_words, both_tells, both_form, made_tells, arm_back, arm_tells, tag_if, named_if, list_form}
use Rattle.packed_journal.proofs.PacketForms.{packet_form}
use Rattle.packed_journal.proofs.PartForms.{of_bits, of_sign, client_form, words_of_queue, queue_form, packet_named_form, rights_on_form, rows_form, operation_form, error_form}

-- ---- events

abbrev pub of_bytes : List ℕ → List Word
of_bytes bs = Bytes bs ∷ []

abbrev pub of_packet : List ℕ → List Word
of_packet bs = Packet bs ∷ []

abbrev pub of_flags : List Bool → List Word
of_flags fs = Flags fs ∷ []

abbrev pub of_digest : List ℕ → List Word
of_digest bs = Digest bs ∷ []

abbrev pub open_words : ClientId × (ℕ × ℕ) → List Word
open_words r = words_of_client r.0 ++ (of_bits 32 r.1.0 ++ of_bits 64 r.1.1)

abbrev pub open_read : List ℕ → Read (ClientId × (ℕ × ℕ))
open_read bytes = both read_client (both (read_number 32) (read_number 64)) bytes

pub open_form : IsForm open_words open_read
open_form =
    both_form words_of_client (then_words (of_bits 32) (of_bits 64)) read_client (both (read_number 32) (read_number 64)) client_form
    (both_form (of_bits 32) (of_bits 64) (read_number 32) (read_number 64) (number_form 32) (number_form 64))

abbrev pub opened : ClientId × (ℕ × ℕ) → Happened
opened r = (event.Open r.0 (record { 0 = r.1.0 }) r.1.1, None)

abbrev pub take_words : (QueueId × PacketId) × List ℕ → List Word
take_words r = words_of_packet r.0 ++ of_packet r.1

pub take_form : IsForm take_words (both read_packet_named read_packet)
take_form = both_form words_of_packet of_packet read_packet_named read_packet packet_named_form packet_form

abbrev pub taken_so : (QueueId × PacketId) × List ℕ → Happened
taken_so r = (event.Take r.0.0 r.0.1 r.1, None)

abbrev pub write_words : ClientId × (ℕ × List ℕ) → List Word
write_words r = words_of_client r.0 ++ (of_bits 64 r.1.0 ++ of_bytes r.1.1)

pub write_form : IsForm write_words (both read_client (both (read_number 64) read_bytes))
write_form =
    both_form words_of_client (then_words (of_bits 64) of_bytes) read_client (both (read_number 64) read_bytes) client_form
    (both_form (of_bits 64) of_bytes (read_number 64) read_bytes (number_form 64) bytes_form)

abbrev pub wrote : ClientId × (ℕ × List ℕ) → Happened
wrote r = (event.Call (call.HostWrite r.0 (record { 0 = r.1.0 }) r.1.1), None)

abbrev pub change_words : ClientId × (ℕ × SignalOp) → List Word
change_words r = words_of_client r.0 ++ (of_bits 64 r.1.0 ++ words_of_operation r.1.1)

pub change_form : IsForm change_words (both read_client (both (read_number 64) read_operation))
change_form =
    both_form words_of_client (then_words (of_bits 64) words_of_operation) read_client (both (read_number 64) read_operation) client_form
    (both_form (of_bits 64) words_of_operation (read_number 64) read_operation (number_form 64) operation_form)

abbrev pub changed : ClientId × (ℕ × SignalOp) → Happened
changed r = (event.Call (call.ChangeSignal r.0 (record { 0 = r.1.0 }) r.1.1), None)

abbrev pub reload_words : List ℕ × PolicyRows → List Word
reload_words r = of_digest r.0 ++ words_of_rows r.1

pub reload_form : IsForm reload_words (both read_digest read_rows)
reload_form = both_form of_digest words_of_rows read_digest read_rows digest_form rows_form

-- the words of an event that was read
abbrev pub words_of_happened : Happened → List Word
words_of_happened x = words_of_event x.0 (unwrap_or x.1 [])

pub event_back : (x : Event) (policy rest : List ℕ) → fit (words_of_event x policy) ≡ true →
    read_event (bytes_of (words_of_event x policy) ++ rest) ≡ Ok ((x, kept_policy x policy), rest)
event_back (event.Open client agent size) policy rest f = arm_back open_words open_read open_form opened (client, (agent.0, size)) rest f
event_back (event.Take queue packet bytes) policy rest f = arm_back take_words (both read_packet_named read_packet) take_form taken_so ((queue, packet), bytes) rest f
event_back (event.Call (call.Grant client on rights)) policy rest f =
    arm_back words_of_rights_on read_rights_on rights_on_form (λ r. (event.Call (call.Grant r.0 r.1.0 r.1.1), None)) (client, (on, rights)) rest f
event_back (event.Call (call.Revoke client on rights)) policy rest f =
    arm_back words_of_rights_on read_rights_on rights_on_form (λ r. (event.Call (call.Revoke r.0 r.1.0 r.1.1), None)) (client, (on, rights)) rest f
event_back (event.Call (call.Stop queue)) policy rest f = arm_back words_of_queue read_queue queue_form (λ q. (event.Call (call.Stop q), None)) queue rest f
event_back (event.Call (call.Close queue)) policy rest f = arm_back words_of_queue read_queue queue_form (λ q. (event.Call (call.Close q), None)) queue rest f
event_back (event.Call (call.RunNext queue packet)) policy rest f =
    arm_back words_of_packet read_packet_named packet_named_form (λ r. (event.Call (call.RunNext r.0 r.1), None)) (queue, packet) rest f
event_back (event.Call (call.Poll queue packet)) policy rest f =
    arm_back words_of_packet read_packet_named packet_named_form (λ r. (event.Call (call.Poll r.0 r.1), None)) (queue, packet) rest f
event_back (event.Call (call.Finish queue packet)) policy rest f =
    arm_back words_of_packet read_packet_named packet_named_form (λ r. (event.Call (call.Finish r.0 r.1), None)) (queue, packet) rest f
event_back (event.Call (call.HostWrite client address bytes)) policy rest f =
    arm_back write_words (both read_client (both (read_number 64) read_bytes)) write_form wrote (client, (address.0, bytes)) rest f
event_back (event.Call (call.ChangeSignal client signal operation)) policy rest f =
    arm_back change_words (both read_client (both (read_number 64) read_operation)) change_form changed (client, (signal.0, operation)) rest f
event_back (event.Reload rows) policy rest f = arm_back reload_words (both read_digest read_rows) reload_form (λ r. (event.Reload r.1, Some r.0)) (policy, rows) rest f

event_tells : (bytes : List ℕ) → WrittenSo words_of_happened bytes (read_event bytes)
event_tells [] = tt
event_tells (tag ∷ bytes) =
    tag_if words_of_happened tag 10 bytes _ _ (arm_tells write_words (both read_client (both (read_number 64) read_bytes)) write_form words_of_happened 10 wrote bytes (λ r. refl))
    (tag_if words_of_happened tag 12 bytes _ _ (arm_tells reload_words (both read_digest read_rows) reload_form words_of_happened 12 (λ r. (event.Reload r.1, Some r.0)) bytes (λ r. refl))
    (tag_if words_of_happened tag 1 bytes _ _ (arm_tells open_words open_read open_form words_of_happened 1 opened bytes (λ r. refl))
    (tag_if words_of_happened tag 2 bytes _ _ (arm_tells take_words (both read_packet_named read_packet) take_form words_of_happened 2 taken_so bytes (λ r. refl))
    (tag_if words_of_happened tag 3 bytes _ _
    (arm_tells words_of_rights_on read_rights_on rights_on_form words_of_happened 3 (λ r. (event.Call (call.Grant r.0 r.1.0 r.1.1), None)) bytes (λ r. refl))
    (tag_if words_of_happened tag 4 bytes _ _
    (arm_tells words_of_rights_on read_rights_on rights_on_form words_of_happened 4 (λ r. (event.Call (call.Revoke r.0 r.1.0 r.1.1), None)) bytes (λ r. refl))
    (tag_if words_of_happened tag 5 bytes _ _ (arm_tells words_of_queue read_queue queue_form words_of_happened 5 (λ q. (event.Call (call.Stop q), None)) bytes (λ q. refl))
    (tag_if words_of_happened tag 6 bytes _ _ (arm_tells words_of_queue read_queue queue_form words_of_happened 6 (λ q. (event.Call (call.Close q), None)) bytes (λ q. refl))
    (tag_if words_of_happened tag 7 bytes _ _
    (arm_tells words_of_packet read_packet_named packet_named_form words_of_happened 7 (λ r. (event.Call (call.RunNext r.0 r.1), None)) bytes (λ r. refl))
    (tag_if words_of_happened tag 8 bytes _ _
    (arm_tells words_of_packet read_packet_named packet_named_form words_of_happened 8 (λ r. (event.Call (call.Poll r.0 r.1), None)) bytes (λ r. refl))
    (tag_if words_of_happened tag 9 bytes _ _
    (arm_tells words_of_packet read_packet_named packet_named_form words_of_happened 9 (λ r. (event.Call (call.Finish r.0 r.1), None)) bytes (λ r. refl))
    (tag_if words_of_happened tag 11 bytes _ _ (arm_tells change_words (both read_client (both (read_number 64) read_operation)) change_form words_of_happened 11 changed bytes (λ r. refl))
    tt)))))))))))

-- ---- outcomes

abbrev pub words_of_cause : WaitCause → List Word
words_of_cause why = Tag (number_of_cause why) ∷ []

cause_back : (x : WaitCause) (rest : List ℕ) → fit (words_of_cause x) ≡ true → read_cause (bytes_of (words_of_cause x) ++ rest) ≡ Ok (x, rest)
cause_back cause.Barrier rest f = refl
cause_back cause.Active rest f = refl
cause_back cause.Slots rest f = refl

cause_tells : (bytes : List ℕ) → WrittenSo words_of_cause bytes (read_cause bytes)
cause_tells [] = tt
cause_tells (tag ∷ bytes) =
    named_if words_of_cause tag 0 (tag ∷ bytes) bytes cause.Barrier _ refl
    (named_if words_of_cause tag 1 (tag ∷ bytes) bytes cause.Active _ refl
    (named_if words_of_cause tag 2 (tag ∷ bytes) bytes cause.Slots None refl tt))

pub cause_form : IsForm words_of_cause read_cause
cause_form = record { back = cause_back; tells = cause_tells }

abbrev pub ran_words : ℕ × ℕ → List Word
ran_words r = of_bits 32 r.0 ++ of_bits 32 r.1

pub ran_form : IsForm ran_words (both (read_number 32) (read_number 32))
ran_form = both_form (of_bits 32) (of_bits 32) (read_number 32) (read_number 32) (number_form 32) (number_form 32)

outcome_back : (x : Outcome) (rest : List ℕ) → fit (words_of_outcome x) ≡ true → read_outcome (bytes_of (words_of_outcome x) ++ rest) ≡ Ok (x, rest)
outcome_back outcome.Accepted rest f = refl
outcome_back (outcome.Opened queue) rest f = arm_back words_of_queue read_queue queue_form outcome.Opened queue rest f
outcome_back (outcome.Taken taken.Launched) rest f = refl
outcome_back (outcome.Taken (taken.Denied error)) rest f = arm_back words_of_error read_error error_form (λ e. outcome.Taken (taken.Denied e)) error rest f
outcome_back (outcome.Taken (taken.Waiting why)) rest f = arm_back words_of_cause read_cause cause_form (λ w. outcome.Taken (taken.Waiting w)) why rest f
outcome_back (outcome.Worked (worked.Ran group left)) rest f =
    arm_back ran_words (both (read_number 32) (read_number 32)) ran_form (λ r. outcome.Worked (worked.Ran r.0 r.1)) (group, left) rest f
outcome_back (outcome.Worked (worked.Faulted error)) rest f = arm_back words_of_error read_error error_form (λ e. outcome.Worked (worked.Faulted e)) error rest f
outcome_back (outcome.Worked worked.Done) rest f = refl
outcome_back (outcome.Polled (polled.Pending seen)) rest f = arm_back of_flags read_flags flags_form (λ fs. outcome.Polled (polled.Pending (record { 0 = fs }))) seen.0 rest f
outcome_back (outcome.Polled (polled.Ready seen)) rest f = arm_back of_flags read_flags flags_form (λ fs. outcome.Polled (polled.Ready (record { 0 = fs }))) seen.0 rest f
outcome_back (outcome.Polled (polled.Failed error)) rest f = arm_back words_of_error read_error error_form (λ e. outcome.Polled (polled.Failed e)) error rest f
outcome_back (outcome.Changed old) rest f = arm_back of_sign read_signed signed_form outcome.Changed old rest f

outcome_tells : (bytes : List ℕ) → WrittenSo words_of_outcome bytes (read_outcome bytes)
outcome_tells [] = tt
outcome_tells (tag ∷ bytes) =
    tag_if words_of_outcome tag 0 bytes (Ok (outcome.Accepted, bytes)) _ refl
    (tag_if words_of_outcome tag 1 bytes _ _ (arm_tells words_of_queue read_queue queue_form words_of_outcome 1 outcome.Opened bytes (λ q. refl))
    (tag_if words_of_outcome tag 2 bytes (Ok (outcome.Taken taken.Launched, bytes)) _ refl
    (tag_if words_of_outcome tag 3 bytes _ _ (arm_tells words_of_error read_error error_form words_of_outcome 3 (λ e. outcome.Taken (taken.Denied e)) bytes (λ e. refl))
    (tag_if words_of_outcome tag 4 bytes _ _ (arm_tells words_of_cause read_cause cause_form words_of_outcome 4 (λ w. outcome.Taken (taken.Waiting w)) bytes (λ w. refl))
    (tag_if words_of_outcome tag 5 bytes _ _
    (arm_tells ran_words (both (read_number 32) (read_number 32)) ran_form words_of_outcome 5 (λ r. outcome.Worked (worked.Ran r.0 r.1)) bytes (λ r. refl))
    (tag_if words_of_outcome tag 6 bytes _ _ (arm_tells words_of_error read_error error_form words_of_outcome 6 (λ e. outcome.Worked (worked.Faulted e)) bytes (λ e. refl))
    (tag_if words_of_outcome tag 7 bytes (Ok (outcome.Worked worked.Done, bytes)) _ refl
    (tag_if words_of_outcome tag 8 bytes _ _
    (arm_tells of_flags read_flags flags_form words_of_outcome 8 (λ fs. outcome.Polled (polled.Pending (record { 0 = fs }))) bytes (λ fs. refl))
    (tag_if words_of_outcome tag 9 bytes _ _
    (arm_tells of_flags read_flags flags_form words_of_outcome 9 (λ fs. outcome.Polled (polled.Ready (record { 0 = fs }))) bytes (λ fs. refl))
    (tag_if words_of_outcome tag 10 bytes _ _ (arm_tells words_of_error read_error error_form words_of_outcome 10 (λ e. outcome.Polled (polled.Failed e)) bytes (λ e. refl))
    (tag_if words_of_outcome tag 11 bytes _ _ (arm_tells of_sign read_signed signed_form words_of_outcome 11 outcome.Changed bytes (λ old. refl))
    tt)))))))))))

pub outcome_form : IsForm words_of_outcome read_outcome
outcome_form = record { back = outcome_back; tells = outcome_tells }

-- ---- changes

abbrev pub written_words : ℕ × List ℕ → List Word
written_words r = of_bits 64 r.0 ++ of_bytes r.1

pub written_form : IsForm written_words (both (read_number 64) read_bytes)
written_form = both_form (of_bits 64) of_bytes (read_number 64) read_bytes (number_form 64) bytes_form

abbrev pub signalled_words : ℕ × (ℤ × ℤ) → List Word
signalled_words r = of_bits 64 r.0 ++ (of_sign r.1.0 ++ of_sign r.1.1)

pub signalled_form : IsForm signalled_words (both (read_number 64) (both read_signed read_signed))
signalled_form =
    both_form (of_bits 64) (then_words of_sign of_sign) (read_number 64) (both read_signed read_signed) (number_form 64)
    (both_form of_sign of_sign read_signed read_signed signed_form signed_form)

effect_back : (x : Effect) (rest : List ℕ) → fit (words_of_effect x) ≡ true → read_effect (bytes_of (words_of_effect x) ++ rest) ≡ Ok (x, rest)
effect_back (effect.Write address bytes) rest f =
    arm_back written_words (both (read_number 64) read_bytes) written_form (λ r. effect.Write (record { 0 = r.0 }) r.1) (address.0, bytes) rest f
effect_back (effect.Signal signal old new) rest f =
    arm_back signalled_words (both (read_number 64) (both read_signed read_signed)) signalled_form (λ r. effect.Signal (record { 0 = r.0 }) r.1.0 r.1.1) (signal.0, (old, new)) rest f
effect_back (effect.Release queue packet) rest f = arm_back words_of_packet read_packet_named packet_named_form (λ r. effect.Release r.0 r.1) (queue, packet) rest f

effect_tells : (bytes : List ℕ) → WrittenSo words_of_effect bytes (read_effect bytes)
effect_tells [] = tt
effect_tells (tag ∷ bytes) =
    tag_if words_of_effect tag 0 bytes _ _
    (arm_tells written_words (both (read_number 64) read_bytes) written_form words_of_effect 0 (λ r. effect.Write (record { 0 = r.0 }) r.1) bytes (λ r. refl))
    (tag_if words_of_effect tag 1 bytes _ _
    (arm_tells signalled_words (both (read_number 64) (both read_signed read_signed)) signalled_form words_of_effect 1 (λ r. effect.Signal (record { 0 = r.0 }) r.1.0 r.1.1) bytes (λ r. refl))
    (tag_if words_of_effect tag 2 bytes _ _ (arm_tells words_of_packet read_packet_named packet_named_form words_of_effect 2 (λ r. effect.Release r.0 r.1) bytes (λ r. refl))
    tt))

pub effect_form : IsForm words_of_effect read_effect
effect_form = record { back = effect_back; tells = effect_tells }

-- ---- entries

abbrev pub result_words : Outcome × List Effect → List Word
result_words r = words_of_outcome r.0 ++ words_of_list words_of_effect r.1

pub result_form : IsForm result_words (both read_outcome (read_list read_effect))
result_form = both_form words_of_outcome (words_of_list words_of_effect) read_outcome (read_list read_effect) outcome_form (list_form words_of_effect read_effect effect_form)

abbrev pub entry_of : Happened × (Outcome × List Effect) → Entry × Option (List ℕ)
entry_of r = (record { event = r.0.0; outcome = r.1.0; effects = r.1.1 }, r.0.1)

pub entry_back : (entry : Entry) (policy rest : List ℕ) → fit (words_of_entry entry policy) ≡ true →
    read_entry (form_of_entry entry policy ++ rest) ≡ Ok ((entry, kept_policy entry.event policy), rest)
entry_back entry policy rest f =
    let happened : List Word = words_of_event entry.event policy in
    let came : List Word = words_of_outcome entry.outcome ++ words_of_list words_of_effect entry.effects in
    ap read_entry (both_bytes happened came rest)
    ∙ ap (λ read. made entry_of (and_read read (λ x end. and_read (both read_outcome (read_list read_effect) end) (λ y last. Ok ((x, y), last)))))
    (event_back entry.event policy (bytes_of came ++ rest) (fit_front happened came f))
    ∙ ap (λ read. made entry_of (and_read read (λ y last. Ok (((entry.event, kept_policy entry.event policy), y), last))))
    (result_form.back (entry.outcome, entry.effects) rest (fit_behind happened came f))

-- the words of an entry that was read
abbrev pub words_of_read : Entry × Option (List ℕ) → List Word
words_of_read x = words_of_entry x.0 (unwrap_or x.1 [])

pub entry_tells : (bytes : List ℕ) → WrittenSo words_of_read bytes (read_entry bytes)
entry_tells bytes =
    made_tells (then_words words_of_happened result_words) words_of_read [] entry_of bytes (both read_event (both read_outcome (read_list read_effect)) bytes) (λ r. refl)
    (both_tells words_of_happened result_words read_event (both read_outcome (read_list read_effect)) event_tells result_form.tells bytes)

-- what was read tells its bytes
pub entry_told : (bytes : List ℕ) (entry : Entry) (policy : Option (List ℕ)) (rest : List ℕ) → read_entry bytes ≡ Ok ((entry, policy), rest) →
    bytes ≡ form_of_entry entry (unwrap_or policy []) ++ rest
entry_told bytes entry policy rest e = subst (WrittenSo words_of_read bytes) e (entry_tells bytes)

-- what is read, or else something
abbrev pub read_or : Entry × Option (List ℕ) → Read (Entry × Option (List ℕ)) → Entry × Option (List ℕ)
read_or other (Err why) = other
read_or other (Ok read) = read.0

pub entries_apart : (one other : Entry) (p q : List ℕ) → fit (words_of_entry one p) ≡ true → fit (words_of_entry other q) ≡ true → form_of_entry one p ≡ form_of_entry other q →
    (one ≡ other) × (kept_policy one.event p ≡ kept_policy other.event q)
entries_apart one other p q f g same =
    let both_read : ◌≡◌ {A = Read (Entry × Option (List ℕ))} (Ok ((one, kept_policy one.event p), [])) (Ok ((other, kept_policy other.event q), [])) =
    sym (entry_back one p [] f) ∙ ap (λ form. read_entry (form ++ [])) same ∙ entry_back other q [] g in
    (ap (λ read. (read_or (one, None) read).0) both_read, ap (λ read. (read_or (one, None) read).1) both_read)
