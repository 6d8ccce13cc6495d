-- Bytes that end within an entry's form are read as ended.
use Rattle.std.proofs.Common.{◌≡◌, ℕ, true, List, refl, sym, ap, ◌∙◌, inl, inr}
use Rattle.std.specs.Prelude.{Some, None, Ok, Err}
use Rattle.std.proofs.lemmas.List.Concat.{flat_map-append}
use Rattle.core_model.specs.declared.outcome.WaitCause.TheVariants as cause
use Rattle.core_model.specs.declared.outcome.Taken.TheVariants as taken
use Rattle.core_model.specs.declared.outcome.Worked.TheVariants as worked
use Rattle.core_model.specs.declared.outcome.Polled.TheVariants as polled
use Rattle.core_model.specs.declared.outcome.Outcome.TheVariants as outcome
use Rattle.core_model.specs.declared.call.Call.TheVariants as call
use Rattle.core_model.specs.declared.event.Event.{Event}
use Rattle.core_model.specs.declared.event.Event.TheVariants as event
use Rattle.core_model.specs.declared.entry.Effect.TheVariants as effect
use Rattle.core_model.specs.declared.entry.Entry.{Entry}
use Rattle.packed_journal.specs.declared.unread.Unread.TheVariants.{Ended}
use Rattle.packed_journal.specs.Words.{packed}
use Rattle.packed_journal.specs.Readings.{bytes_of, fit, and_read, both, made, read_number, read_signed, read_bytes, read_packet, read_flags, read_digest, words_of_list, read_list}
use Rattle.packed_journal.specs.Parts.{words_of_client, read_client, words_of_packet, read_queue, read_packet_named, words_of_rights_on, read_rights_on, words_of_rows, read_rows, words_of_operation, read_operation, words_of_error, read_error}
use Rattle.packed_journal.specs.Entries.{form_of_entry, kept_policy, read_cause, read_effect, read_entry, read_event, read_outcome, words_of_effect, words_of_entry, words_of_event, words_of_outcome}
use Rattle.packed_journal.proofs.Forms.{digest_form, fit_behind, fit_front, number_form, signed_form, then_words}
use Rattle.packed_journal.proofs.PartForms.{of_bits, of_sign, client_form, words_of_queue, packet_named_form}
use Rattle.packed_journal.proofs.EntryForms.{changed, effect_form, entry_of, event_back, of_bytes, of_digest, of_flags, of_packet, open_read, open_words, opened, outcome_form, ran_words, reload_words, result_words, signalled_words, take_words, taken_so, words_of_cause, write_words, written_words, wrote, change_words}
use Rattle.packed_journal.proofs.Fronts.{Ends, FormEnds, Parts, arm_ends, both_ends, bytes_end, digest_ends, flags_end, list_ends, number_ends, parted, signed_ends, tag_ends}
use Rattle.packed_journal.proofs.PartFronts.{client_ends, error_ends, operation_ends, packet_named_ends, queue_ends, rights_on_ends, rows_ends}
use Rattle.packed_journal.proofs.PacketFronts.{packet_ends}

-- ---- events

open_ends : FormEnds open_words open_read
open_ends =
    both_ends words_of_client (then_words (of_bits 32) (of_bits 64)) read_client (both (read_number 32) (read_number 64)) client_form client_ends
    (both_ends (of_bits 32) (of_bits 64) (read_number 32) (read_number 64) (number_form 32) (number_ends 32) (number_ends 64))

take_ends : FormEnds take_words (both read_packet_named read_packet)
take_ends = both_ends words_of_packet of_packet read_packet_named read_packet packet_named_form packet_named_ends packet_ends

write_ends : FormEnds write_words (both read_client (both (read_number 64) read_bytes))
write_ends =
    both_ends words_of_client (then_words (of_bits 64) of_bytes) read_client (both (read_number 64) read_bytes) client_form client_ends
    (both_ends (of_bits 64) of_bytes (read_number 64) read_bytes (number_form 64) (number_ends 64) bytes_end)

change_ends : FormEnds change_words (both read_client (both (read_number 64) read_operation))
change_ends =
    both_ends words_of_client (then_words (of_bits 64) words_of_operation) read_client (both (read_number 64) read_operation) client_form client_ends
    (both_ends (of_bits 64) words_of_operation (read_number 64) read_operation (number_form 64) (number_ends 64) operation_ends)

reload_ends : FormEnds reload_words (both read_digest read_rows)
reload_ends = both_ends of_digest words_of_rows read_digest read_rows digest_form digest_ends rows_ends

event_ends : (x : Event) (policy : List ℕ) → fit (words_of_event x policy) ≡ true → Ends read_event (bytes_of (words_of_event x policy))
event_ends (event.Open client agent size) policy f = arm_ends open_words open_read open_ends read_event 1 opened refl (λ bytes. refl) (client, (agent.0, size)) f
event_ends (event.Take queue packet bytes) policy f =
    arm_ends take_words (both read_packet_named read_packet) take_ends read_event 2 taken_so refl (λ bytes. refl) ((queue, packet), bytes) f
event_ends (event.Call (call.Grant client on rights)) policy f =
    arm_ends words_of_rights_on read_rights_on rights_on_ends read_event 3 (λ r. (event.Call (call.Grant r.0 r.1.0 r.1.1), None)) refl (λ bytes. refl) (client, (on, rights)) f
event_ends (event.Call (call.Revoke client on rights)) policy f =
    arm_ends words_of_rights_on read_rights_on rights_on_ends read_event 4 (λ r. (event.Call (call.Revoke r.0 r.1.0 r.1.1), None)) refl (λ bytes. refl) (client, (on, rights)) f
event_ends (event.Call (call.Stop queue)) policy f = arm_ends words_of_queue read_queue queue_ends read_event 5 (λ q. (event.Call (call.Stop q), None)) refl (λ bytes. refl) queue f
event_ends (event.Call (call.Close queue)) policy f = arm_ends words_of_queue read_queue queue_ends read_event 6 (λ q. (event.Call (call.Close q), None)) refl (λ bytes. refl) queue f
event_ends (event.Call (call.RunNext queue packet)) policy f =
    arm_ends words_of_packet read_packet_named packet_named_ends read_event 7 (λ r. (event.Call (call.RunNext r.0 r.1), None)) refl (λ bytes. refl) (queue, packet) f
event_ends (event.Call (call.Poll queue packet)) policy f =
    arm_ends words_of_packet read_packet_named packet_named_ends read_event 8 (λ r. (event.Call (call.Poll r.0 r.1), None)) refl (λ bytes. refl) (queue, packet) f
event_ends (event.Call (call.Finish queue packet)) policy f =
    arm_ends words_of_packet read_packet_named packet_named_ends read_event 9 (λ r. (event.Call (call.Finish r.0 r.1), None)) refl (λ bytes. refl) (queue, packet) f
event_ends (event.Call (call.HostWrite client address bytes)) policy f =
    arm_ends write_words (both read_client (both (read_number 64) read_bytes)) write_ends read_event 10 wrote refl (λ bytes. refl) (client, (address.0, bytes)) f
event_ends (event.Call (call.ChangeSignal client signal operation)) policy f =
    arm_ends change_words (both read_client (both (read_number 64) read_operation)) change_ends read_event 11 changed refl (λ bytes. refl) (client, (signal.0, operation)) f
event_ends (event.Reload rows) policy f =
    arm_ends reload_words (both read_digest read_rows) reload_ends read_event 12 (λ r. (event.Reload r.1, Some r.0)) refl (λ bytes. refl) (policy, rows) f

-- ---- outcomes

cause_ends : FormEnds words_of_cause read_cause
cause_ends cause.Barrier f = tag_ends read_cause 0 refl
cause_ends cause.Active f = tag_ends read_cause 1 refl
cause_ends cause.Slots f = tag_ends read_cause 2 refl

ran_ends : FormEnds ran_words (both (read_number 32) (read_number 32))
ran_ends = both_ends (of_bits 32) (of_bits 32) (read_number 32) (read_number 32) (number_form 32) (number_ends 32) (number_ends 32)

outcome_ends : FormEnds words_of_outcome read_outcome
outcome_ends outcome.Accepted f = tag_ends read_outcome 0 refl
outcome_ends (outcome.Opened queue) f = arm_ends words_of_queue read_queue queue_ends read_outcome 1 outcome.Opened refl (λ bytes. refl) queue f
outcome_ends (outcome.Taken taken.Launched) f = tag_ends read_outcome 2 refl
outcome_ends (outcome.Taken (taken.Denied error)) f = arm_ends words_of_error read_error error_ends read_outcome 3 (λ e. outcome.Taken (taken.Denied e)) refl (λ bytes. refl) error f
outcome_ends (outcome.Taken (taken.Waiting why)) f = arm_ends words_of_cause read_cause cause_ends read_outcome 4 (λ w. outcome.Taken (taken.Waiting w)) refl (λ bytes. refl) why f
outcome_ends (outcome.Worked (worked.Ran group left)) f =
    arm_ends ran_words (both (read_number 32) (read_number 32)) ran_ends read_outcome 5 (λ r. outcome.Worked (worked.Ran r.0 r.1)) refl (λ bytes. refl) (group, left) f
outcome_ends (outcome.Worked (worked.Faulted error)) f = arm_ends words_of_error read_error error_ends read_outcome 6 (λ e. outcome.Worked (worked.Faulted e)) refl (λ bytes. refl) error f
outcome_ends (outcome.Worked worked.Done) f = tag_ends read_outcome 7 refl
outcome_ends (outcome.Polled (polled.Pending seen)) f =
    arm_ends of_flags read_flags flags_end read_outcome 8 (λ fs. outcome.Polled (polled.Pending (record { 0 = fs }))) refl (λ bytes. refl) seen.0 f
outcome_ends (outcome.Polled (polled.Ready seen)) f =
    arm_ends of_flags read_flags flags_end read_outcome 9 (λ fs. outcome.Polled (polled.Ready (record { 0 = fs }))) refl (λ bytes. refl) seen.0 f
outcome_ends (outcome.Polled (polled.Failed error)) f = arm_ends words_of_error read_error error_ends read_outcome 10 (λ e. outcome.Polled (polled.Failed e)) refl (λ bytes. refl) error f
outcome_ends (outcome.Changed old) f = arm_ends of_sign read_signed signed_ends read_outcome 11 outcome.Changed refl (λ bytes. refl) old f

-- ---- changes

written_ends : FormEnds written_words (both (read_number 64) read_bytes)
written_ends = both_ends (of_bits 64) of_bytes (read_number 64) read_bytes (number_form 64) (number_ends 64) bytes_end

signalled_ends : FormEnds signalled_words (both (read_number 64) (both read_signed read_signed))
signalled_ends =
    both_ends (of_bits 64) (then_words of_sign of_sign) (read_number 64) (both read_signed read_signed) (number_form 64) (number_ends 64)
    (both_ends of_sign of_sign read_signed read_signed signed_form signed_ends signed_ends)

effect_ends : FormEnds words_of_effect read_effect
effect_ends (effect.Write address bytes) f =
    arm_ends written_words (both (read_number 64) read_bytes) written_ends read_effect 0 (λ r. effect.Write (record { 0 = r.0 }) r.1) refl (λ bytes. refl) (address.0, bytes) f
effect_ends (effect.Signal signal old new) f =
    arm_ends signalled_words (both (read_number 64) (both read_signed read_signed)) signalled_ends read_effect 1 (λ r. effect.Signal (record { 0 = r.0 }) r.1.0 r.1.1) refl (λ bytes. refl)
    (signal.0, (old, new)) f
effect_ends (effect.Release queue packet) f =
    arm_ends words_of_packet read_packet_named packet_named_ends read_effect 2 (λ r. effect.Release r.0 r.1) refl (λ bytes. refl) (queue, packet) f

-- ---- entries

result_ends : FormEnds result_words (both read_outcome (read_list read_effect))
result_ends = both_ends words_of_outcome (words_of_list words_of_effect) read_outcome (read_list read_effect) outcome_form outcome_ends (list_ends words_of_effect read_effect effect_form effect_ends)

pub entry_ends : (entry : Entry) (policy : List ℕ) → fit (words_of_entry entry policy) ≡ true → Ends read_entry (form_of_entry entry policy)
entry_ends entry policy f front more b is =
    by_part (parted (bytes_of (words_of_event entry.event policy)) (bytes_of (result_words (entry.outcome, entry.effects))) front more b
    (sym (flat_map-append packed (words_of_event entry.event policy) (result_words (entry.outcome, entry.effects))) ∙ is))
  where
    first : fit (words_of_event entry.event policy) ≡ true
    first = fit_front (words_of_event entry.event policy) (result_words (entry.outcome, entry.effects)) f

    by_part : Parts (bytes_of (words_of_event entry.event policy)) (bytes_of (result_words (entry.outcome, entry.effects))) front more b → read_entry front ≡ Err Ended
    by_part (inl q) =
        ap (λ read. made entry_of (and_read read (λ x end. and_read (both read_outcome (read_list read_effect) end) (λ y last. Ok ((x, y), last)))))
        (event_ends entry.event policy first front q.0 q.1.0 q.1.1)
    by_part (inr q) =
        ap read_entry q.1.0
        ∙ ap (λ read. made entry_of (and_read read (λ x end. and_read (both read_outcome (read_list read_effect) end) (λ y last. Ok ((x, y), last)))))
        (event_back entry.event policy q.0 first)
        ∙ ap (λ read. made entry_of (and_read read (λ y last. Ok (((entry.event, kept_policy entry.event policy), y), last))))
        (result_ends (entry.outcome, entry.effects) (fit_behind (words_of_event entry.event policy) (result_words (entry.outcome, entry.effects)) f) q.0 more b q.1.1)
