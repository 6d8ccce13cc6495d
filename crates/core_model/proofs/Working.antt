-- Completions come after the work, and polls tell what the signals are.
use Rattle.std.proofs.Common.{◌≡◌, List, [], ◌∷◌, ◌++◌, refl, sym, ◌∙◌, ap, Bool, true, false, inl, inr, ◌⊎◌}
use Rattle.std.specs.Prelude.{if◌then◌else◌}
use Rattle.std.specs.List.{list_any}
use Rattle.aql_packet.specs.declared.ids.QueueId.{QueueId}
use Rattle.aql_packet.specs.declared.ids.PacketId.{PacketId}
use Rattle.aql_packet.specs.declared.packet.Packet.{Packet}
use Rattle.queue_error.specs.declared.rule.Rule.TheVariants.{B1}
use Rattle.core_model.specs.declared.event.Event.TheVariants.{Call}
use Rattle.core_model.specs.declared.call.Call.TheVariants.{Finish, Poll}
use Rattle.core_model.specs.declared.outcome.Outcome.{Outcome}
use Rattle.core_model.specs.declared.outcome.Outcome.TheVariants as outcome
use Rattle.core_model.specs.declared.outcome.Polled.{Polled}
use Rattle.core_model.specs.declared.outcome.Polled.TheVariants as polled_as
use Rattle.core_model.specs.declared.outcome.Satisfied.{Satisfied}
use Rattle.core_model.specs.declared.entry.Effect.{Effect}
use Rattle.core_model.specs.declared.entry.Effect.TheVariants as effect
use Rattle.core_model.specs.declared.entry.Entry.{Entry}
use Rattle.core_model.specs.History.{Start}
use Rattle.core_model.specs.Memory.{signals}
use Rattle.core_model.specs.Flight.{progress, satisfied_by_either}
use Rattle.core_model.specs.Needs.{completion_signal}
use Rattle.core_model.specs.Work.{seen_dependencies, is_negative, is_ready, newly_seen_positions}
use Rattle.core_model.specs.Owed.{signal_decrement, enters, error_without_place, is_finished, owed}
use Rattle.core_model.specs.Legal.{IsWhole}
use Rattle.core_model.specs.Headline.{InFlightSince, IsCompleted, IsPolled, SeesAnew}
use Rattle.core_model.proofs.Holding.{flying-since}
use Rattle.core_model.proofs.Entered.{HasSeen, HasFailed, finish-entered, poll-entered}

module _ (start : Start) (es : List Entry) (legal : IsWhole start es) (told : Outcome) (effects : List Effect) (queue : QueueId) (id : PacketId) where
  pub completion-due : owed start es (Call (Finish queue id)) ≡ enters told effects → (told ≡ outcome.Accepted) × IsCompleted start es queue id effects
  completion-due owing =
      let done = finish-entered start es told effects queue id owing in
      let since = flying-since start es legal queue id done.flying done.found in (
        done.outcome_is,
        record {
          packet = since.0;
          is_done = ap (λ f. is_finished f.packet (progress start es queue id)) since.1 ∙ done.is_done;
          effects_are = done.effects_are ∙ sym (ap (λ f. signal_decrement (signals start es) (completion_signal f.packet) ++ effect.Release queue id ∷ []) since.1);
        },
      )

  abbrev pub satisfied : Satisfied
  satisfied = (progress start es queue id).satisfied

  abbrev sight : Packet → Satisfied
  sight p = newly_seen_positions (signals start es) p satisfied

  -- what was seen suffices or doesn't
  as-polled : (p : Packet) → SeesAnew start es p satisfied (sight p) → (b : Bool) → is_ready p (satisfied_by_either satisfied (sight p)) ≡ b →
      IsPolled start es queue id p satisfied (if b then polled_as.Ready (sight p) else polled_as.Pending (sight p))
  as-polled p anew true is = (anew, is)
  as-polled p anew false is = (anew, is)

  seen-anew : (p : Packet) → list_any (is_negative (signals start es)) (seen_dependencies p satisfied) ≡ false → list_any (λ at. at) (sight p).0 ≡ true → SeesAnew start es p satisfied (sight p)
  seen-anew p none some = record { none_negative = none; seen = refl; some = some }

  pub poll-due : owed start es (Call (Poll queue id)) ≡ enters told effects →
      (s : InFlightSince start es queue id) × (found : Polled) × (told ≡ outcome.Polled found) × IsPolled start es queue id s.flying.packet satisfied found
  poll-due owing = by_end (poll-entered start es told effects queue id owing)
    where
      by_end : HasSeen start es told effects queue id ⊎ HasFailed start es told effects queue id →
          (s : InFlightSince start es queue id) × (found : Polled) × (told ≡ outcome.Polled found) × IsPolled start es queue id s.flying.packet satisfied found
      by_end (inl seen) =
          let since = flying-since start es legal queue id seen.flying seen.found in
          let p = since.0.flying.packet in (
            since.0,
            (if is_ready p (satisfied_by_either satisfied (sight p)) then polled_as.Ready (sight p) else polled_as.Pending (sight p)),
            seen.outcome_is ∙ sym (ap (λ f. outcome.Polled (if is_ready f.packet (satisfied_by_either satisfied (sight f.packet)) then polled_as.Ready (sight f.packet) else polled_as.Pending (sight f.packet))) since.1),
            as-polled p
                (seen-anew p (ap (λ f. list_any (is_negative (signals start es)) (seen_dependencies f.packet satisfied)) since.1 ∙ seen.none_negative)
                (ap (λ f. list_any (λ at. at) (sight f.packet).0) since.1 ∙ seen.some))
                (is_ready p (satisfied_by_either satisfied (sight p))) refl,
          )
      by_end (inr failed) =
          let since = flying-since start es legal queue id failed.flying failed.found in (
            since.0,
            polled_as.Failed (error_without_place queue id.0 B1),
            failed.outcome_is,
            (refl, ap (λ f. list_any (is_negative (signals start es)) (seen_dependencies f.packet satisfied)) since.1 ∙ failed.negative),
          )
