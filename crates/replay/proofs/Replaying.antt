-- What a replay has taken is a whole legal history.
use Rattle.std.proofs.Common.{ℕ, ◌≡◌, ◌≤◌, ◌<◌, ◌+◌, inl, inr, List, [], ◌∷◌, ◌++◌, length, refl, sym, ◌∙◌, ap, subst, arith, Ok, Err}
use Rattle.std.specs.Prelude.{All}
use Rattle.std.proofs.lemmas.List.Elements.{All-nil, All-push}
use Rattle.kernel_check.specs.Programs.{Program}
use Rattle.policy.specs.Policy.{Declared}
use Rattle.core_model.specs.declared.entry.Entry.{Entry}
use Rattle.core_model.specs.declared.event.Event.{Event}
use Rattle.core_model.specs.declared.event.Event.TheVariants as event
use Rattle.core_model.specs.Flight.{flight}
use Rattle.core_model.specs.History.{Start, beginning, begin, opening_state}
use Rattle.core_model.specs.Legal.{IsOpening, IsWhole}
use Rattle.core_model.specs.Owed.{Owed, enters, owed}
use Rattle.core_model.specs.States.{state_after}
use Rattle.core_model.proofs.Legality.{IsWhole-more}
use Rattle.core_model.proofs.States.{begin-opening, owed-now, state-join, state-now, whole-legal}
use Rattle.replay.specs.declared.stop.Due.{Due}
use Rattle.replay.specs.declared.stop.Stop.{Stop}
use Rattle.replay.specs.declared.stop.Stop.TheVariants as stop
use Rattle.replay.specs.Replays.{GoesOn, IsFull, IsKnown, IsUnknown, Replayed, Takes, Tells, audit_places, owed_next, state}
use Rattle.replay.specs.Verdicts.{IsReplayed, StopsAt}
use Rattle.replay.proofs.Bounded.{few-flying}

pub replayed-none : (policy : Declared) (kernels : List Program) (further : List Declared) (replay : Replayed) → IsOpening replay.history policy kernels audit_places → replay.further ≡ further → IsReplayed policy kernels further [] replay
replayed-none policy kernels further replay is same = record {
  whole = record { opens = refl; legal = tt };
  known = All-nil (λ (entry : Entry). IsKnown policy further entry.event);
  state_is =
      ap (state_after (beginning replay.history)) is.entries_are ∙ state-now (beginning replay.history)
      ∙ ap (λ (ks : List Program). begin ks replay.history.origin) is.kernels_are ∙ begin-opening policy kernels replay.history.origin is.origin_is ∙ sym (state-now (opening_state policy kernels));
  policy_is = is.origin_is.policy_is;
  capacity_is = is.capacity_is;
  further_is = same;
}

module _ (policy : Declared) (kernels : List Program) (further : List Declared) (entries : List Entry) (entry : Entry) (old new : Replayed) (so_far : IsReplayed policy kernels further entries old) where
  abbrev start : Start
  start = opening_state policy kernels

  -- what is owed next is what is owed behind the entries so far
  owed-same : owed_next old entry.event ≡ owed start entries entry.event
  owed-same = ap (λ (s : Start). owed s [] entry.event) so_far.state_is ∙ sym (owed-now start entries entry.event)

  pub replayed-more : Takes old entry (Ok tt) new → IsReplayed policy kernels further (entries ++ entry ∷ []) new
  replayed-more takes =
      let known : IsKnown policy further entry.event = subst (λ (p : Declared). IsKnown p further entry.event) so_far.policy_is (subst (λ (f : List Declared). IsKnown old.history.origin.policy f entry.event) so_far.further_is takes.0) in
      record {
        whole = IsWhole-more start entries entry.event entry.outcome entry.effects so_far.whole (sym owed-same ∙ takes.1);
        known = All-push (λ (e : Entry). IsKnown policy further e.event) entries entry so_far.known known;
        state_is = takes.2.state_is ∙ ap (λ (s : Start). state_after s (entry ∷ [])) so_far.state_is ∙ sym (state-join start entries (entry ∷ []));
        policy_is = takes.2.policy_is ∙ so_far.policy_is;
        capacity_is = takes.2.capacity_is ∙ so_far.capacity_is;
        further_is = takes.2.further_is ∙ so_far.further_is;
      }

  full-many : IsFull old → Rattle.core_model.specs.Limits.most_before < length entries
  full-many (inl many) =
      let before : (state old).before ≡ 0 + length entries = ap (λ (s : Start). s.before) so_far.state_is in
      omega (arith, many, before)
  full-many (inr many) =
      let few : length (flight start entries) ≤ 512 = few-flying start entries (whole-legal start entries so_far.whole) in
      let flying : (state old).flight ≡ flight start entries = ap (λ (s : Start). s.flight) so_far.state_is in
      let count : length (state old).flight ≡ length (flight start entries) = ap length flying in
      let places : old.history.capacity ≡ 65536 = so_far.capacity_is in
      absurd (omega (arith, many, few, count, places))

  pub replayed-stopped : (why : Stop) → Takes old entry (Err why) new → StopsAt policy kernels further entries entry why new
  replayed-stopped stop.OutOfMemory takes = tt
  replayed-stopped stop.NoRoom takes = full-many takes.0
  replayed-stopped stop.UnknownRows takes =
      subst (λ (p : Declared). IsUnknown p further entry.event) so_far.policy_is (subst (λ (f : List Declared). IsUnknown old.history.origin.policy f entry.event) so_far.further_is takes.0)
  replayed-stopped (stop.NotOwed told) takes =
      (λ is. takes.1.other (owed-same ∙ is), subst (λ (w : Owed). Tells told entry.event w new) owed-same takes.1.tells)
