-- A start moves on by the entries of a legal history.
use Rattle.std.proofs.Common.{◌≡◌, ℕ, ◌+◌, ◌≤◌, ◌<◌, List, [], ◌∷◌, ◌++◌, length, refl, sym, ◌∙◌, ap, subst, Bool, true, false, Some, None, Ok, Err, Result, take, drop, get_or, fold, inl, inr, append_assoc, arith}
use Rattle.std.specs.Prelude.{All, ◌⊎◌, ◌&&◌, not, if◌then◌else◌}
use Rattle.std.specs.List.{list_any}
use Rattle.std.proofs.lemmas.List.{drop_more, take-append-drop}
use Rattle.aql_packet.specs.Memory.{are_region_lengths}
use Rattle.kernel_check.specs.Programs.{Program}
use Rattle.policy.specs.Rules as rules_kept
use Rattle.policy.specs.declared.rows.PolicyRows.{PolicyRows}
use Rattle.grants.specs.declared.refusal.GrantRefusal.{GrantRefusal as Why}
use Rattle.grants.specs.declared.refusal.GrantRefusal.TheVariants as why
use Rattle.grants.specs.Ledger.{is_holder}
use Rattle.grants.specs.Ledger as ledger
use Rattle.core_model.specs.declared.call.Call.TheVariants.{Close, Finish, HostWrite, Poll, RunNext, Stop, ChangeSignal}
use Rattle.core_model.specs.declared.event.Event.TheVariants.{Open, Take, Reload}
use Rattle.core_model.specs.declared.entry.Effect.TheVariants as effect
use Rattle.core_model.specs.declared.entry.Entry.{Entry}
use Rattle.core_model.specs.declared.origin.Origin.{Origin}
use Rattle.core_model.specs.declared.outcome.Outcome.TheVariants as outcome
use Rattle.core_model.specs.declared.refusal.Refusal.TheVariants as refusal
use Rattle.core_model.specs.Headline.{IsGroupWrite, IsHostWrite, WriteIsGranted}
use Rattle.core_model.specs.History.{begin, effects_of}
use Rattle.core_model.specs.Legal.{IsLegal, IsLegalAfter, IsWhole}
use Rattle.core_model.specs.Owed.{Owed, owed}
use Rattle.core_model.specs.Policies.{policy_at, rows_after, rows_at}
use Rattle.core_model.proofs.Changes.{write-granted}
use Rattle.core_model.proofs.More.{effects_of-more}
use Rattle.core_model.proofs.States.{legal-own, split-legal}
use Rattle.access_core.proofs.HeldRights.{any-none}
use Rattle.access_core.specs.inner.MovingOn.{MayFollow, MayMove, MovesOn, StepsOn}
use Rattle.access_core.proofs.Terms.{All-weaker, Call, ClientId, Effect, Event, Grant, HoldsNone, IsFirstTo, Ledger, LiesWithin, Object, Outcome, PacketId, QueueId, Revoke, Right, Rights, Rules, Start}
use Rattle.access_core.proofs.Terms.{all_rights, are_allowed, byte_after, enters, fold-append, grant_due, has, in_force_after, is_within, knows_client, knows_object, lengths_of, opening_state, refuse_unless, refuses, region_lengths, rules_in, rules_of, signals_after}

-- ---- steps, one after another

pub moves-none : (o : Origin) → MovesOn o [] o
unfolding effects_of
moves-none o = record {
  granted = λ client on right. refl;
  rules = refl;
  same_holds = λ queue id client on right. refl;
  memory = λ x byte before. before;
  lengths = refl;
  signals = refl;
  others = refl;
}

pub moves-more : (a b c : Origin) (es : List Entry) (e : Entry) → MovesOn a es b → StepsOn b c e → MovesOn a (es ++ e ∷ []) c
moves-more a b c es e moved step = record {
  granted = λ client on right.
      step.grants.granted client on right
      ∙ ap (λ (was : Bool). in_force_after client on right was e.event) (moved.granted client on right)
      ∙ sym (fold-append (λ (before : Bool) (entry : Entry). in_force_after client on right before entry.event) (ledger.in_force a.grants client on right) es (e ∷ []));
  rules =
      step.grants.rules
      ∙ ap (λ (r : Rules). record r { rows = rows_after r.rows e.event }) moved.rules
      ∙ ap (λ (rows : PolicyRows). record (rules_in a.grants) { rows = rows }) (sym (fold-append (λ (before : PolicyRows) (entry : Entry). rows_after before entry.event) (rules_in a.grants).rows es (e ∷ [])));
  same_holds = λ queue id client on right. step.grants.same_holds queue id client on right ∙ moved.same_holds queue id client on right;
  memory = λ x byte before.
      step.memory x (fold (byte_after x) byte (effects_of es)) (moved.memory x byte before)
      ∙ ap Some (sym (ap (fold (byte_after x) byte) (effects_of-more es e) ∙ fold-append (byte_after x) byte (effects_of es) e.effects));
  lengths = step.lengths ∙ moved.lengths;
  signals =
      step.signals
      ∙ ap (λ values. fold signals_after values e.effects) moved.signals
      ∙ sym (ap (fold signals_after a.signals) (effects_of-more es e) ∙ fold-append signals_after a.signals (effects_of es) e.effects);
  others = step.others ∙ ap (λ (o : Origin). record o { grants = c.grants; memory = c.memory; signals = c.signals }) moved.others;
}

-- ---- what a step asks

-- what is due to a grant, by whether the client and the object are declared, and the rights allowed
abbrev due_of : Bool → Bool → Bool → Result (Unit {0}) Why
due_of client object rights =
    if not client then Err why.UnknownClient else if not object then Err why.UnknownObject else if not rights then Err why.NotAllowed else Ok tt

grant-passed : (c o r : Bool) (told : Outcome) (effects : List Effect)
    → refuse_unless c (refuses refusal.UnknownClient) (refuse_unless o (refuses refusal.UnknownObject) (refuse_unless r (refuses refusal.NotAllowed) (enters outcome.Accepted []))) ≡ enters told effects
    → due_of c o r ≡ Ok tt
grant-passed true true true told effects is = refl
grant-passed true true false told effects is = absurd cc
grant-passed true false r told effects is = absurd cc
grant-passed false o r told effects is = absurd cc

-- an event that was entered can be followed by grants with those rules, by which no packet holds anything
pub may-follow : (s : Start) (es : List Entry) (event : Event) (told : Outcome) (effects : List Effect) → owed s es event ≡ enters told effects
    → (grants : Ledger) → HoldsNone grants → rules_in grants ≡ rules_of (policy_at s es) → MayFollow grants event
unfolding owed
may-follow s es (Call (Grant client on rights)) told effects owing grants none ruled =
    ap (λ (rules : Rules). due_of (knows_client rules client) (knows_object rules on) (rules_kept.are_allowed rules client on rights)) ruled
    ∙ grant-passed (knows_client (rules_of s.policy) client) (knows_object (rules_of s.policy) on) (are_allowed (rules_of (policy_at s es)) client on rights) told effects owing
may-follow s es (Call (Revoke client on rights)) told effects owing grants none ruled =
    let passed = known (knows_client (rules_of s.policy) client) (knows_object (rules_of s.policy) on) _ owing in (
      ap (λ (rules : Rules). knows_client rules client) ruled ∙ passed.0,
      ap (λ (rules : Rules). knows_object rules on) ruled ∙ passed.1,
      λ queue id. (λ i. list_any (λ r. has rights r && none queue id client on r i) all_rights) ∙ any-none (has rights) all_rights,
    )
  where
    known : (c o : Bool) (rest : Owed) → refuse_unless c (refuses refusal.UnknownClient) (refuse_unless o (refuses refusal.UnknownObject) rest) ≡ enters told effects → (c ≡ true) × (o ≡ true)
    known true true rest is = (refl, refl)
    known true false rest is = absurd cc
    known false o rest is = absurd cc
may-follow s es (Reload rows) told effects owing grants none ruled = λ queue id client on right has_it. let no = none queue id client on right in absurd cc
may-follow s es (Open client agent size) told effects owing grants none ruled = tt
may-follow s es (Take queue id bytes) told effects owing grants none ruled = tt
may-follow s es (Call (Stop queue)) told effects owing grants none ruled = tt
may-follow s es (Call (Close queue)) told effects owing grants none ruled = tt
may-follow s es (Call (RunNext queue id)) told effects owing grants none ruled = tt
may-follow s es (Call (Poll queue id)) told effects owing grants none ruled = tt
may-follow s es (Call (Finish queue id)) told effects owing grants none ruled = tt
may-follow s es (Call (HostWrite client address bytes)) told effects owing grants none ruled = tt
may-follow s es (Call (ChangeSignal client signal operation)) told effects owing grants none ruled = tt

-- what an entry of a legal history wrote lies whole in regions
pub written-within : (s : Start) (es : List Entry) (e : Entry) (rest : List Entry) → IsLegal s (es ++ e ∷ rest) → are_region_lengths (region_lengths s.policy) ≡ true
    → All (LiesWithin (region_lengths s.policy)) e.effects
written-within s es e rest legal fit =
    let first = opening_state legal.first s.kernels in
    let before = legal.prior ++ es in
    let same : region_lengths s.policy ≡ region_lengths legal.first = ap (λ (now : Start). region_lengths now.policy) legal.start_is in
    let parts = split-legal first [] before (e ∷ rest) (subst (IsLegalAfter first []) (sym (append_assoc legal.prior es (e ∷ rest))) legal.whole.legal) in
    let whole : IsWhole first before = record { opens = refl; legal = parts.0 } in
    All-weaker (WriteIsGranted first before e.event) (LiesWithin (region_lengths s.policy)) (one first before same) e.effects
    (write-granted first before whole (ap are_region_lengths (sym same) ∙ fit) e.event e.outcome e.effects parts.1.0)
  where
    one : (first : Start) (before : List Entry) → region_lengths s.policy ≡ region_lengths first.policy → (change : Effect) → WriteIsGranted first before e.event change → LiesWithin (region_lengths s.policy) change
    one first before same (effect.Write address bytes) so = ap (λ ls. is_within ls address.0 (length bytes)) same ∙ reach so.1
      where
        reach : IsHostWrite first before e.event address.0 bytes ⊎ IsGroupWrite first before e.event address.0 bytes → is_within (region_lengths first.policy) address.0 (length bytes) ≡ true
        reach (inl host) = host.allowed.lies_whole
        reach (inr group) = group.allowed.lies_whole
    one first before same (effect.Signal signal old new) so = tt
    one first before same (effect.Release queue id) so = tt

-- entries up to a place, the one there, and those behind it
pub parted_at : (es : List Entry) (i : ℕ) (e : Entry) → i < length es → get_or es i e ≡ e → es ≡ take i es ++ e ∷ drop (i + 1) es
parted_at es i e lt is = sym (take-append-drop i es) ∙ ap (λ (rest : List Entry). take i es ++ rest) (drop_more es i e lt ∙ ap (λ (x : Entry). x ∷ drop (i + 1) es) is)

module _ (start now : Origin) (entries : List Entry) (i : ℕ) (e : Entry) (may : MayMove start entries) (moved : MovesOn start (take i entries) now) (lt : i < length entries) (is : get_or entries i e ≡ e) where
  abbrev s : Start
  s = begin may.kernels start

  legal-here : IsLegal s (take i entries ++ e ∷ drop (i + 1) entries)
  legal-here = subst (IsLegal s) (parted_at entries i e lt is) may.legal

  ruled : rules_in now.grants ≡ rules_of (policy_at s (take i entries))
  unfolding rows_at
  ruled = moved.rules ∙ ap (λ (r : Rules). record r { rows = fold (λ (before : PolicyRows) (entry : Entry). rows_after before entry.event) (rules_in start.grants).rows (take i entries) }) may.kept.rules

  pub follows-next : MayFollow now.grants e.event
  follows-next =
      may-follow s (take i entries) e.event e.outcome e.effects (split-legal s [] (take i entries) (e ∷ drop (i + 1) entries) (legal-own s _ legal-here)).1.0
      now.grants (λ queue id client on right. moved.same_holds queue id client on right ∙ may.kept.unheld queue id client on right) ruled

  pub within-next : All (LiesWithin (lengths_of now.memory)) e.effects
  within-next =
      subst (λ ls. All (LiesWithin ls) e.effects) (sym (moved.lengths ∙ may.kept.lengths))
      (written-within s (take i entries) e (drop (i + 1) entries) legal-here may.fit)
