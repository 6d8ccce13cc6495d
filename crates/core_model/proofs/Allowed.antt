-- Each right in force is one that the policy in force allows: only grants put rights in force, and a reload takes those that its rows
-- don't allow.
use Rattle.std.proofs.Common.{◌≡◌, List, [], ◌∷◌, ◌++◌, sym, ◌∙◌, ap, subst, Bool, true, false, append_assoc}
use Rattle.std.specs.Prelude.{◌&&◌, ◌||◌, ◌==◌}
use Rattle.std.proofs.lemmas.Bool.{and_parts, eqb-true}
use Rattle.std.proofs.lemmas.List.{append-nil}
use Rattle.aql_packet.specs.declared.ids.ClientId.{ClientId}
use Rattle.policy.specs.declared.object.Object.{Object}
use Rattle.policy.specs.declared.rights.Right.{Right}
use Rattle.policy.specs.declared.rights.Rights.{Rights}
use Rattle.policy.specs.Object.{same_object}
use Rattle.policy.specs.Rules.{is_allowed, are_allowed, rows_allow}
use Rattle.policy.specs.declared.rows.PolicyRows.{PolicyRows}
use Rattle.core_model.specs.Policies.{rows_after, rows_at, policy_at}
use Rattle.policy.specs.Policy.{rules_of}
use Rattle.policy.specs.Rights.{has}
use Rattle.core_model.specs.declared.event.Event.{Event}
use Rattle.core_model.specs.declared.event.Event.TheVariants.{Open, Take, Reload, Call}
use Rattle.core_model.specs.declared.call.Call.TheVariants.{Grant, Revoke, Stop, Close, RunNext, Poll, Finish, HostWrite, ChangeSignal}
use Rattle.core_model.specs.declared.outcome.Outcome.{Outcome}
use Rattle.core_model.specs.declared.entry.Effect.{Effect}
use Rattle.core_model.specs.declared.entry.Entry.{Entry}
use Rattle.core_model.specs.History.{Start, opening_state}
use Rattle.policy.specs.Pairs.{is_one_of}
use Rattle.policy.proofs.PairLemmas.{same_object_is, each_right-has}
use Rattle.core_model.specs.Grants.{in_force, in_force_after}
use Rattle.core_model.specs.Owed.{owed, enters}
use Rattle.core_model.specs.Legal.{IsWhole, IsLegalAfter}
use Rattle.core_model.proofs.More.{rows_at-more, in_force-more}
use Rattle.core_model.proofs.Entered.{grant-effects}

module _ (start : Start) (client : ClientId) (on : Object) (one : Right) where
  -- whether rows allow the right
  abbrev Allows : PolicyRows → Type 0
  Allows rows = rows_allow rows client on one ≡ true

  abbrev IsAllowed : List Entry → Type 0
  IsAllowed es = in_force start es client on one ≡ true → Allows (rows_at start es)

  -- a grant that names the right was made where the policy in force allows it
  named : (es : List Entry) (c : ClientId) (o : Object) (rights : Rights) → are_allowed (rules_of (policy_at start es)) c o rights ≡ true → is_one_of client on one c o rights ≡ true → Allows (rows_at start es)
  named es c o rights allows_it names_it =
      let rest = and_parts (client.0 == c.0 && same_object on o) (has rights one) names_it in
      let both = and_parts (client.0 == c.0) (same_object on o) rest.0 in
      let client_is : client ≡ c = ap (λ n. record { 0 = n }) (eqb-true _ _ both.0) in
      let object_is : on ≡ o = same_object_is on o both.1 in
      (λ i. is_allowed (rules_of (policy_at start es)) (client_is i) (object_is i) one) ∙ each_right-has rights (is_allowed (rules_of (policy_at start es)) c o) allows_it one rest.1

  either : {P : Type 0} (a b : Bool) → (a || b) ≡ true → (a ≡ true → P) → (b ≡ true → P) → P
  either true b is left right_so = left is
  either false b is left right_so = right_so is

  after : (es : List Entry) (event : Event) (told : Outcome) (effects : List Effect) → owed start es event ≡ enters told effects → IsAllowed es → in_force_after client on one (in_force start es client on one) event ≡ true → Allows (rows_after (rows_at start es) event)
  after es (Call (Grant c o rights)) told effects owing before now = either _ _ now before (named es c o rights (grant-effects start es told effects c o rights owing).1)
  after es (Call (Revoke c o rights)) told effects owing before now = before (and_parts (in_force start es client on one) _ now).0
  after es (Reload rows) told effects owing before now = (and_parts (in_force start es client on one) _ now).1
  after es (Open _ _ _) told effects owing before now = before now
  after es (Call (Stop _)) told effects owing before now = before now
  after es (Call (Close _)) told effects owing before now = before now
  after es (Take _ _ _) told effects owing before now = before now
  after es (Call (RunNext _ _)) told effects owing before now = before now
  after es (Call (Poll _ _)) told effects owing before now = before now
  after es (Call (Finish _ _)) told effects owing before now = before now
  after es (Call (HostWrite _ _ _)) told effects owing before now = before now
  after es (Call (ChangeSignal _ _ _)) told effects owing before now = before now

  all-after : (before es : List Entry) → IsAllowed before → IsLegalAfter start before es → IsAllowed (before ++ es)
  all-after before [] allowed_so legal = subst IsAllowed (sym (append-nil before)) allowed_so
  all-after before (e ∷ es) allowed_so legal =
      subst IsAllowed (append_assoc before (e ∷ []) es)
      (all-after (before ++ e ∷ []) es (λ now. ap (λ (rows : PolicyRows). rows_allow rows client on one) (rows_at-more start before e) ∙ after before e.event e.outcome e.effects legal.0 allowed_so (sym (in_force-more start before e client on one) ∙ now)) legal.1)

  none-yet : start ≡ opening_state start.policy start.kernels → IsAllowed []
  unfolding in_force
  none-yet opens now = let none : start.in_force client on one ≡ false = ap (λ (s : Start). s.in_force client on one) opens in absurd cc

  pub allowed-legal : (es : List Entry) → IsWhole start es → IsAllowed es
  allowed-legal es legal = all-after [] es (none-yet legal.opens) legal.legal
