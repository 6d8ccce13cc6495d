-- Each right in force is on an object that is declared: only grants put rights in force.
use Rattle.std.proofs.Common.{◌≡◌, List, [], ◌∷◌, ◌++◌, sym, ◌∙◌, ap, subst, Bool, true, false, append_assoc}
use Rattle.std.specs.Prelude.{◌&&◌, ◌||◌, ◌==◌}
use Rattle.std.proofs.lemmas.Bool.{and_parts, eqb-true}
use Rattle.std.proofs.lemmas.List.{append-nil}
use Rattle.aql_packet.specs.declared.ids.ClientId.{ClientId}
use Rattle.policy.specs.declared.object.Object.{Object}
use Rattle.policy.specs.declared.rights.Right.{Right}
use Rattle.policy.specs.declared.rights.Rights.{Rights}
use Rattle.policy.specs.Object.{kind_of, number_of, object_of, same_object}
use Rattle.policy.specs.Rules.{knows_object}
use Rattle.std.specs.List.{list_any, range_with_len}
use Rattle.std.proofs.Common.{◌≤◌, ◌<◌, ◌+◌, ℕ, zero, suc, arith, refl}
use Rattle.std.specs.Prelude.{map, nat_lt, nat_le}
use Rattle.std.proofs.lemmas.Bool.{leb-true, ltb-true}
use Rattle.std.proofs.lemmas.Bool.Decides.{nat_tests}
use Rattle.std.proofs.lemmas.List.Folds.{list_any-append}
use Rattle.policy.specs.Listing.{all_objects, objects_of_kind}
use Rattle.policy.specs.declared.object.Kind.{Kind}
use Rattle.policy.specs.declared.object.Kind.TheVariants as kind
use Rattle.policy.specs.declared.object.Object.TheVariants as object
use Rattle.policy.specs.Policy.{rules_of}
use Rattle.policy.specs.Rights.{all_rights, has}
use Rattle.policy.specs.declared.rights.Right.TheVariants as right
use Rattle.core_model.specs.declared.event.Event.{Event}
use Rattle.core_model.specs.declared.event.Event.TheVariants.{Open, Take, Reload, Call}
use Rattle.core_model.specs.declared.call.Call.TheVariants.{Grant, Revoke, Stop, Close, RunNext, Poll, Finish, HostWrite, ChangeSignal}
use Rattle.core_model.specs.declared.outcome.Outcome.{Outcome}
use Rattle.core_model.specs.declared.entry.Effect.{Effect}
use Rattle.core_model.specs.declared.entry.Entry.{Entry}
use Rattle.core_model.specs.History.{Start, opening_state}
use Rattle.policy.specs.Pairs.{is_one_of}
use Rattle.policy.proofs.PairLemmas.{same_object_is}
use Rattle.core_model.specs.Grants.{in_force, in_force_after}
use Rattle.core_model.specs.Owed.{owed, enters}
use Rattle.core_model.specs.Legal.{IsWhole, IsLegalAfter}
use Rattle.core_model.proofs.More.{in_force-more}
use Rattle.core_model.proofs.Entered.{grant-known}

module _ (start : Start) (client : ClientId) (on : Object) (one : Right) where
  abbrev Known : Type 0
  Known = knows_object (rules_of start.policy) on ≡ true

  named : (c : ClientId) (o : Object) (rights : Rights) → knows_object (rules_of start.policy) o ≡ true → is_one_of client on one c o rights ≡ true → Known
  named c o rights known names_it =
      let rest = and_parts (client.0 == c.0 && same_object on o) (has rights one) names_it in
      let both = and_parts (client.0 == c.0) (same_object on o) rest.0 in
      ap (knows_object (rules_of start.policy)) (same_object_is on o both.1) ∙ known

  either : {P : Type 0} (a b : Bool) → (a || b) ≡ true → (a ≡ true → P) → (b ≡ true → P) → P
  either true b is left right_so = left is
  either false b is left right_so = right_so is

  after : (es : List Entry) (event : Event) (told : Outcome) (effects : List Effect) → owed start es event ≡ enters told effects → (in_force start es client on one ≡ true → Known) → in_force_after client on one (in_force start es client on one) event ≡ true → Known
  after es (Call (Grant c o rights)) told effects owing before now = either _ _ now before (named c o rights (grant-known start es told effects c o rights owing))
  after es (Call (Revoke c o rights)) told effects owing before now = before (and_parts (in_force start es client on one) _ now).0
  after es (Reload rows) told effects owing before now = before (and_parts (in_force start es client on one) _ now).0
  after es (Open _ _ _) told effects owing before now = before now
  after es (Call (Stop _)) told effects owing before now = before now
  after es (Call (Close _)) told effects owing before now = before now
  after es (Take _ _ _) told effects owing before now = before now
  after es (Call (RunNext _ _)) told effects owing before now = before now
  after es (Call (Poll _ _)) told effects owing before now = before now
  after es (Call (Finish _ _)) told effects owing before now = before now
  after es (Call (HostWrite _ _ _)) told effects owing before now = before now
  after es (Call (ChangeSignal _ _ _)) told effects owing before now = before now

  abbrev KnownAt : List Entry → Type 0
  KnownAt es = in_force start es client on one ≡ true → Known

  all-after : (before es : List Entry) → KnownAt before → IsLegalAfter start before es → KnownAt (before ++ es)
  all-after before [] known legal = subst KnownAt (sym (append-nil before)) known
  all-after before (e ∷ es) known legal =
      subst KnownAt (append_assoc before (e ∷ []) es)
      (all-after (before ++ e ∷ []) es (λ now. after before e.event e.outcome e.effects legal.0 known (sym (in_force-more start before e client on one) ∙ now)) legal.1)

  none-yet : start ≡ opening_state start.policy start.kernels → KnownAt []
  unfolding in_force
  none-yet opens now = let none : start.in_force client on one ≡ false = ap (λ (s : Start). s.in_force client on one) opens in absurd cc

  pub known-legal : (es : List Entry) → IsWhole start es → in_force start es client on one ≡ true → Known
  known-legal es legal = all-after [] es (none-yet legal.opens) legal.legal

-- ---- a right is one of all

pub any-right : (test : Right → Bool) (one : Right) → test one ≡ true → list_any test all_rights ≡ true
any-right test right.Use is = grind arith
any-right test right.Read is = grind arith
any-right test right.Write is = grind arith
any-right test right.Wait is = grind arith
any-right test right.Change is = grind arith
any-right test right.Launch is = grind arith

-- ---- and a declared object is one of all

any-map : {X Y : Type 0} (f : X → Y) (test : Y → Bool) (xs : List X) → list_any test (map f xs) ≡ list_any (λ x. test (f x)) xs
any-map f test [] = refl
any-map f test (x ∷ xs) = ap (λ b. test (f x) || b) (any-map f test xs)

any-range : (test : ℕ → Bool) (from size n : ℕ) → from ≤ n → n < from + size → test n ≡ true → list_any test (range_with_len from size) ≡ true
any-range test from zero n above below is = absurd (omega arith)
any-range test from (suc size) n above below is = by_test (from == n) refl (λ later. any-range test (from + 1) size n later (omega arith) is)
  where
    by_test : (b : Bool) → (from == n) ≡ b → (from + 1 ≤ n → list_any test (range_with_len (from + 1) size) ≡ true) → list_any test (range_with_len from (suc size)) ≡ true
    by_test true same more = let at : from ≡ n = eqb-true _ _ same in rw (ap test at ∙ is) refl
    by_test false other more = grind (arith, more, nat_tests)

or-left : (a b : Bool) → a ≡ true → (a || b) ≡ true
or-left a b is = rw is refl

or-right : (a b : Bool) → b ≡ true → (a || b) ≡ true
or-right true b is = refl
or-right false b is = is

any-of_kind : (counts : Kind → ℕ) (kind : Kind) (n : ℕ) (test : Object → Bool) → (nat_lt 0 n && nat_le n (counts kind)) ≡ true → test (object_of kind n) ≡ true → list_any test (objects_of_kind counts kind) ≡ true
any-of_kind counts kind n test known is =
    let both = and_parts (nat_lt 0 n) _ known in
    any-map (object_of kind) test (range_with_len 1 (counts kind))
    ∙ any-range (λ k. test (object_of kind k)) 1 (counts kind) n (let low : 0 < n = ltb-true _ _ both.0 in omega arith) (let high : n ≤ counts kind = leb-true _ _ both.1 in omega arith) is

pub any-object : (counts : Kind → ℕ) (test : Object → Bool) (on : Object) → (nat_lt 0 (number_of on) && nat_le (number_of on) (counts (kind_of on))) ≡ true → test on ≡ true → list_any test (all_objects counts) ≡ true
any-object counts test on known is =
    list_any-append test ((objects_of_kind counts kind.Agent ++ objects_of_kind counts kind.Region) ++ objects_of_kind counts kind.Signal) (objects_of_kind counts kind.Kernel)
    ∙ ap (λ b. b || list_any test (objects_of_kind counts kind.Kernel)) (list_any-append test (objects_of_kind counts kind.Agent ++ objects_of_kind counts kind.Region) (objects_of_kind counts kind.Signal)
    ∙ ap (λ b. b || list_any test (objects_of_kind counts kind.Signal)) (list_any-append test (objects_of_kind counts kind.Agent) (objects_of_kind counts kind.Region)))
    ∙ by_kind on known is
  where
    by_kind : (on : Object) → (nat_lt 0 (number_of on) && nat_le (number_of on) (counts (kind_of on))) ≡ true → test on ≡ true → (((list_any test (objects_of_kind counts kind.Agent) || list_any test (objects_of_kind counts kind.Region)) || list_any test (objects_of_kind counts kind.Signal)) || list_any test (objects_of_kind counts kind.Kernel)) ≡ true
    by_kind (object.Agent a) known is = or-left ((list_any test (objects_of_kind counts kind.Agent) || list_any test (objects_of_kind counts kind.Region)) || list_any test (objects_of_kind counts kind.Signal)) (list_any test (objects_of_kind counts kind.Kernel)) (or-left (list_any test (objects_of_kind counts kind.Agent) || list_any test (objects_of_kind counts kind.Region)) (list_any test (objects_of_kind counts kind.Signal)) (or-left (list_any test (objects_of_kind counts kind.Agent)) (list_any test (objects_of_kind counts kind.Region)) (any-of_kind counts kind.Agent a.0 test known is)))
    by_kind (object.Region a) known is = or-left ((list_any test (objects_of_kind counts kind.Agent) || list_any test (objects_of_kind counts kind.Region)) || list_any test (objects_of_kind counts kind.Signal)) (list_any test (objects_of_kind counts kind.Kernel)) (or-left (list_any test (objects_of_kind counts kind.Agent) || list_any test (objects_of_kind counts kind.Region)) (list_any test (objects_of_kind counts kind.Signal)) (or-right (list_any test (objects_of_kind counts kind.Agent)) (list_any test (objects_of_kind counts kind.Region)) (any-of_kind counts kind.Region a.0 test known is)))
    by_kind (object.Signal a) known is = or-left ((list_any test (objects_of_kind counts kind.Agent) || list_any test (objects_of_kind counts kind.Region)) || list_any test (objects_of_kind counts kind.Signal)) (list_any test (objects_of_kind counts kind.Kernel)) (or-right (list_any test (objects_of_kind counts kind.Agent) || list_any test (objects_of_kind counts kind.Region)) (list_any test (objects_of_kind counts kind.Signal)) (any-of_kind counts kind.Signal a.0 test known is))
    by_kind (object.Kernel a) known is = or-right ((list_any test (objects_of_kind counts kind.Agent) || list_any test (objects_of_kind counts kind.Region)) || list_any test (objects_of_kind counts kind.Signal)) (list_any test (objects_of_kind counts kind.Kernel)) (any-of_kind counts kind.Kernel a.0 test known is)
