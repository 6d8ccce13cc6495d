-- What granting adds to a history, and what is in force then.
use Rattle.std.proofs.Common.{◌≡◌, ℕ, suc, zero, ◌+◌, ◌<◌, ◌≤◌, ◌⊎◌, Bool, true, false, List, [], ◌∷◌, ◌++◌, refl, sym, ap, ◌∙◌, subst, inl, inr, ⊎_elim, arith, append_assoc}
use Rattle.std.specs.Prelude.{Result, Ok, Err, IfErr, OnOk, ⊤, ◌&&◌, ◌||◌, ◌==◌, nat_lt, nat_le, if◌then◌else◌}
use Rattle.std.proofs.lemmas.Bool.{and_from, and_parts, eq-eqb}
use Rattle.std.proofs.lemmas.Bool.Decides.{nat_tests}
use Rattle.std.proofs.lemmas.List.{append-nil}
use Rattle.aql_packet.specs.declared.ids.ClientId.{ClientId}
use Rattle.policy.specs.declared.object.Kind.{Kind}
use Rattle.policy.specs.declared.object.Kind.TheVariants as kind
use Rattle.policy.specs.declared.object.Object.{Object}
use Rattle.policy.specs.declared.object.Object.TheVariants as object
use Rattle.policy.specs.declared.rights.Right.{Right}
use Rattle.policy.specs.declared.rights.Right.TheVariants as right
use Rattle.policy.specs.declared.rights.Rights.{Rights}
use Rattle.policy.specs.Object.{kind_of, number_of, object_of, same_object}
use Rattle.policy.specs.Pairs.{is_one_of, same_pair}
use Rattle.policy.specs.Policy.{Declared, rules_of}
use Rattle.policy.specs.Rights.{has}
use Rattle.policy.proofs.PairLemmas.{same_object_itself}
use Rattle.policy.specs.Rules.{are_allowed, count, knows_client, knows_object, rows_allow}
use Rattle.core_model.specs.declared.call.Call.TheVariants.{Grant, Revoke, Stop, Close, RunNext, Poll, Finish, HostWrite, ChangeSignal}
use Rattle.core_model.specs.declared.entry.Entry.{Entry}
use Rattle.core_model.specs.declared.event.Event.{Event}
use Rattle.core_model.specs.declared.event.Event.TheVariants.{Open, Take, Reload, Call}
use Rattle.core_model.specs.declared.outcome.Outcome.{Outcome}
use Rattle.core_model.specs.declared.outcome.Outcome.TheVariants as outcome
use Rattle.core_model.specs.declared.refusal.Refusal.{Refusal}
use Rattle.core_model.specs.declared.refusal.Refusal.TheVariants as refusal
use Rattle.core_model.specs.Grants.{in_force, in_force_after}
use Rattle.core_model.specs.History.{History, Start, beginning}
use Rattle.core_model.specs.Legal.{Meets, as_accepted, due, entries_after, entry_of, history_after, lacks_room, reply_of, within_room}
use Rattle.core_model.specs.Owed.{Owed, refuses, answers, enters, owed}
use Rattle.core_model.specs.Policies.{policy_at}
use Rattle.core_model.specs.Refusals.{refuse_unless}
use Rattle.core_model.proofs.More.{in_force-more}
use Rattle.client_threads.specs.Sections.{Appends, Follows}
use Rattle.client_threads.proofs.Sections.{appends_follow, none_more}
use Rattle.threads_load.specs.Grantings.{AddsGrants, AllGrant, HasAllAllowed, HasAllowed, HasAllowedOn, HasAllowedOnAll, IsGrant, IsRefusedGrant}

-- ---- what is added

pub none_adds : (h : History) → AddsGrants h h
none_adds h = record { more = []; grants = tt; history = none_more h }

all_grant : (policy : Declared) (one more : List Entry) → AllGrant policy one → AllGrant policy more → AllGrant policy (one ++ more)
all_grant policy [] more a b = b
all_grant policy (e ∷ es) more a b = (a.0, all_grant policy es more a.1 b)

pub more_adds : (a b c : History) → AddsGrants a b → AddsGrants b c → AddsGrants a c
more_adds a b c p q = record {
  more = p.more ++ q.more;
  grants = all_grant a.origin.policy p.more q.more p.grants (subst (λ (d : Declared). AllGrant d q.more) (ap (λ (h : History). h.origin.policy) p.history) q.grants);
  history = q.history ∙ ap (λ (h : History). record h { entries = h.entries ++ q.more }) p.history ∙ ap (λ (es : List Entry). record a { entries = es }) (append_assoc a.entries p.more q.more);
}

pub adds_follow : (a b : History) → AddsGrants a b → Follows a b
adds_follow a b p = appends_follow a b (record { more = p.more; history = p.history })

adds_by : (old : History) (event : Event) → IsGrant old.origin.policy event → (owing : Owed) → AddsGrants old (history_after old event owing)
adds_by old event is (refuses why) = none_adds old
adds_by old event is (answers told) = none_adds old
adds_by old event is (enters told effects) = record { more = entry_of event told effects ∷ []; grants = (is, tt); history = refl }

pub grant_adds : (client : ClientId) (on : Object) (rights : Rights) (old new : History) (reply : Result Outcome Refusal) → Meets (Call (Grant client on rights)) old new reply
    → ((one : Right) → has rights one ≡ rows_allow old.origin.policy.rows client on one) → AddsGrants old new
grant_adds client on rights old new reply m are =
    subst (AddsGrants old) (sym m.history_is) (adds_by old (Call (Grant client on rights)) are (due old (Call (Grant client on rights))))

-- ---- what is in force

same_policy : (a b : History) → AddsGrants a b → b.origin.policy ≡ a.origin.policy
same_policy a b p = ap (λ (h : History). h.origin.policy) p.history

-- an entry of a grant leaves in force what was
kept_by : (policy : Declared) (client : ClientId) (on : Object) (one : Right) (before : Bool) (event : Event) → IsGrant policy event → before ≡ true → in_force_after client on one before event ≡ true
kept_by policy client on one before (Call (Grant c o rights)) is so = ap (λ (b : Bool). b || is_one_of client on one c o rights) so
kept_by policy client on one before (Call (Revoke c o rights)) is so = absurd is
kept_by policy client on one before (Call (Stop q)) is so = absurd is
kept_by policy client on one before (Call (Close q)) is so = absurd is
kept_by policy client on one before (Call (RunNext q id)) is so = absurd is
kept_by policy client on one before (Call (Poll q id)) is so = absurd is
kept_by policy client on one before (Call (Finish q id)) is so = absurd is
kept_by policy client on one before (Call (HostWrite c a bs)) is so = absurd is
kept_by policy client on one before (Call (ChangeSignal c s o)) is so = absurd is
kept_by policy client on one before (Open c a s) is so = absurd is
kept_by policy client on one before (Take q id bytes) is so = absurd is
kept_by policy client on one before (Reload rows) is so = absurd is

kept : (policy : Declared) (start : Start) (es more : List Entry) (client : ClientId) (on : Object) (one : Right) → AllGrant policy more → in_force start es client on one ≡ true → in_force start (es ++ more) client on one ≡ true
kept policy start es [] client on one all so = subst (λ (now : List Entry). in_force start now client on one ≡ true) (sym (append-nil es)) so
kept policy start es (e ∷ more) client on one all so =
    subst (λ (now : List Entry). in_force start now client on one ≡ true) (append_assoc es (e ∷ []) more)
    (kept policy start (es ++ e ∷ []) more client on one all.1
    (in_force-more start es e client on one ∙ kept_by policy client on one (in_force start es client on one) e.event all.0 so))

-- what is in force stays so
pub has_still : (a b : History) (client : ClientId) (on : Object) → AddsGrants a b → HasAllowed a client on → HasAllowed b client on
has_still a b client on p has_it one allowed =
    subst (λ (h : History). in_force (beginning h) h.entries client on one ≡ true) (sym p.history)
    (kept a.origin.policy (beginning a) a.entries p.more client on one p.grants
    (has_it one (ap (λ (d : Declared). rows_allow d.rows client on one) (sym (same_policy a b p)) ∙ allowed)))

-- ---- a grant

module _ (old : History) (client : ClientId) (on : Object) (rights : Rights) where
  abbrev event : Event
  event = Call (Grant client on rights)

  abbrev by_tests : (a b c : Bool) → Owed
  by_tests a b c =
      refuse_unless a (refuses refusal.UnknownClient)
      (refuse_unless b (refuses refusal.UnknownObject)
      (refuse_unless c (refuses refusal.NotAllowed)
      (enters outcome.Accepted [])))

  owed_is : owed (beginning old) old.entries event ≡ by_tests (knows_client (rules_of (beginning old).policy) client) (knows_object (rules_of (beginning old).policy) on) (are_allowed (rules_of (policy_at (beginning old) old.entries)) client on rights)
  unfolding owed
  owed_is = refl

  -- what is owed is refused or entered
  abbrev IsEither : Owed → Type 0
  IsEither (refuses why) = ⊤
  IsEither (answers told) = ⊥
  IsEither (enters told effects) = ⊤

  either_room : (full : Bool) → IsEither (if full then refuses refusal.AuditFull else enters outcome.Accepted [])
  either_room true = tt
  either_room false = tt

  either_tests : (a b c : Bool) → IsEither (within_room old event (by_tests a b c))
  either_tests false b c = tt
  either_tests true false c = tt
  either_tests true true false = tt
  either_tests true true true = either_room (lacks_room old (entry_of event outcome.Accepted []))

  either : IsEither (due old event)
  either =
      subst (λ (o : Owed). IsEither (within_room old event o)) (sym owed_is)
      (either_tests (knows_client (rules_of (beginning old).policy) client) (knows_object (rules_of (beginning old).policy) on) (are_allowed (rules_of (policy_at (beginning old) old.entries)) client on rights))

  own : (one : Right) → has rights one ≡ true → is_one_of client on one client on rights ≡ true
  own one so = and_from _ _ (and_from _ _ (eq-eqb client.0 client.0 refl) (same_object_itself on)) so

  granted : (one : Right) → has rights one ≡ true → (before : Bool) → in_force_after client on one before event ≡ true
  granted one so true = refl
  granted one so false = own one so

  has_by : (owing : Owed) → IsEither owing → Ok outcome.Accepted ≡ reply_of owing → (one : Right) → has rights one ≡ true
      → in_force (beginning old) (entries_after old.entries event owing) client on one ≡ true
  has_by (refuses why) e told one so = absurd (cc (told))
  has_by (answers o) e told one so = absurd e
  has_by (enters o effects) e told one so =
      in_force-more (beginning old) old.entries (entry_of event o effects) client on one ∙ granted one so (in_force (beginning old) old.entries client on one)

  -- a grant that is made puts in force what it grants
  made_has : (new : History) → Meets event old new (Ok outcome.Accepted) → (one : Right) → has rights one ≡ true → in_force (beginning new) new.entries client on one ≡ true
  made_has new m one so =
      subst (λ (h : History). in_force (beginning h) h.entries client on one ≡ true) (sym m.history_is)
      (has_by (due old event) either m.reply_is one so)

  pub grant_has : (new : History) (result : Result (Unit {0}) Refusal) → Meets event old new (as_accepted result)
      → ((one : Right) → has rights one ≡ rows_allow old.origin.policy.rows client on one) → OnOk result (HasAllowed new client on)
  grant_has new (Ok done) m are = λ one allowed.
      made_has new m one (are one ∙ (ap (λ (d : Declared). rows_allow d.rows client on one) (sym (same_policy old new (grant_adds client on rights old new (Ok outcome.Accepted) m are))) ∙ allowed))
  grant_has new (Err why) m are = tt

  refused_by : (why : Refusal) (owing : Owed) → IsEither owing → Err why ≡ reply_of owing → (new : History) → new ≡ history_after old event owing → new ≡ old
  refused_by why (refuses w) e told new is = is
  refused_by why (answers o) e told new is = absurd e
  refused_by why (enters o effects) e told new is = absurd (cc (told))

  pub grant_refused : (new : History) (result : Result (Unit {0}) Refusal) → Meets event old new (as_accepted result)
      → ((one : Right) → has rights one ≡ rows_allow old.origin.policy.rows client on one) → IfErr result (IsRefusedGrant new)
  grant_refused new (Ok done) m are = tt
  grant_refused new (Err why) m are =
      let same : new ≡ old = refused_by why (due old event) either m.reply_is new m.history_is in
      subst (λ (h : History). IsRefusedGrant h why) (sym same)
      (record { client = client; on = on; rights = rights; allowed = are; met = subst (λ (h : History). Meets event old h (Err why)) same m })

-- no right is in the empty set
empty_has : (rights : Rights) (one : Right) → rights.0 ≡ 0 → has rights one ≡ false
empty_has rights right.Use none = rw none refl
empty_has rights right.Read none = rw none refl
empty_has rights right.Write none = rw none refl
empty_has rights right.Wait none = rw none refl
empty_has rights right.Change none = rw none refl
empty_has rights right.Launch none = rw none refl

-- where nothing is allowed all of it is in force
pub none_has : (h : History) (client : ClientId) (on : Object) (rights : Rights) → ((one : Right) → has rights one ≡ rows_allow h.origin.policy.rows client on one) → rights.0 ≡ 0 → HasAllowed h client on
none_has h client on rights are none one allowed =
    let no : has rights one ≡ false = empty_has rights one none in
    let so : has rights one ≡ true = are one ∙ allowed in
    absurd (cc)

-- ---- objects and clients in turn

pub has_on_still : (a b : History) (client : ClientId) (k : Kind) (most : ℕ) → AddsGrants a b → HasAllowedOn a client k most → HasAllowedOn b client k most
has_on_still a b client k most p has_them number low high = has_still a b client (object_of k number) p (has_them number low high)

pub has_on_none : (h : History) (client : ClientId) (k : Kind) → HasAllowedOn h client k 0
has_on_none h client k number low high = absurd (omega (arith, low, high))

-- one object more
pub has_on_more : (a b : History) (client : ClientId) (k : Kind) (before : ℕ) → AddsGrants a b → HasAllowedOn a client k before → HasAllowed b client (object_of k (before + 1)) → HasAllowedOn b client k (before + 1)
has_on_more a b client k before p has_them next number low high = by_order (nat_le number before) refl
  where
    by_order : (t : Bool) → nat_le number before ≡ t → HasAllowed b client (object_of k number)
    by_order true is = has_on_still a b client k before p has_them number low (grind (arith, nat_tests))
    by_order false is = let at : before + 1 ≡ number = grind (arith, nat_tests) in subst (λ n. HasAllowed b client (object_of k n)) at next

-- of all kinds
pub has_each : (a b c d : History) (client : ClientId) → AddsGrants a b → AddsGrants b c → AddsGrants c d
    → HasAllowedOn a client kind.Agent (count (rules_of a.origin.policy) kind.Agent)
    → HasAllowedOn b client kind.Region (count (rules_of b.origin.policy) kind.Region)
    → HasAllowedOn c client kind.Signal (count (rules_of c.origin.policy) kind.Signal)
    → HasAllowedOn d client kind.Kernel (count (rules_of d.origin.policy) kind.Kernel)
    → HasAllowedOnAll d client
has_each a b c d client p q r agents regions signals kernels on known =
    by_kind on (and_parts (nat_lt 0 (number_of on)) _ known)
  where
    kinds : Declared → Kind → ℕ
    kinds policy k = count (rules_of policy) k

    still : (h : History) (k : Kind) → AddsGrants h d → HasAllowedOn h client k (kinds h.origin.policy k) → HasAllowedOn d client k (kinds d.origin.policy k)
    still h k s has_them =
        subst (λ n. HasAllowedOn d client k n) (ap (λ (x : Declared). kinds x k) (sym (same_policy h d s))) (has_on_still h d client k (kinds h.origin.policy k) s has_them)

    b_d : AddsGrants b d
    b_d = more_adds b c d q r

    by_kind : (o : Object) → (nat_lt 0 (number_of o) ≡ true) × (nat_le (number_of o) (kinds d.origin.policy (kind_of o)) ≡ true) → HasAllowed d client o
    by_kind (object.Agent h) is = still a kind.Agent (more_adds a b d p b_d) agents h.0 (grind (arith, nat_tests, is.0)) (grind (arith, nat_tests, is.1))
    by_kind (object.Region h) is = still b kind.Region b_d regions h.0 (grind (arith, nat_tests, is.0)) (grind (arith, nat_tests, is.1))
    by_kind (object.Signal h) is = still c kind.Signal r signals h.0 (grind (arith, nat_tests, is.0)) (grind (arith, nat_tests, is.1))
    by_kind (object.Kernel h) is = kernels h.0 (grind (arith, nat_tests, is.0)) (grind (arith, nat_tests, is.1))

-- the first clients, so many, have all that they are allowed
abbrev pub HasAllowedFor : History → ℕ → Type 0
HasAllowedFor h most = (client : ClientId) → 0 < client.0 → client.0 ≤ most → HasAllowedOnAll h client

pub has_all_still : (a b : History) (client : ClientId) → AddsGrants a b → HasAllowedOnAll a client → HasAllowedOnAll b client
has_all_still a b client p has_them on known =
    has_still a b client on p (has_them on (ap (λ (d : Declared). knows_object (rules_of d) on) (sym (same_policy a b p)) ∙ known))

pub has_for_none : (h : History) → HasAllowedFor h 0
has_for_none h client low high = absurd (omega (arith, low, high))

pub has_for_more : (a b : History) (before : ℕ) → AddsGrants a b → HasAllowedFor a before → HasAllowedOnAll b (record { 0 = before + 1 }) → HasAllowedFor b (before + 1)
has_for_more a b before p has_them next client low high = by_order (nat_le client.0 before) refl
  where
    by_order : (t : Bool) → nat_le client.0 before ≡ t → HasAllowedOnAll b client
    by_order true is = has_all_still a b client p (has_them client low (grind (arith, nat_tests)))
    by_order false is = let at : before + 1 ≡ client.0 = grind (arith, nat_tests) in subst (λ n. HasAllowedOnAll b (record { 0 = n })) at next

pub has_for_all : (a b : History) (most : ℕ) → AddsGrants a b → most ≡ (rules_of a.origin.policy).clients → HasAllowedFor b most → HasAllAllowed b
has_for_all a b most p is has_them client known =
    let parts = and_parts (nat_lt 0 client.0) _ known in
    let same : (rules_of b.origin.policy).clients ≡ most = ap (λ (d : Declared). (rules_of d).clients) (same_policy a b p) ∙ sym is in
    has_them client (grind (arith, nat_tests, parts.0)) (grind (arith, nat_tests, parts.1, same))

-- the same, of what the last of four calls came to
pub has_each_if : (result : Result (Unit {0}) Refusal) (a b c d : History) (client : ClientId) → AddsGrants a b → AddsGrants b c → AddsGrants c d
    → HasAllowedOn a client kind.Agent (count (rules_of a.origin.policy) kind.Agent)
    → HasAllowedOn b client kind.Region (count (rules_of b.origin.policy) kind.Region)
    → HasAllowedOn c client kind.Signal (count (rules_of c.origin.policy) kind.Signal)
    → OnOk result (HasAllowedOn d client kind.Kernel (count (rules_of d.origin.policy) kind.Kernel))
    → OnOk result (HasAllowedOnAll d client)
has_each_if (Ok done) a b c d client p q r agents regions signals kernels = has_each a b c d client p q r agents regions signals kernels
has_each_if (Err why) a b c d client p q r agents regions signals kernels = tt
