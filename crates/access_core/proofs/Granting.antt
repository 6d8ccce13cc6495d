-- What a grant and a revocation are owed, by the grants that are cached.
use Rattle.std.proofs.Common.{◌≡◌, ◌&&◌, sym, ◌∙◌, ap, Bool, false, Option, Some, None, Ok, Err, [], Result, if◌then◌else◌, not, arith}
use Rattle.grants.specs.declared.refusal.GrantRefusal.{GrantRefusal as Why}
use Rattle.core_model.specs.Owed.{owed}
use Rattle.core_model.specs.Policies.{policy_at}
use Rattle.access_core.proofs.Calls.{due-by}
use Rattle.access_core.proofs.HeldRights.{any-none, holder-history}
use Rattle.grants.specs.Ledger.{is_holder}
use Rattle.grants.proofs.HoldLemmas.{first_same}
use Rattle.access_core.proofs.Least.{passes, least-none, least-first}
use Rattle.access_core.proofs.Terms.{Call, ClientId, Grant, History, InFlight, Inside, IsCached, IsFirstTo, Object, PacketId, QueueId, Revoke, RevokeAnswers, Rights}
use Rattle.access_core.proofs.Terms.{Rules, are_allowed, due, enters, flight, grant_due, history_of, holds_one_of, is_full}
use Rattle.access_core.proofs.Terms.{all_rights, has, has_block, list_any, lists_one, knows_object, knows_client, refusal_of, refuse_unless, refuses, rules_in, rules_of, start_of}
use Rattle.policy.specs.Rules as rules_kept
use Rattle.grants.specs.declared.refusal.GrantRefusal.TheVariants as why
use Rattle.core_model.specs.declared.outcome.Outcome.TheVariants as outcome
use Rattle.core_model.specs.declared.refusal.Refusal.TheVariants as refusal

-- what is due to a grant, by whether the client and the object are declared, and the rights allowed
abbrev due_of : Bool → Bool → Bool → Result (Unit {0}) Why
due_of client object rights =
    if not client then Err why.UnknownClient else if not object then Err why.UnknownObject else if not rights then Err why.NotAllowed else Ok tt

module _ (a : Inside) (kept : IsCached a) (client : ClientId) (on : Object) (rights : Rights) where
  rules_is : rules_in a.grants ≡ rules_of (policy_at (start_of a) a.audit.items)
  rules_is = kept.rules

  due-is : grant_due a.grants client on rights ≡ due_of (knows_client (rules_of (policy_at (start_of a) a.audit.items)) client) (knows_object (rules_of (policy_at (start_of a) a.audit.items)) on) (are_allowed (rules_of (policy_at (start_of a) a.audit.items)) client on rights)
  due-is = ap (λ (rules : Rules). due_of (knows_client rules client) (knows_object rules on) (rules_kept.are_allowed rules client on rights)) rules_is

  -- what grants say is due is what is owed
  pub grant-refused : (r : Why) → Err r ≡ grant_due a.grants client on rights → owed (start_of a) a.audit.items (Call (Grant client on rights)) ≡ refuses (refusal_of r)
  unfolding owed
  grant-refused r due = by_tests (knows_client (rules_of (policy_at (start_of a) a.audit.items)) client) (knows_object (rules_of (policy_at (start_of a) a.audit.items)) on) (are_allowed (rules_of (policy_at (start_of a) a.audit.items)) client on rights) (due ∙ due-is)
    where
      by_tests : (c o s : Bool) → Err r ≡ due_of c o s
          → refuse_unless c (refuses refusal.UnknownClient) (refuse_unless o (refuses refusal.UnknownObject) (refuse_unless s (refuses refusal.NotAllowed) (enters outcome.Accepted [])))
          ≡ refuses (refusal_of r)
      by_tests c o s h4 = grind arith

  grant-owed : Ok tt ≡ grant_due a.grants client on rights → owed (start_of a) a.audit.items (Call (Grant client on rights)) ≡ enters outcome.Accepted []
  unfolding owed
  grant-owed due = by_tests (knows_client (rules_of (policy_at (start_of a) a.audit.items)) client) (knows_object (rules_of (policy_at (start_of a) a.audit.items)) on) (are_allowed (rules_of (policy_at (start_of a) a.audit.items)) client on rights) (due ∙ due-is)
    where
      by_tests : (c o s : Bool) → Ok tt ≡ due_of c o s
          → refuse_unless c (refuses refusal.UnknownClient) (refuse_unless o (refuses refusal.UnknownObject) (refuse_unless s (refuses refusal.NotAllowed) (enters outcome.Accepted [])))
          ≡ enters outcome.Accepted []
      by_tests c o s h4 = grind arith

  -- so it is due its entry, where there is room
  pub grant-due : (old : History) → history_of a ≡ old → Ok tt ≡ grant_due a.grants client on rights → (full : Bool) → is_full old ≡ full
      → due old (Call (Grant client on rights)) ≡ (if full then refuses refusal.AuditFull else enters outcome.Accepted [])
  grant-due old seen_as may full is = due-by a old seen_as (Call (Grant client on rights)) _ (grant-owed may) ∙ ap (λ b. if b then refuses refusal.AuditFull else enters outcome.Accepted []) is

  -- whether a packet in flight holds, by the history
  abbrev holding : InFlight → Bool
  holding f = holds_one_of (start_of a) a.audit.items client on rights f

  same_test : (queue : QueueId) (id : PacketId) → has_block (lists_one client on rights) kept.blocks queue id ≡ passes holding (flight (start_of a) a.audit.items) queue id
  same_test = holder-history (start_of a) a.audit.items kept.legal client on rights kept.blocks kept.held

  first-test : (o : Option (QueueId × PacketId)) → IsFirstTo (has_block (lists_one client on rights) kept.blocks) o → IsFirstTo (passes holding (flight (start_of a) a.audit.items)) o
  first-test o = first_same _ _ o (λ queue id. sym (same_test queue id))

  -- a revocation that grants let pass, and no packet stands against, is owed its entry
  revoke-owed : RevokeAnswers a.grants client on rights (Ok tt) → IsFirstTo (has_block (lists_one client on rights) kept.blocks) None
      → owed (start_of a) a.audit.items (Call (Revoke client on rights)) ≡ enters outcome.Accepted []
  unfolding owed
  revoke-owed answers none = grind (arith, least-none holding (flight (start_of a) a.audit.items) (first-test None none))

  pub revoke-due : (old : History) → history_of a ≡ old → RevokeAnswers a.grants client on rights (Ok tt) → IsFirstTo (has_block (lists_one client on rights) kept.blocks) None
      → (full : Bool) → is_full old ≡ full
      → due old (Call (Revoke client on rights)) ≡ (if full then refuses refusal.AuditFull else enters outcome.Accepted [])
  revoke-due old seen_as may none full is = due-by a old seen_as (Call (Revoke client on rights)) _ (revoke-owed may none)
      ∙ ap (λ b. if b then refuses refusal.AuditFull else enters outcome.Accepted []) is

  -- one that a packet stands against is refused, with the least of them
  pub revoke-held : RevokeAnswers a.grants client on rights (Ok tt) → (queue : QueueId) (id : PacketId)
      → IsFirstTo (has_block (lists_one client on rights) kept.blocks) (Some (queue, id))
      → owed (start_of a) a.audit.items (Call (Revoke client on rights)) ≡ refuses (refusal.Busy queue id)
  unfolding owed
  revoke-held answers queue id first = grind (arith, least-first holding (flight (start_of a) a.audit.items) queue id (first-test (Some (queue, id)) first))

  -- no packet holds by the grants
  none-holds : (queue : QueueId) (id : PacketId) → is_holder a.grants client on rights queue id ≡ false
  none-holds queue id = (λ i. list_any (λ r. has rights r && kept.unheld queue id client on r i) all_rights) ∙ any-none (has rights) all_rights

  -- one that grants refuse is owed the refusal
  pub revoke-refused : (r : Why) → RevokeAnswers a.grants client on rights (Err r) → owed (start_of a) a.audit.items (Call (Revoke client on rights)) ≡ refuses (refusal_of r)
  unfolding owed
  revoke-refused why.UnknownClient answers = grind arith
  revoke-refused why.UnknownObject answers = grind arith
  revoke-refused why.NotAllowed answers = absurd answers
  revoke-refused (why.Busy queue id) answers = let held = answers.2.0 in let none = none-holds queue id in absurd cc
