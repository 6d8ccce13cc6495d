-- A client's own calls are denied where the right that they need is not in force.
use Rattle.std.proofs.Common.{◌≡◌, ℕ, ℤ, List, length, refl, Bool, true, false, Err}
use Rattle.std.specs.Prelude.{◌&&◌}
use Rattle.aql_packet.specs.declared.ids.Address.{Address}
use Rattle.aql_packet.specs.declared.ids.AgentHandle.{AgentHandle}
use Rattle.aql_packet.specs.declared.ids.ClientId.{ClientId}
use Rattle.aql_packet.specs.declared.ids.SignalHandle.{SignalHandle}
use Rattle.policy.specs.Rules.{knows_client}
use Rattle.policy.specs.Policy.{region_lengths, rules_of}
use Rattle.policy.specs.declared.object.Object.TheVariants as object
use Rattle.policy.specs.declared.rights.Right.{Right}
use Rattle.policy.specs.declared.rights.Right.TheVariants as right
use Rattle.regions.specs.Memory.{is_within, region_of}
use Rattle.signals.specs.declared.operation.Condition.{Condition}
use Rattle.signals.specs.declared.operation.SignalOp.{SignalOp}
use Rattle.core_model.specs.declared.entry.Entry.{Entry}
use Rattle.core_model.specs.declared.event.Event.TheVariants.{Open, Call}
use Rattle.core_model.specs.declared.call.Call.TheVariants.{HostWrite, ChangeSignal}
use Rattle.core_model.specs.declared.event.Query.TheVariants as query
use Rattle.core_model.specs.declared.refusal.Refusal.TheVariants as refusal
use Rattle.core_model.specs.History.{Start}
use Rattle.core_model.specs.Grants.{in_force}
use Rattle.core_model.specs.Owed.{is_host_size, owed, refuses}
use Rattle.core_model.specs.Queries.{query_answer}
use Rattle.core_model.specs.Headline.{MayReach}

module _ (start : Start) (es : List Entry) (client : ClientId) (known : knows_client (rules_of start.policy) client ≡ true) where
  -- a range that the client may not reach
  out-of-reach : (one : Right) (address size : ℕ) → (MayReach start es client one address size → ⊥) →
      (is_within (region_lengths start.policy) address size && in_force start es client (object.Region (record { 0 = region_of address })) one) ≡ false
  out-of-reach one address size none = by_tests (is_within (region_lengths start.policy) address size) (in_force start es client (object.Region (record { 0 = region_of address })) one) refl refl
    where
      by_tests : (whole granted : Bool) → is_within (region_lengths start.policy) address size ≡ whole → in_force start es client (object.Region (record { 0 = region_of address })) one ≡ granted → (whole && granted) ≡ false
      by_tests true true lies has = absurd (none (record { lies_whole = lies; granted = has }))
      by_tests true false lies has = refl
      by_tests false granted lies has = refl

  pub write-denied : (address : Address) (bytes : List ℕ) → is_host_size (length bytes) ≡ true → (MayReach start es client right.Write address.0 (length bytes) → ⊥) → owed start es (Call (HostWrite client address bytes)) ≡ refuses (refusal.Denied right.Write)
  unfolding owed
  write-denied address bytes good none = rw (known, good, out-of-reach right.Write address.0 (length bytes) none) refl

  pub change-denied : (signal : SignalHandle) (operation : SignalOp) → in_force start es client (object.Signal signal) right.Change ≡ false → owed start es (Call (ChangeSignal client signal operation)) ≡ refuses (refusal.Denied right.Change)
  unfolding owed
  change-denied signal operation none = rw (known, none) refl

  pub opening-denied : (agent : AgentHandle) (size : ℕ) → in_force start es client (object.Agent agent) right.Use ≡ false → owed start es (Open client agent size) ≡ refuses (refusal.Denied right.Use)
  unfolding owed
  opening-denied agent size none = rw (known, none) refl

  pub read-denied : (address : Address) (size : ℕ) → is_host_size size ≡ true → (MayReach start es client right.Read address.0 size → ⊥) → query_answer start es (query.HostRead client address size) ≡ Err (refusal.Denied right.Read)
  unfolding query_answer
  read-denied address size good none = rw (known, good, out-of-reach right.Read address.0 size none) refl

  pub load-denied : (signal : SignalHandle) → in_force start es client (object.Signal signal) right.Wait ≡ false → query_answer start es (query.LoadSignal client signal) ≡ Err (refusal.Denied right.Wait)
  unfolding query_answer
  load-denied signal none = rw (known, none) refl

  pub test-denied : (signal : SignalHandle) (condition : Condition) (value : ℤ) → in_force start es client (object.Signal signal) right.Wait ≡ false → query_answer start es (query.TestSignal client signal condition value) ≡ Err (refusal.Denied right.Wait)
  unfolding query_answer
  test-denied signal condition value none = rw (known, none) refl
