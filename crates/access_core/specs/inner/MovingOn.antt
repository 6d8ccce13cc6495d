-- How what a history begins from moves on by entries, in place (own).
use Rattle.std.specs.Prelude.{◌≡◌, ◌≤◌, ℕ, All, List, Ok, None, false, fold, length, slice_get, take}
use Rattle.std.specs.List.{Contains}
use Rattle.aql_packet.specs.Ids.{same_packet}
use Rattle.aql_packet.specs.declared.ids.PacketId.{PacketId}
use Rattle.aql_packet.specs.declared.ids.QueueId.{QueueId}
use Rattle.core_model.specs.History.{packet_in}
use Rattle.core_model.specs.declared.origin.PacketOrigin.{PacketOrigin}
use Rattle.core_model.specs.declared.limits.TheConstants.{ALL_IN_FLIGHT}
use Rattle.access_core.specs.declared.argument_blocks.ArgumentBlock.{ArgumentBlock}
use Rattle.access_core.specs.declared.fresh.Fresh.{Fresh}
use Rattle.access_core.specs.declared.queue.Queue.{Queue}
use Rattle.access_core.specs.inner.Origins.{AreInOrder}
use Rattle.access_core.specs.inner.Ready.{Fits, HasLists, WasTold, later}
use Rattle.aql_packet.specs.declared.ids.ClientId.{ClientId}
use Rattle.kernel_check.specs.Programs.{Program}
use Rattle.policy.specs.declared.object.Object.{Object}
use Rattle.policy.specs.declared.rights.Right.{Right}
use Rattle.policy.specs.Policy.{region_lengths}
use Rattle.aql_packet.specs.Memory.{are_region_lengths}
use Rattle.std.specs.Prelude.{true}
use Rattle.regions.specs.Memory.{lengths_of}
use Rattle.grants.specs.Ledger.{IsBlockedBy, Ledger, RevokeAnswers, SameHolds, grant_due, rules_in}
use Rattle.grants.specs.Ledger as ledger
use Rattle.core_model.specs.declared.call.Call.TheVariants.{Grant, Revoke}
use Rattle.core_model.specs.declared.entry.Entry.{Entry}
use Rattle.core_model.specs.declared.event.Event.{Event}
use Rattle.core_model.specs.declared.event.Event.TheVariants.{Call, Reload}
use Rattle.core_model.specs.declared.origin.Origin.{Origin}
use Rattle.core_model.specs.Grants.{in_force_after}
use Rattle.core_model.specs.History.{begin, effects_of}
use Rattle.core_model.specs.Legal.{IsLegal}
use Rattle.core_model.specs.Memory.{signals_after}
use Rattle.core_model.specs.Policies.{rows_after}
use Rattle.access_core.specs.inner.Cached.{IsKeptStart}
use Rattle.access_core.specs.inner.InPlace.{IsChanged}

-- what grants have to be for an event to be followed: a grant is allowed, and no packet stands against a revocation or a reload
abbrev pub MayFollow : Ledger → Event → Type 0
MayFollow grants (Call (Grant client on rights)) = grant_due grants client on rights ≡ Ok tt
MayFollow grants (Call (Revoke client on rights)) = RevokeAnswers grants client on rights (Ok tt)
MayFollow grants (Reload rows) = IsBlockedBy grants rows None
MayFollow grants _ = Unit {0}

-- The grants followed an event: what is in force, and by which rows.
pub record Follows (old new : Ledger) (event : Event) : Type 0 where
  pub granted : (client : ClientId) (on : Object) (right : Right) → ledger.in_force new client on right ≡ in_force_after client on right (ledger.in_force old client on right) event
  pub rules : rules_in new ≡ record (rules_in old) { rows = rows_after (rules_in old).rows event }
  pub same_holds : SameHolds old new

-- What a history begins from moved on by an entry: the rights in force, memory and signals, and nothing else.
pub record StepsOn (old new : Origin) (entry : Entry) : Type 0 where
  pub grants : Follows old.grants new.grants entry.event
  pub memory : IsChanged old.memory entry.effects new.memory
  pub lengths : lengths_of new.memory ≡ lengths_of old.memory
  pub signals : new.signals ≡ fold signals_after old.signals entry.effects
  pub others : new ≡ record old { grants = new.grants; memory = new.memory; signals = new.signals }

-- It moved on by entries, one after another.
pub record MovesOn (old : Origin) (entries : List Entry) (new : Origin) : Type 0 where
  pub granted : (client : ClientId) (on : Object) (right : Right)
      → ledger.in_force new.grants client on right ≡ fold (λ before entry. in_force_after client on right before entry.event) (ledger.in_force old.grants client on right) entries
  pub rules : rules_in new.grants ≡ record (rules_in old.grants) { rows = fold (λ before entry. rows_after before entry.event) (rules_in old.grants).rows entries }
  pub same_holds : SameHolds old.grants new.grants
  pub memory : IsChanged old.memory (effects_of entries) new.memory
  pub lengths : lengths_of new.memory ≡ lengths_of old.memory
  pub signals : new.signals ≡ fold signals_after old.signals (effects_of entries)
  pub others : new ≡ record old { grants = new.grants; memory = new.memory; signals = new.signals }

-- Entries by which a start can move on: they follow lawfully from it.
pub record MayMove (start : Origin) (entries : List Entry) : Type 0 where
  pub kernels : List Program
  pub legal : IsLegal (begin kernels start) entries
  pub kept : IsKeptStart start
  pub fit : are_region_lengths (region_lengths start.policy) ≡ true

-- ---- what is told of packets

-- at this index a packet is told of, and at none before it; or it is that behind the last, and nowhere is
abbrev pub IsIndexIn : List PacketOrigin → QueueId → PacketId → ℕ → Type 0
IsIndexIn packets queue id index = (slice_get packets index ≡ packet_in packets queue id) × (index ≤ length packets)
    × All (λ (p : PacketOrigin). same_packet p.flying.queue p.flying.id queue id ≡ false) (take index packets)

-- What is told of packets in flight can be told anew: these are their argument blocks, so many, each of another packet; what was told of
-- those that were launched before a number is there, and for the others there is room.
pub record MayTell (queues : List Queue) (count told : ℕ) (packets : List PacketOrigin) (fresh : Fresh) (blocks : List ArgumentBlock) : Type 0 where
  pub in_order : AreInOrder queues count blocks
  pub few : count ≤ ALL_IN_FLIGHT
  pub apart : (one other : ArgumentBlock) → Contains blocks one → Contains blocks other → same_packet one.queue one.packet other.queue other.packet ≡ true → one.number ≡ other.number
  pub were_told : All (WasTold told packets) blocks
  pub fit : All (Fits fresh) blocks
  pub room : HasLists fresh (length (later told blocks))
