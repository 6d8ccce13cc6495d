-- Groups that ran: what their writes leave, and how many there can be.
use Rattle.access_core.proofs.Terms.{list_any, releases}
use Rattle.core_model.specs.History.{beginning}
use Rattle.std.proofs.Common.{◌≡◌, ℕ, ◌+◌, List, ◌++◌, refl, Bool, true, false, ℤ, fold, nat_le, arith}
use Rattle.std.proofs.Common.{if◌then◌else◌}
use Rattle.access_core.proofs.Terms.{Call, Done, Effect, Entry, GivenAtLaunch, History, InFlight, Inside, IsInPlace, PacketId, Place, Progress, QueueId, Ran, Refusal, RefusedAt, RunNext}
use Rattle.access_core.proofs.Terms.{Start}
use Rattle.access_core.proofs.Terms.{agent_writes, answers, due, enters, flight_after_effect, function_of, function_writes, given_at_launch, history_of, is_full}
use Rattle.access_core.proofs.Terms.{owed_group, refuses, result_writes, signals_after, start_of, write_of}
use Rattle.aql_packet.specs.declared.packet.AgentDispatch.{AgentDispatch}
use Rattle.core_model.specs.Owed.{owed}
use Rattle.aql_packet.specs.declared.packet.Packet.TheVariants as packet
use Rattle.access_core.proofs.Calls.{due-as}
use Rattle.access_core.proofs.QueueAt.{IsAdvance}
use Rattle.core_model.specs.declared.outcome.Outcome.TheVariants as outcome
use Rattle.core_model.specs.declared.refusal.Refusal.TheVariants as refusal

-- ---- writes change neither signals nor what is in flight

-- changes that leave signals and packets in flight as they are
pub record OnlyWrites (effects : List Effect) : Type 0 where
  pub flight : (flying : List InFlight) → fold flight_after_effect flying effects ≡ flying
  pub stays : (queue : QueueId) (id : PacketId) → list_any (releases queue id) effects ≡ false
  pub signals : (values : List ℤ) → fold signals_after values effects ≡ values

pub agent-writes : (start : Start) (entries : List Entry) (dispatch : AgentDispatch) → OnlyWrites (agent_writes start entries dispatch)
agent-writes start entries dispatch = grind arith

-- how far a packet has come once a group more has run
abbrev pub one_group : Progress → Progress
one_group so_far = record so_far { groups_run = so_far.groups_run + 1 }

-- by the entry of a group the packet comes one group further
pub run-advances : (queue : QueueId) (id : PacketId) (start : Start) (entries : List Entry) (dispatch : AgentDispatch)
    → IsAdvance queue id one_group (Call (RunNext queue id)) (outcome.Worked (Ran 0 0)) (agent_writes start entries dispatch)
run-advances queue id start entries dispatch = record {
  launches = refl;
  progress = λ q i so_far. refl;
  stays = (agent-writes start entries dispatch).stays;
  releases = (agent-writes start entries dispatch).flight;
  views = λ m v places. refl;
}

-- ---- what is kept, and what is owed by it

module _ (a : Inside) (old : History) (seen_as : history_of a ≡ old) where
  pub pieces-inside : (dispatch : AgentDispatch) (target place : ℕ) (bytes result : List ℕ) → write_of target bytes ≡ function_writes (beginning old) old.entries (function_of dispatch)
      → write_of place result ≡ result_writes (beginning old) old.entries dispatch →
      write_of target bytes ++ write_of place result ≡ agent_writes (start_of a) a.audit.items dispatch
  pieces-inside dispatch target place bytes result first second = grind arith

-- ---- what the group of an agent dispatch is due

module _ (h : History) (queue : QueueId) (id : PacketId) (place : Place) (found : IsInPlace h queue id place) (d : AgentDispatch) (packet_is : place.packet ≡ packet.Agent d) where
  agent-owed : (ran : Bool) → nat_le 1 place.progress.groups_run ≡ ran → owed (beginning h) h.entries (Call (RunNext queue id))
      ≡ (if ran then answers (outcome.Worked Done) else enters (outcome.Worked (Ran 0 0)) (agent_writes (beginning h) h.entries d))
  unfolding owed
  agent-owed ran is = grind arith

  pub agent-done : nat_le 1 place.progress.groups_run ≡ true → due h (Call (RunNext queue id)) ≡ answers (outcome.Worked Done)
  agent-done ran = due-as h (Call (RunNext queue id)) (answers (outcome.Worked Done)) (agent-owed true ran)

  pub agent-due : nat_le 1 place.progress.groups_run ≡ false → (full : Bool) → is_full h ≡ full
      → due h (Call (RunNext queue id)) ≡ (if full then refuses refusal.AuditFull else enters (outcome.Worked (Ran 0 0)) (agent_writes (beginning h) h.entries d))
  agent-due ran full room = grind (arith, agent-owed false ran)

-- barrier packets have no groups
pub no-groups : (h : History) (queue : QueueId) (id : PacketId) (place : Place) → IsInPlace h queue id place
    → ((own : GivenAtLaunch) → owed_group (beginning h) h.entries queue id own place.packet place.progress ≡ refuses refusal.NotInFlight)
    → due h (Call (RunNext queue id)) ≡ refuses refusal.NotInFlight
unfolding owed
no-groups h queue id place found is = grind arith

-- a packet that isn't in flight is refused
pub run-refused : (h : History) (queue : QueueId) (id : PacketId) (why : Refusal) → RefusedAt h queue id why → due h (Call (RunNext queue id)) ≡ refuses why
unfolding owed
run-refused h queue id why refused = due-as h (Call (RunNext queue id)) (refuses why) (refused (owed_group (beginning h) h.entries queue id (given_at_launch (beginning h) h.entries queue id)))
