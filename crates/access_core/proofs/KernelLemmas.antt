-- Groups of kernel dispatches: what they are lent, what they are owed, and what their writes leave.
use Rattle.core_model.specs.History.{beginning}
use Rattle.std.proofs.Common.{◌≡◌, ℕ, List, [], ◌∷◌, length, map, replicate, refl, Bool, true, nat_le, if◌then◌else◌, arith}
use Rattle.access_core.proofs.Terms.{AreLentAlike, Done, Entry, Faulted, GroupResult, History, Inside, IsCached, IsInPlace, IsLentAlike, KernelDispatch, HeldRights, PacketId, Place}
use Rattle.access_core.proofs.Terms.{Call, QueueError, QueueId, Ran, Read, RegionRights, RunNext, Start, WrittenRange, answers, as_lent, due, enters, first_address, given_at_launch, group_count}
use Rattle.access_core.proofs.Terms.{group_input, group_owed, group_result, has, held_regions, history_of, length-map-range_with_len, length-replicate, lent_whole, may_lack_memory}
use Rattle.access_core.proofs.Terms.{memory_from, view_whole, write_of_run}
use Rattle.aql_packet.specs.declared.packet.Packet.TheVariants as packet
use Rattle.core_model.specs.Owed.{owed}
use Rattle.core_model.specs.View.{view}
use Rattle.access_core.proofs.QueueAt.{IsAdvance}
use Rattle.access_core.proofs.RunLemmas.{OnlyWrites, one_group}
use Rattle.access_core.proofs.WorkLemmas.{fault-releases, release-due}
use Rattle.core_model.specs.declared.entry.Effect.TheVariants as effect
use Rattle.core_model.specs.declared.outcome.Outcome.TheVariants as outcome

-- ---- what a group is lent

module _ (start : Start) (es : List Entry) where
  lent-alike : (region : RegionRights) → IsLentAlike (as_lent start es region) (lent_whole start es region)
  lent-alike region = record {
    number_is = refl;
    rights_are = refl;
    length_is = by_test (has region.rights Read);
    bytes_are = λ reads. rw reads refl;
  }
    where
      by_test : (b : Bool) → length (if b then memory_from start es (first_address region) region.size else replicate region.size 0)
          ≡ length (memory_from start es (first_address region) region.size)
      by_test b = grind (arith, length-replicate, length-map-range_with_len)

  all-alike : (regions : List RegionRights) → AreLentAlike (map (as_lent start es) regions) (map (lent_whole start es) regions)
  all-alike [] = tt
  all-alike (region ∷ regions) = (lent-alike region, all-alike regions)

  -- the regions with all their bytes are lent alike to those that the history tells
  pub views-alike : (all : HeldRights) → AreLentAlike (view start es all) (view_whole start es all)
  views-alike all = all-alike (held_regions start all)

-- ---- what a group is owed

pub kernel-owed : (h : History) (queue : QueueId) (id : PacketId) (place : Place) → IsInPlace h queue id place → (d : KernelDispatch) → place.packet ≡ packet.Kernel d → (ran : Bool)
    → nat_le (group_count (packet.Kernel d)) place.progress.groups_run ≡ ran
    → owed (beginning h) h.entries (Call (RunNext queue id))
    ≡ (if ran then answers (outcome.Worked Done) else group_owed queue id d place.progress.groups_run
    (group_result (group_input (beginning h) h.entries (given_at_launch (beginning h) h.entries queue id) d place.progress.groups_run)))
unfolding owed
kernel-owed h queue id place found d packet_is ran is = grind arith

-- a group that breaks a rule always finds room for its entry
pub fault-due : (a : Inside) → IsCached a → (old : History) → history_of a ≡ old → (queue : QueueId) (id : PacketId) (place : Place) → IsInPlace old queue id place → (error : QueueError)
    → owed (beginning old) old.entries (Call (RunNext queue id)) ≡ enters (outcome.Worked (Faulted error)) (effect.Release queue id ∷ [])
    → due old (Call (RunNext queue id)) ≡ enters (outcome.Worked (Faulted error)) (effect.Release queue id ∷ [])
fault-due a kept old seen_as queue id place found error owing =
    grind (
      arith,
      release-due a kept old seen_as queue id place found (Call (RunNext queue id)) (outcome.Worked (Faulted error)) (effect.Release queue id ∷ [])
          (fault-releases queue id error) owing,
    )

-- whatever it comes to, its run may want memory
pub group-lacks : (h : History) (queue : QueueId) (id : PacketId) (d : KernelDispatch) (group : ℕ) (came : GroupResult)
    → owed (beginning h) h.entries (Call (RunNext queue id)) ≡ group_owed queue id d group came
    → may_lack_memory (Call (RunNext queue id)) (due h (Call (RunNext queue id))) ≡ true
group-lacks h queue id d group came owing = grind arith

-- ---- what its writes leave

pub runs-write : (runs : List WrittenRange) → OnlyWrites (map write_of_run runs)
runs-write [] = record { flight = λ flying. refl; stays = λ queue id. refl; signals = λ values. refl }
runs-write (run ∷ runs) = grind (arith, runs-write runs)

-- by the entry of a group the packet comes one group further
pub kernel-advances : (queue : QueueId) (id : PacketId) (group left : ℕ) (runs : List WrittenRange)
    → IsAdvance queue id one_group (Call (RunNext queue id)) (outcome.Worked (Ran group left)) (map write_of_run runs)
kernel-advances queue id group left runs = record {
  launches = refl;
  progress = λ q i so_far. refl;
  stays = (runs-write runs).stays;
  releases = (runs-write runs).flight;
  views = λ m v places. refl;
}
