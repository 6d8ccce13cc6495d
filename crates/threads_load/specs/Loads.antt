-- What a load comes to (own).
use Rattle.std.specs.Prelude.{◌≡◌, ℕ, ◌*◌, ◌^◌, ◌-◌, min, Bool, true, false, List, [], ◌∷◌, ◌++◌, All, length, map, option_to_list, string_bytes}
use Rattle.policy.specs.Policy.{Declared}
use Rattle.core_model.specs.History.{Part, beginning}
use Rattle.core_model.specs.Rotation.{LeadTo, entries_in}
use Rattle.core_model.specs.Legal.{IsLegal, IsLegalPart, IsOpening}
use Rattle.core_model.specs.declared.entry.Entry.{Entry}
use Rattle.access_core.specs.Cores.{Core}
use Rattle.access_core.specs.Opening.{program_of}
use Rattle.access_core.specs.declared.kernel.Kernel.{Kernel}
use Rattle.client_threads.specs.declared.settling.Settlement.{Settlement}
use Rattle.client_threads.specs.declared.settling.Settlement.TheVariants as settlement
use Rattle.client_threads.specs.Lanes.{LaneSeen}
use Rattle.client_threads.specs.Boards.{FrontSeen}
use Rattle.client_threads.specs.Rings.{QueueRing}
use Rattle.client_threads.specs.Settling.{IsClosed, has_all_passes}
use Rattle.client_threads.specs.declared.client_end.ClientEnd.{ClientEnd}
use Rattle.client_threads.specs.Takes.{AllAgree, IsLeastMismatch}
use Rattle.threads_load.specs.declared.load.Ended.{Ended}
use Rattle.threads_load.specs.declared.load.Load.{Load}
use Rattle.threads_load.specs.declared.plan.PlannedQueue.{PlannedQueue}
use Rattle.threads_load.specs.declared.report.Ending.{Ending}
use Rattle.threads_load.specs.declared.report.Ending.TheVariants as ending
use Rattle.threads_load.specs.Counts.{AreCounts, are_finished}
use Rattle.threads_load.specs.Grantings.{HasAllAllowed}
use Rattle.threads_load.specs.Limits.{load_places}
use Rattle.threads_load.specs.Plans.{planned}
use Rattle.threads_load.specs.Publications.{IsPlannedEnd}
use Rattle.threads_load.specs.Reports.{text_of_report}
use Rattle.threads_load.specs.Stages.{AreOf, HasQueues, IsLoadRing, WasLeft}

-- how many packets of each queue are to be finished: those of all its producers, as a number of 64 bits has it (own)
abbrev pub wanted_of : ℕ → ℕ → ℕ
wanted_of packets producers = min (packets * producers) (2 ^ 64 - 1)

-- what an ending tells: what was taken is what lanes served, and all packets are finished, or not all; or where the two first differ (own)
abbrev pub EndsAs : List Entry → List LaneSeen → (are_all_finished : Bool) → Ending → Type 0
EndsAs entries lanes all ending.Settled = AllAgree entries lanes × (all ≡ true)
EndsAs entries lanes all ending.Unsettled = AllAgree entries lanes × (all ≡ false)
EndsAs entries lanes all (ending.Mismatch queue packet) = IsLeastMismatch entries lanes queue.0 packet.0

-- what ending is told of a broker that agrees: by whether all packets are finished (own)
abbrev pub ending_if : Bool → Ending
ending_if true = ending.Settled
ending_if false = ending.Unsettled

-- a load ended so, over a plan whose queues have so many producers each, with so many packets of each, and want so many: all that the policy allows
-- was granted; the planned queues were opened, each by its client on its agent, and its lanes are just theirs; the core is the one that was opened,
-- as the last section left it, and each section was made through its front or a lane's; all ends of the rings' producers came back, through which
-- nothing was published but what is planned, and the lanes; parts that were handed out of it, for its kernels, lead to its audit; and all their
-- entries are what these lanes served, which have seen it, with all packets finished or not, or first differ there (own)
pub record EndsWith (opened : Core) (plan : List PlannedQueue) (producers packets wanted : ℕ) (parts : List Part) (core : Core) (ended : Ending) : Type 0 where
  pub legal : IsLegal (beginning core.history) core.history.entries
  pub parts_legal : All (IsLegalPart opened.history.kernels) parts
  pub lead : LeadTo parts core.history.origin
  pub front : FrontSeen
  pub lanes : List LaneSeen
  pub granted : WasLeft front.left (λ left. HasAllAllowed left.history)
  pub queues : HasQueues core plan
  pub lanes_are : AreOf (length plan) lanes
  pub closed : IsClosed opened front lanes core
  pub rings : List QueueRing
  pub rings_are : All (IsLoadRing producers) rings
  pub producing : List ClientEnd
  pub all_passes : has_all_passes rings producing lanes ≡ true
  pub published : All (IsPlannedEnd plan packets) producing
  pub ends : EndsAs (entries_in parts ++ core.history.entries) lanes (are_finished (entries_in parts ++ core.history.entries) wanted (length plan)) ended

-- all parts that were handed out, in order (own)
abbrev pub parts_in : Ended → List Part
parts_in ended = ended.settled ++ option_to_list ended.left

-- a load ended, with the core that it left and the parts that were handed out, and all their entries are counted (own)
pub record EndsLoad (opened : Core) (plan : List PlannedQueue) (producers packets wanted : ℕ) (ended : Ended) : Type 0 where
  pub ends : EndsWith opened plan producers packets wanted (parts_in ended) ended.core ended.ending
  pub counts : AreCounts (entries_in (parts_in ended) ++ ended.core.history.entries) (length plan) ended.counts.items

-- how a load ended whose broker came to this (own)
abbrev pub EndsBy : List PlannedQueue → ℕ → List Part → Settlement → Ending → Type 0
EndsBy plan wanted parts (settlement.Settled core rings) ended =
    ended ≡ ending_if (are_finished (entries_in parts ++ core.history.entries) wanted (length plan))
EndsBy plan wanted parts (settlement.Mismatch core queue id) ended = ended ≡ ending.Mismatch queue id

-- the report of a load with this plan is that of the core that it left, and of the parts that lead to it (own)
abbrev pub TellsPlan : Core → List PlannedQueue → ℕ → ℕ → ℕ → Load → Type 0
TellsPlan opened plan producers packets wanted load =
    (parts : List Part) × (core : Core) × EndsWith opened plan producers packets wanted parts core load.ending
    × (string_bytes load.report ≡ text_of_report (beginning core.history) (entries_in parts) core.history.entries plan load.ending)

-- the report of a load over a policy and its kernels, with so many packets of each of so many producers a queue: that of a core that was
-- opened over them, with the queues that the policy plans (own)
abbrev pub TellsLoad : Declared → List Kernel → ℕ → ℕ → Load → Type 0
TellsLoad policy kernels packets producers load =
    (opened : Core) × IsOpening opened.history policy (map program_of kernels) load_places × TellsPlan opened (planned policy) producers packets (wanted_of packets producers) load
