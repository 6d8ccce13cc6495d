-- What a settlement says of the load's ending.
use Rattle.std.proofs.Common.{◌≡◌, ℕ, List, [], ◌∷◌, ◌++◌, length, refl, sym, ap, ◌∙◌, subst, Result, Ok, Err}
use Rattle.std.specs.Prelude.{All, Bool, true, false, IfOk, map}
use Rattle.policy.specs.Policy.{Declared}
use Rattle.access_core.specs.Cores.{Core}
use Rattle.access_core.specs.Opening.{program_of}
use Rattle.access_core.specs.declared.kernel.Kernel.{Kernel}
use Rattle.core_model.specs.History.{Part, beginning}
use Rattle.core_model.specs.Legal.{IsLegalPart, IsOpening}
use Rattle.core_model.specs.Rotation.{entries_in}
use Rattle.core_model.specs.declared.entry.Entry.{Entry}
use Rattle.client_threads.specs.Boards.{FrontSeen}
use Rattle.client_threads.specs.Lanes.{LaneSeen}
use Rattle.client_threads.specs.Rings.{QueueRing}
use Rattle.client_threads.specs.declared.client_end.ClientEnd.{ClientEnd}
use Rattle.client_threads.specs.declared.settling.Settlement.{Settlement}
use Rattle.client_threads.specs.declared.settling.Settlement.TheVariants as settlement
use Rattle.client_threads.specs.Settling.{IsClosed, IsLedTo, IsSettlement, core_of, has_all_passes}
use Rattle.client_threads.specs.Takes.{AllAgree}
use Rattle.threads_load.specs.declared.load.Ended.{Ended}
use Rattle.threads_load.specs.declared.load.Load.{Load}
use Rattle.threads_load.specs.declared.plan.PlannedQueue.{PlannedQueue}
use Rattle.threads_load.specs.declared.report.Ending.{Ending}
use Rattle.threads_load.specs.Counts.{AreCounts, are_finished}
use Rattle.threads_load.specs.Grantings.{HasAllAllowed}
use Rattle.threads_load.specs.Loads.{EndsAs, EndsBy, EndsLoad, EndsWith, TellsLoad, TellsPlan, ending_if, parts_in, wanted_of}
use Rattle.threads_load.specs.Limits.{load_places}
use Rattle.threads_load.specs.Plans.{planned}
use Rattle.threads_load.specs.Publications.{IsPlannedEnd}
use Rattle.threads_load.specs.Reports.{text_of_report}
use Rattle.threads_load.specs.Stages.{AreOf, HasQueues, IsLoadRing, WasLeft}

agreed_ends : (entries : List Entry) (lanes : List LaneSeen) (all : Bool) → AllAgree entries lanes → EndsAs entries lanes all (ending_if all)
agreed_ends entries lanes true h = (h, refl)
agreed_ends entries lanes false h = (h, refl)

-- what a broker came to says how its load ended
ends_as : (plan : List PlannedQueue) (wanted : ℕ) (parts : List Part) (rings : List QueueRing) (ends : List ClientEnd) (lanes : List LaneSeen) (came : Settlement) (ended : Ending)
    → IsSettlement rings parts ends lanes came → EndsBy plan wanted parts came ended
    → IsLedTo parts (core_of came) × EndsAs (entries_in parts ++ (core_of came).history.entries) lanes (are_finished (entries_in parts ++ (core_of came).history.entries) wanted (length plan)) ended
ends_as plan wanted parts rings ends lanes (settlement.Settled core settled) ended is by =
    let entries = entries_in parts ++ core.history.entries in
    let all = are_finished entries wanted (length plan) in
    (is.0, subst (λ (e : Ending). EndsAs entries lanes all e) (sym by) (agreed_ends entries lanes all is.1))
ends_as plan wanted parts rings ends lanes (settlement.Mismatch core queue id) ended is by =
    let entries = entries_in parts ++ core.history.entries in
    (is.0, subst (λ (e : Ending). EndsAs entries lanes (are_finished entries wanted (length plan)) e) (sym by) is.1)

pub ends_load : (opened : Core) (plan : List PlannedQueue) (producers packets wanted : ℕ) (front : FrontSeen) (parts : List Part) (rings : List QueueRing) (ends : List ClientEnd) (lanes : List LaneSeen) (came : Settlement) (ended : Ended)
    → All (IsLegalPart opened.history.kernels) parts
    → WasLeft front.left (λ left. HasAllAllowed left.history) → HasQueues (core_of came) plan → AreOf (length plan) lanes
    → All (IsLoadRing producers) rings → has_all_passes rings ends lanes ≡ true → All (IsPlannedEnd plan packets) ends
    → IsSettlement rings parts ends lanes came → IsClosed opened front lanes (core_of came)
    → ended.core ≡ core_of came → parts_in ended ≡ parts → AreCounts (entries_in (parts_in ended) ++ ended.core.history.entries) (length plan) ended.counts.items
    → EndsBy plan wanted parts came ended.ending → EndsLoad opened plan producers packets wanted ended
ends_load opened plan producers packets wanted front parts rings ends lanes came ended legal granted queues are its passes published is end core_is parts_are counts by =
    let both = ends_as plan wanted parts rings ends lanes came ended.ending is by in
    let own : EndsWith opened plan producers packets wanted parts (core_of came) ended.ending = record {
      legal = both.0.legal;
      parts_legal = legal;
      lead = both.0.lead;
      front = front;
      lanes = lanes;
      granted = granted;
      queues = queues;
      lanes_are = are;
      closed = end;
      rings = rings;
      rings_are = its;
      producing = ends;
      all_passes = passes;
      published = published;
      ends = both.1;
    } in
    record {
      ends = subst (λ (ps : List Part). EndsWith opened plan producers packets wanted ps ended.core ended.ending) (sym parts_are) (subst (λ (c : Core). EndsWith opened plan producers packets wanted parts c ended.ending) (sym core_is) own);
      counts = counts;
    }

-- a load tells its plan by the report of the core and the parts that it left
pub tells_plan : {X E F : Type 0} (opened : Core) (plan : List PlannedQueue) (producers packets wanted : ℕ) (ended : Ended) (bytes : X → List ℕ) (report : Result X E) (made : Result Load F) (text : Load → X)
    → EndsLoad opened plan producers packets wanted ended
    → IfOk report (λ x. bytes x ≡ text_of_report (beginning ended.core.history) (entries_in (parts_in ended)) ended.core.history.entries plan ended.ending)
    → IfOk made (λ load. (report ≡ Ok (text load)) × (load.ending ≡ ended.ending))
    → IfOk made (λ load. (parts : List Part) × (core : Core) × EndsWith opened plan producers packets wanted parts core load.ending × (bytes (text load) ≡ text_of_report (beginning core.history) (entries_in parts) core.history.entries plan load.ending))
tells_plan opened plan producers packets wanted ended bytes report (Err why) text ends told is = tt
tells_plan opened plan producers packets wanted ended bytes report (Ok load) text ends told is =
    let own : bytes (text load) ≡ text_of_report (beginning ended.core.history) (entries_in (parts_in ended)) ended.core.history.entries plan ended.ending = subst (λ r. IfOk r (λ x. bytes x ≡ text_of_report (beginning ended.core.history) (entries_in (parts_in ended)) ended.core.history.entries plan ended.ending)) is.0 told in
    (parts_in ended, ended.core, subst (λ e. EndsWith opened plan producers packets wanted (parts_in ended) ended.core e) (sym is.1) ends.ends, subst (λ e. bytes (text load) ≡ text_of_report (beginning ended.core.history) (entries_in (parts_in ended)) ended.core.history.entries plan e) (sym is.1) own)

pub tells_load : {E : Type 0} (policy : Declared) (kernels : List Kernel) (packets producers : ℕ) (plan : List PlannedQueue) (opened : Core) (result : Result Load E) → IsOpening opened.history policy (map program_of kernels) load_places → plan ≡ planned policy
    → IfOk result (TellsPlan opened plan producers packets (wanted_of packets producers)) → IfOk result (TellsLoad policy kernels packets producers)
tells_load policy kernels packets producers plan opened (Ok load) opens is told = (opened, opens, subst (λ (p : List PlannedQueue). TellsPlan opened p producers packets (wanted_of packets producers) load) is told)
tells_load policy kernels packets producers plan opened (Err why) opens is told = tt

pub finishes : {F : Type 0} (opened : Core) (plan : List PlannedQueue) (producers packets wanted : ℕ) (front : FrontSeen) (parts : List Part) (rings : List QueueRing) (ends : List ClientEnd) (lanes : List LaneSeen) (came : Settlement) (made : Result Ended F)
    → All (IsLegalPart opened.history.kernels) parts
    → WasLeft front.left (λ left. HasAllAllowed left.history) → HasQueues (core_of came) plan → AreOf (length plan) lanes
    → All (IsLoadRing producers) rings → has_all_passes rings ends lanes ≡ true → All (IsPlannedEnd plan packets) ends
    → IsSettlement rings parts ends lanes came → IsClosed opened front lanes (core_of came)
    → IfOk made (λ ended. ended.core ≡ core_of came) → IfOk made (λ ended. parts_in ended ≡ parts)
    → IfOk made (λ ended. AreCounts (entries_in (parts_in ended) ++ ended.core.history.entries) (length plan) ended.counts.items) → IfOk made (λ ended. EndsBy plan wanted parts came ended.ending)
    → IfOk made (EndsLoad opened plan producers packets wanted)
finishes opened plan producers packets wanted front parts rings ends lanes came (Ok ended) legal granted queues are its passes published is end core_is parts_are counts by =
    ends_load opened plan producers packets wanted front parts rings ends lanes came ended legal granted queues are its passes published is end core_is parts_are counts by
finishes opened plan producers packets wanted front parts rings ends lanes came (Err why) legal granted queues are its passes published is end core_is parts_are counts by = tt
