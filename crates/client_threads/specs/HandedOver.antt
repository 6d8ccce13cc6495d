-- What lanes handed over with parts of the audit that were settled as they came (own).
use Rattle.std.specs.Prelude.{◌≡◌, ℕ, ◌++◌, List, [], Option, Some, None}
use Rattle.core_model.specs.History.{Part}
use Rattle.core_model.specs.Rotation.{LeadTo, entries_in}
use Rattle.core_model.specs.declared.served.Served.{Served}
use Rattle.client_threads.specs.declared.settled_parts.PartFault.{PartFault}
use Rattle.client_threads.specs.declared.settled_parts.PartFault.TheVariants as fault
use Rattle.client_threads.specs.Lanes.{LaneSeen}
use Rattle.client_threads.specs.Takes.{IsLeastMismatch, lane_at, served_by, takes}

abbrev pub kept_in : Option LaneSeen → List Served
kept_in None = []
kept_in (Some lane) = lane.kept

-- what the lane of a queue keeps; of a queue without a lane, nothing
abbrev pub kept_by : List LaneSeen → ℕ → List Served
kept_by lanes queue = kept_in (lane_at queue lanes)

-- of each queue, these parts took just what its lane handed over: all that it served but what it keeps
abbrev pub AreSettledWith : List Part → List LaneSeen → Type 0
AreSettledWith parts lanes = (queue : ℕ) → served_by lanes queue ≡ takes (entries_in parts) queue ++ kept_by lanes queue

-- a lane keeps all that it served
abbrev pub KeepsAll : LaneSeen → Type 0
KeepsAll lane = lane.kept ≡ lane.served

-- a lane that handed over all that it kept
abbrev pub handed_over : LaneSeen → LaneSeen
handed_over lane = record lane { kept = [] }

-- the number of each cause that is a refusal
abbrev pub number_of_part_fault : PartFault → Option ℕ
number_of_part_fault fault.NotNext = Some 4
number_of_part_fault (fault.Mismatch queue id) = None

-- why a part isn't settled behind others, in this order: they don't lead to where it begins; they do, and this is the least queue and the
-- least id at which what all of them took and what the lanes served differ (own)
abbrev pub IsUnsettledPartFor : List Part → Part → List LaneSeen → PartFault → Type 0
IsUnsettledPartFor parts part lanes fault.NotNext = LeadTo parts part.start → ⊥
IsUnsettledPartFor parts part lanes (fault.Mismatch queue id) =
    LeadTo parts part.start × IsLeastMismatch (entries_in parts ++ part.entries) lanes queue.0 id.0
