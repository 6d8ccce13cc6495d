-- Packets in flight: those that were launched and not released since, and how far each has come.
use Rattle.std.specs.Prelude.{◌≡◌, ◌⊎◌, ◌+◌, ◌==◌, ◌||◌, Bool, false, not, List, [], ◌∷◌, ◌++◌, map, filter, fold, find, Option, Some, None, option_map, if◌then◌else◌}
use Rattle.std.specs.List.{zip, list_any, Contains}
use Rattle.aql_packet.specs.declared.ids.QueueId.{QueueId}
use Rattle.aql_packet.specs.declared.ids.PacketId.{PacketId}
use Rattle.aql_packet.specs.Ids.{same_packet}
use Rattle.aql_packet.specs.Reading.{decoded}
use Rattle.core_model.specs.declared.event.Event.{Event}
use Rattle.core_model.specs.declared.event.Event.TheVariants.{Take, Call}
use Rattle.core_model.specs.declared.call.Call.TheVariants.{RunNext, Poll}
use Rattle.core_model.specs.declared.outcome.Satisfied.{Satisfied}
use Rattle.core_model.specs.declared.outcome.Outcome.{Outcome}
use Rattle.core_model.specs.declared.outcome.Outcome.TheVariants as outcome
use Rattle.core_model.specs.declared.outcome.Taken.TheVariants.{Launched}
use Rattle.core_model.specs.declared.outcome.Worked.TheVariants.{Ran}
use Rattle.core_model.specs.declared.outcome.Polled.TheVariants.{Pending, Ready}
use Rattle.core_model.specs.declared.entry.Effect.{Effect}
use Rattle.core_model.specs.declared.entry.Effect.TheVariants.{Release}
use Rattle.core_model.specs.declared.entry.Entry.{Entry}
use Rattle.core_model.specs.Limits.{launch_progress}
use Rattle.core_model.specs.declared.flight.InFlight.{InFlight}
use Rattle.core_model.specs.declared.flight.Progress.{Progress}
use Rattle.core_model.specs.History.{Start, effects_of}

-- whether a packet in flight is the one with this queue and id (own)
abbrev pub is_packet : QueueId → PacketId → InFlight → Bool
is_packet queue id f = same_packet f.queue f.id queue id

-- the packet that an event launches, if it launches one (own)
abbrev pub launched_by : Event → Outcome → Option InFlight
launched_by (Take queue id bytes) (outcome.Taken Launched) = option_map (λ p. record { queue = queue; id = id; packet = p }) (decoded bytes)
launched_by _ _ = None

-- the packets in flight with one more, if there is one (own)
abbrev pub with_launched : List InFlight → Option InFlight → List InFlight
with_launched before None = before
with_launched before (Some f) = before ++ f ∷ []

-- the packets in flight after a change: without the one that it releases (own)
abbrev pub flight_after_effect : List InFlight → Effect → List InFlight
flight_after_effect before (Release queue id) = filter (λ f. not (is_packet queue id f)) before
flight_after_effect before _ = before

-- the packets in flight after an entry (own)
abbrev pub flight_after : List InFlight → Entry → List InFlight
flight_after before entry = fold flight_after_effect (with_launched before (launched_by entry.event entry.outcome)) entry.effects

-- the packets in flight, in the order in which they were launched (own)
unfoldable pub flight : Start → List Entry → List InFlight
flight start entries = fold flight_after start.flight entries

-- the packets of a queue in flight (own)
abbrev pub flight_of : Start → List Entry → QueueId → List InFlight
flight_of start entries queue = filter (λ f. f.queue.0 == queue.0) (flight start entries)

-- the packet in flight with this queue and id, if there is one (own)
abbrev pub in_flight : Start → List Entry → QueueId → PacketId → Option InFlight
in_flight start entries queue id = find (is_packet queue id) (flight start entries)

-- whether a change releases the packet with this queue and id (own)
abbrev pub releases : QueueId → PacketId → Effect → Bool
releases queue id (Release q i) = same_packet queue id q i
releases queue id _ = false

-- whether a change releases a packet (own)
abbrev pub releases_packet : InFlight → Effect → Bool
releases_packet f effect = releases f.queue f.id effect

-- a packet was launched by one of these entries, and neither that one nor any since released it (own)
pub record WasLaunchedAndStays (entries : List Entry) (f : InFlight) : Type 0 where
  pub before : List Entry
  pub launch : Entry
  pub since : List Entry
  pub entries_are : entries ≡ before ++ launch ∷ since
  pub launches : launched_by launch.event launch.outcome ≡ Some f
  pub stays : list_any (releases_packet f) (effects_of (launch ∷ since)) ≡ false

-- a packet was in flight at the start, or was launched by one of these entries, and none since released it (own)
abbrev pub CameAndStays : Start → List Entry → InFlight → Type 0
CameAndStays start entries f = (Contains start.flight f × (list_any (releases_packet f) (effects_of entries) ≡ false)) ⊎ WasLaunchedAndStays entries f

-- after any entries, in flight are just the packets that were so at the start, or were launched, and not released since (own)
abbrev pub LawOfFlight : Type 0
LawOfFlight = (start : Start) (entries : List Entry) (f : InFlight)
    → (Contains (flight start entries) f → CameAndStays start entries f) × (CameAndStays start entries f → Contains (flight start entries) f)

-- the positions seen by either (own)
abbrev pub satisfied_by_either : Satisfied → Satisfied → Satisfied
satisfied_by_either a b = record { 0 = map (λ pair. pair.0 || pair.1) (zip a.0 b.0) }

-- how far a packet has come by an event: it is launched anew, one of its groups ran, or dependencies were seen (own)
abbrev pub progress_by : QueueId → PacketId → Progress → Event → Outcome → Progress
progress_by queue id p (Take q i _) (outcome.Taken Launched) = if same_packet q i queue id then launch_progress else p
progress_by queue id p (Call (RunNext q i)) (outcome.Worked (Ran _ _)) = if same_packet q i queue id then record p { groups_run = p.groups_run + 1 } else p
progress_by queue id p (Call (Poll q i)) (outcome.Polled (Pending seen)) = if same_packet q i queue id then record p { satisfied = satisfied_by_either p.satisfied seen } else p
progress_by queue id p (Call (Poll q i)) (outcome.Polled (Ready seen)) = if same_packet q i queue id then record p { satisfied = satisfied_by_either p.satisfied seen } else p
progress_by queue id p _ _ = p

-- and after its entry: of a packet that is released nothing is known (own)
abbrev pub progress_after : QueueId → PacketId → Progress → Entry → Progress
progress_after queue id p entry = if list_any (releases queue id) entry.effects then launch_progress else progress_by queue id p entry.event entry.outcome

-- how far a packet has come since its launch (own)
unfoldable pub progress : Start → List Entry → QueueId → PacketId → Progress
progress start entries queue id = fold (progress_after queue id) (start.progress queue id) entries

-- each packet has another queue or id than those behind it (own)
abbrev pub AreApart : List InFlight → Type 0
AreApart [] = Unit {0}
AreApart (f ∷ fs) = (list_any (is_packet f.queue f.id) fs ≡ false) × AreApart fs
