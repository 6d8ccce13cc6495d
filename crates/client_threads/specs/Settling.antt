-- What a broker comes to once all its ends and lanes have come back (own).
use Rattle.std.specs.Prelude.{◌≡◌, ℕ, ◌+◌, ◌==◌, ◌<◌, ◌≤◌, ◌&&◌, Bool, true, false, List, [], ◌∷◌, ◌++◌, length, slice_index, slice_index_or, All, Option, Some, None, is_some, if◌then◌else◌, ⊤}
use Rattle.std.specs.List.{filter_map, flat_map, list_all, sum_by}
use mathlib.Core.List.{IsPrefix}
use Rattle.core_model.specs.History.{Part, beginning}
use Rattle.core_model.specs.Rotation.{LeadTo, entries_in}
use Rattle.core_model.specs.Legal.{IsLegal}
use Rattle.ring_core.specs.Machine.{Machine, machine_of, slot_word}
use Rattle.ring_core.specs.Rule.{ticket_of}
use Rattle.ring_core.specs.Words.{word}
use Rattle.ring.specs.Bytes.{words_of}
use Rattle.ring.specs.Passes.{RingSeen, ProducerSeen}
use Rattle.ring.specs.declared.closing.Settled.{Settled}
use Rattle.ring.specs.Settling.{IsSettled, has_passes}
use Rattle.core_model.specs.declared.entry.Entry.{Entry}
use Rattle.core_model.specs.declared.served.Served.{Served}
use Rattle.client_threads.specs.declared.client_end.ClientEnd.{ClientEnd}
use Rattle.access_core.specs.Cores.{Core}
use Rattle.client_threads.specs.declared.settling.SettleAllFault.{SettleAllFault}
use Rattle.client_threads.specs.declared.settling.SettleAllFault.TheVariants as fault
use Rattle.client_threads.specs.declared.settling.SettledQueue.{SettledQueue}
use Rattle.client_threads.specs.declared.settling.Settlement.{Settlement}
use Rattle.client_threads.specs.declared.settling.Settlement.TheVariants as settlement
use Rattle.client_threads.specs.Boards.{AreAllBelow, FrontSeen, all_shares}
use Rattle.client_threads.specs.Lanes.{LaneSeen, own_of, share_of}
use Rattle.client_threads.specs.Rings.{QueueRing}
use Rattle.client_threads.specs.Sections.{AllFollow, IsFirst, Stand, last_of, whole}
use Rattle.client_threads.specs.Takes.{AllAgree, IsLeastMismatch, lane_at, takes}

-- the pass of an end of a queue
abbrev pub pass_of : ℕ → ClientEnd → Option ProducerSeen
pass_of queue end = if end.queue.0 == queue then Some end.pass else None

-- whether a front and the fronts of lanes have all shares of the right to make sections
abbrev pub have_all_shares : FrontSeen → List LaneSeen → Bool
have_all_shares front lanes = front.share + sum_by share_of lanes == all_shares

-- the producers' passes to a queue's ring, in order
abbrev pub passes_of : ℕ → List ClientEnd → List ProducerSeen
passes_of queue ends = filter_map (pass_of queue) ends

-- whether all passes of a ring are among these: those of its producers, and with its queue's lane the processor's
abbrev pub has_its_passes : List ClientEnd → List LaneSeen → QueueRing → Bool
has_its_passes ends lanes r = has_passes r.ring.producers (passes_of r.queue ends) && is_some (lane_at r.queue lanes)

-- whether all passes of all rings are
abbrev pub has_all_passes : List QueueRing → List ClientEnd → List LaneSeen → Bool
has_all_passes rings ends lanes = list_all (has_its_passes ends lanes) rings

-- what a lane served are the packets that were published under the ids below the read index, whole, each once; and each
-- packet that was published under another id stands whole in its slot
pub record AreServed (machine : Machine) (read_index : ℕ) (served : List Served) : Type 0 where
  pub count : length served ≡ read_index
  pub each : (id k : ℕ) (d : Served) → id < read_index → k < 8 → word (ticket_of machine.parts id).words k ≡ Some (slice_index (words_of (slice_index_or served id d).bytes) k)
  pub stands : (id k w : ℕ) → read_index ≤ id → word (ticket_of machine.parts id).words k ≡ Some w → slot_word machine id k ≡ w

-- a ring is settled with these passes and the one of a lane, and what that lane served is what was published there
pub record IsRingSettled (ring : RingSeen) (passes : List ProducerSeen) (lane : LaneSeen) (one : Settled) : Type 0 where
  pub settled : IsSettled ring passes lane.pass one.write_index one.read_index one.slots
  pub served : AreServed (machine_of ring.size (one.write_index ∷ one.read_index ∷ one.slots) settled.parts) one.read_index lane.served

-- a queue's ring is, with the passes of its ends and its lane
pub record IsQueueSettled (r : QueueRing) (ends : List ClientEnd) (lanes : List LaneSeen) (one : SettledQueue) : Type 0 where
  pub queue_is : one.queue.0 ≡ r.queue
  pub lane : LaneSeen
  pub lane_is : lane_at r.queue lanes ≡ Some lane
  pub ring_is : IsRingSettled r.ring (passes_of r.queue ends) lane one.ring

-- all rings are settled, in order
abbrev pub AreSettled : List QueueRing → List ClientEnd → List LaneSeen → List SettledQueue → Type 0
AreSettled [] ends lanes [] = ⊤
AreSettled (r ∷ rs) ends lanes (one ∷ more) = IsQueueSettled r ends lanes one × AreSettled rs ends lanes more
AreSettled [] ends lanes (one ∷ more) = ⊥
AreSettled (r ∷ rs) ends lanes [] = ⊥

-- a core has a legal audit, to which the parts lead that were handed out of it
pub record IsLedTo (parts : List Part) (core : Core) : Type 0 where
  pub legal : IsLegal (beginning core.history) core.history.entries
  pub lead : LeadTo parts core.history.origin

-- all that was handed out of a core's audit and is in it, in order
abbrev pub all_entries : List Part → Core → List Entry
all_entries parts core = entries_in parts ++ core.history.entries

-- what a broker came to: its core has a legal audit, to which the parts lead; and either of each queue was taken what its lane
-- served, by all entries, and all rings are settled; or this is the least place where these differ
abbrev pub IsSettlement : List QueueRing → List Part → List ClientEnd → List LaneSeen → Settlement → Type 0
IsSettlement rings parts ends lanes (settlement.Settled core settled) =
    IsLedTo parts core × AllAgree (all_entries parts core) lanes × AreSettled rings ends lanes settled.items
IsSettlement rings parts ends lanes (settlement.Mismatch core queue id) =
    IsLedTo parts core × IsLeastMismatch (all_entries parts core) lanes queue.0 id.0

-- the number of each cause
abbrev pub number_of_fault : SettleAllFault → ℕ
number_of_fault fault.OutOfMemory = 0
number_of_fault fault.MissingPass = 3
number_of_fault fault.NotNext = 4
number_of_fault fault.MissingFront = 5

-- the core that a broker came to
abbrev pub core_of : Settlement → Core
core_of (settlement.Settled core settled) = core
core_of (settlement.Mismatch core queue id) = core

-- what a lane has seen of a core is a beginning of the states in which it was left, and what the lane served stands, in order, among all
-- that was taken of its queue since the opening, handed out or not
pub record IsShown (opened : Core) (left : List Core) (lane : LaneSeen) : Type 0 where
  pub begins : IsPrefix lane.front.left left
  pub stands : Stand lane.served (takes (whole [] opened left) lane.queue.0)

-- a broker ended with this core: the one that it was opened with, as the last section left it, with what was seen of it before; and it
-- is shown to all lanes
pub record IsEnd (opened : Core) (seen : List Core) (lanes : List LaneSeen) (core : Core) : Type 0 where
  pub left : List Core
  pub first : IsFirst opened
  pub all : AllFollow opened left
  pub last : last_of opened left ≡ core
  pub begins : IsPrefix seen left
  pub shown : All (IsShown opened left) lanes

-- a broker ended so, and each section since its opening was made through this front or a lane's: the places of their sections are all that
-- there are, each once
pub record IsClosed (opened : Core) (front : FrontSeen) (lanes : List LaneSeen) (core : Core) : Type 0 where
  pub end : IsEnd opened front.left lanes core
  pub only : AreAllBelow (length end.left) (front.own ++ flat_map own_of lanes)

-- a broker without a lock: its rings, the states in which sections left its core, and its core
pub record StillSeen : Type 0 where
  pub rings : List QueueRing
  pub left : List Core
  pub core : Core

-- all fronts and all passes are there, and the parts lead to the core's audit
pub record IsComplete (front : FrontSeen) (rings : List QueueRing) (parts : List Part) (ends : List ClientEnd) (lanes : List LaneSeen) (core : Core) : Type 0 where
  pub shares : have_all_shares front lanes ≡ true
  pub passes : has_all_passes rings ends lanes ≡ true
  pub led : IsLedTo parts core

-- why a broker isn't settled, in this order: a front is missing; all are there, and a pass is missing; all are there, and the parts don't lead
-- to the core's audit; they do, and memory was wanted and not to be had (own)
abbrev pub IsCauseOf : FrontSeen → List QueueRing → List Part → List ClientEnd → List LaneSeen → Core → SettleAllFault → Type 0
IsCauseOf front rings parts ends lanes core fault.MissingFront = have_all_shares front lanes ≡ false
IsCauseOf front rings parts ends lanes core fault.MissingPass = (have_all_shares front lanes ≡ true) × (has_all_passes rings ends lanes ≡ false)
IsCauseOf front rings parts ends lanes core fault.NotNext =
    (have_all_shares front lanes ≡ true)
    × (has_all_passes rings ends lanes ≡ true)
    × IsLegal (beginning core.history) core.history.entries
    × (LeadTo parts core.history.origin → ⊥)
IsCauseOf front rings parts ends lanes core fault.OutOfMemory = IsComplete front rings parts ends lanes core

-- this is why, of the core that comes back, which is the one with which the broker ended
abbrev pub IsUnsettledFor : Core → FrontSeen → List QueueRing → List Part → List ClientEnd → List LaneSeen → Core → SettleAllFault → Type 0
IsUnsettledFor opened front rings parts ends lanes core why = IsEnd opened front.left lanes core × IsCauseOf front rings parts ends lanes core why
