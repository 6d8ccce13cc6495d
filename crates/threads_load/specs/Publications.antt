-- What a producer of a load publishes (own).
use Rattle.std.specs.Prelude.{◌≡◌, ℕ, zero, suc, ◌+◌, ◌<◌, ◌≤◌, List, [], ◌∷◌, ◌++◌, length, map, slice_get, slice_index, slice_index_or, Option, Some, None, ⊤}
use Rattle.aql_packet.specs.Layout.{PacketOf}
use Rattle.aql_packet.specs.declared.ids.RegionHandle.{RegionHandle}
use Rattle.ring.specs.Bytes.{words_of}
use Rattle.ring.specs.Passes.{ProducerSeen}
use Rattle.ring_core.specs.declared.access.Access.{Access}
use Rattle.ring_core.specs.declared.access.Access.TheVariants.{Reserve, LoadReadIndex, StoreBody, StoreHeader}
use Rattle.client_threads.specs.declared.client_end.ClientEnd.{ClientEnd}
use Rattle.client_threads.specs.Rings.{QueueRing}
use Rattle.client_threads.specs.Running.{IsEndOf}
use Rattle.threads_load.specs.Additions.{addition}
use Rattle.threads_load.specs.declared.plan.PlannedQueue.{PlannedQueue}

-- the steps that a pass made
abbrev pub accesses : ProducerSeen → List Access
accesses pass = map (λ made. made.access) pass.part.steps

-- a step of who publishes packets of these words alone: it reserves an id, looks for room, or stores one of the words at its place (own)
abbrev pub IsOfWords : List ℕ → Access → Type 0
IsOfWords words Reserve = ⊤
IsOfWords words (LoadReadIndex ticket) = ⊤
IsOfWords words (StoreBody ticket place word) = word ≡ slice_index words place
IsOfWords words (StoreHeader ticket word) = word ≡ slice_index words 0
IsOfWords words _ = ⊥

abbrev pub AreOfWords : List ℕ → List Access → Type 0
AreOfWords words [] = ⊤
AreOfWords words (access ∷ rest) = IsOfWords words access × AreOfWords words rest

-- how many ids a step reserves
abbrev pub reserved_by : Access → ℕ
reserved_by Reserve = 1
reserved_by _ = 0

-- how many ids these steps do
abbrev pub reserved : List Access → ℕ
reserved [] = 0
reserved (access ∷ rest) = reserved_by access + reserved rest

-- a pass made steps of who publishes packets of these words alone, with at most so many ids (own)
pub record PublishesOnly (words : List ℕ) (most : ℕ) (old new : ProducerSeen) : Type 0 where
  pub more : List Access
  pub steps : accesses new ≡ accesses old ++ more
  pub of_words : AreOfWords words more
  pub few : reserved more ≤ most

-- what is planned of the queue of a number, which count from 1
abbrev pub planned_at : List PlannedQueue → ℕ → Option PlannedQueue
planned_at plan zero = None
planned_at plan (suc place) = slice_get plan place

-- a pass published at most so many packets, each of which adds 1 in a region (own)
pub record PublishesAdditions (region : RegionHandle) (most : ℕ) (old new : ProducerSeen) : Type 0 where
  pub bytes : List ℕ
  pub packet : PacketOf bytes (addition region)
  pub only : PublishesOnly (words_of bytes) most old new

-- through an end of the same queue were published at most so many packets, each of which adds 1 in the region that is planned for its queue; on a
-- queue that isn't planned, none (own)
abbrev pub PublishesPlanned : Option PlannedQueue → ℕ → ClientEnd → ClientEnd → Type 0
PublishesPlanned None most old new = new ≡ old
PublishesPlanned (Some planned) most old new = (new.queue ≡ old.queue) × PublishesAdditions planned.region most old.pass new.pass

-- nothing was published through an end yet (own)
abbrev pub IsUnused : ClientEnd → Type 0
IsUnused end = accesses end.pass ≡ []

-- all that a pass ever published are at most so many packets, each of which adds 1 in a region (own)
pub record IsOfAdditions (region : RegionHandle) (most : ℕ) (pass : ProducerSeen) : Type 0 where
  pub bytes : List ℕ
  pub packet : PacketOf bytes (addition region)
  pub of_words : AreOfWords (words_of bytes) (accesses pass)
  pub few : reserved (accesses pass) ≤ most

-- all that a pass ever published is what is planned; where nothing is, none (own)
abbrev pub IsPlannedPass : Option PlannedQueue → ℕ → ProducerSeen → Type 0
IsPlannedPass None most pass = accesses pass ≡ []
IsPlannedPass (Some planned) most pass = IsOfAdditions planned.region most pass

-- all that was published through an end is what the plan has for its queue, at most so many packets (own)
abbrev pub IsPlannedEnd : List PlannedQueue → ℕ → ClientEnd → Type 0
IsPlannedEnd plan most end = IsPlannedPass (planned_at plan end.queue.0) most end.pass

-- an end became one that is of the broker's ring for its queue, through which what is planned was published, if nothing was before (own)
pub record Produces (rings : List QueueRing) (plan : List PlannedQueue) (most : ℕ) (old new : ClientEnd) : Type 0 where
  pub is : IsEndOf rings new
  pub planned : IsUnused old → IsPlannedEnd plan most new

-- the end at each place did (own)
abbrev pub EachProduces : List QueueRing → List PlannedQueue → ℕ → List ClientEnd → List ClientEnd → Type 0
EachProduces rings plan most old new = (place : ℕ) (d : ClientEnd) → place < length old → Produces rings plan most (slice_index_or old place d) (slice_index_or new place d)
