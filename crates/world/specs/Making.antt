-- The steps on a queue's ring, as the code takes them.
use Rattle.std.specs.Prelude.{ℕ, suc, ◌≡◌, ◌==◌, ◌||◌, ◌<◌, nat_le, ◌⊎◌, Bool, true, false, List, [], ◌∷◌, fold, length, map, slice_get, slice_set, Option, Some, None, Ok, Err, if◌then◌else◌}
use Rattle.aql_packet.specs.declared.ids.QueueId.{QueueId}
use Rattle.core_model.specs.declared.refusal.Refusal.TheVariants as why
use Rattle.core_model.specs.History.{History}
use Rattle.ring_core.specs.declared.access.Access.{Access}
use Rattle.ring_core.specs.declared.access.Access.TheVariants.{RaiseReadIndex}
use Rattle.ring_core.specs.declared.access.Step.{Step}
use Rattle.ring_core.specs.Machine.{found, made, read_index}
use Rattle.world.specs.declared.queue_ring.QueueRing.{QueueRing}
use Rattle.world.specs.declared.reply.Refusal.{Refusal}
use Rattle.world.specs.declared.reply.Refusal.TheVariants as refusal
use Rattle.world.specs.Dues.{Reply, answer_to, hindrance, is_decided, reserves}
use Rattle.world.specs.States.{Rings, queue_machine}

-- where a queue's ring stands among rings: behind the last, where the queue has none (own)
abbrev pub place_in : List QueueRing → QueueId → ℕ
place_in [] queue = 0
place_in (r ∷ rings) queue = if r.queue.0 == queue.0 then 0 else suc (place_in rings queue)

-- the ring of a queue among rings, if it has one (own)
abbrev pub ring_in : List QueueRing → QueueId → Option QueueRing
ring_in rings queue = slice_get rings (place_in rings queue)

-- the place of a queue's ring, if it has one (own)
abbrev pub IsOpenPlace : List QueueRing → QueueId → Option ℕ → Type 0
IsOpenPlace rings queue None = ring_in rings queue ≡ None
IsOpenPlace rings queue (Some place) = (place < length rings) × (place ≡ place_in rings queue) × (ring : QueueRing) × (ring_in rings queue ≡ Some ring)

-- the rings alone, with their queues (own)
abbrev pub rings_of : List QueueRing → Rings
rings_of rings = map (λ r. queue_machine r.queue r.ring) rings

-- of the next queue behind one so far, if there is one, and another, the nearer (own)
abbrev pub nearer : QueueId → Option QueueId → QueueId → Option QueueId
nearer queue None other = if nat_le other.0 queue.0 then None else Some other
nearer queue (Some found) other = if nat_le other.0 queue.0 || nat_le found.0 other.0 then Some found else Some other

-- the queue with a ring whose number is the least behind this one (own)
abbrev pub queue_after : List QueueRing → QueueId → Option QueueId
queue_after rings queue = fold (λ next r. nearer queue next r.queue) None rings

-- what is kept beside a ring is what the history says of the packet at its read index
abbrev pub AreDecided : History → List QueueRing → Type 0
AreDecided core rings = (queue : QueueId) (r : QueueRing) → ring_in rings queue ≡ Some r → r.decided ≡ is_decided core queue r.ring

-- a new packet at the read index is not decided
abbrev pub decided_after : Bool → Access → Bool
decided_after decided RaiseReadIndex = false
decided_after decided _ = decided

-- a queue's ring after a step
abbrev pub ring_made : QueueRing → Step → QueueRing
ring_made old step = record { queue = old.queue; ring = made old.ring step; decided = decided_after old.decided step.access }

-- the rings with another in the place of a queue's
abbrev pub with_queue_ring : List QueueRing → QueueId → QueueRing → List QueueRing
with_queue_ring rings queue ring = slice_set rings (place_in rings queue) ring

-- a step was made on a ring, or refused, or memory was wanted for the id that it reserves
abbrev pub MakesWhere : Option Refusal → QueueRing → Step → Reply → QueueRing → Type 0
MakesWhere (Some why) old step reply new = (reply ≡ Err why) × (new ≡ old)
MakesWhere None old step reply new =
    ((reply ≡ Ok (answer_to step.access (read_index old.ring) (found old.ring step))) × (new ≡ ring_made old step))
    ⊎ ((reserves step.access ≡ true) × (reply ≡ Err (refusal.Core why.OutOfMemory)) × (new ≡ old))

abbrev pub MakesOn : QueueRing → Step → Reply → QueueRing → Type 0
MakesOn old step reply new = MakesWhere (hindrance old.decided old.ring step) old step reply new

-- a step was asked for on the ring of a queue, if it is open (own)
abbrev pub MakesAt : Option QueueRing → QueueId → Step → List QueueRing → Reply → List QueueRing → Type 0
MakesAt None queue step old reply new = (reply ≡ Err (refusal.Core why.UnknownQueue)) × (new ≡ old)
MakesAt (Some ring) queue step old reply new = (after : QueueRing) × MakesOn ring step reply after × (new ≡ with_queue_ring old queue after)
