-- What becomes of the core and of the rings, request by request, as the code serves them.
use Rattle.std.specs.Prelude.{◌≡◌, ◌==◌, ℕ, true, false, List, [], ◌∷◌, ◌++◌, Option, Some, None, Result, Ok, Err, if◌then◌else◌}
use Rattle.aql_packet.specs.declared.ids.AgentHandle.{AgentHandle}
use Rattle.aql_packet.specs.declared.ids.ClientId.{ClientId}
use Rattle.aql_packet.specs.declared.ids.QueueId.{QueueId}
use Rattle.core_model.specs.declared.answer.Answer.TheVariants as told
use Rattle.core_model.specs.declared.event.Event.TheVariants.{Open}
use Rattle.core_model.specs.declared.event.CoreRequest.{CoreRequest as Asked}
use Rattle.core_model.specs.declared.event.CoreRequest.TheVariants as asked
use Rattle.core_model.specs.declared.outcome.Outcome.TheVariants as outcome
use Rattle.core_model.specs.declared.outcome.Taken.{Taken}
use Rattle.core_model.specs.declared.outcome.Taken.TheVariants as taken
use Rattle.core_model.specs.declared.refusal.Refusal as cores
use Rattle.core_model.specs.declared.refusal.Refusal.TheVariants as why
use Rattle.core_model.specs.History.{History}
use Rattle.core_model.specs.History.{Part as Handed}
use Rattle.core_model.specs.Rotation.{Rotates}
use Rattle.policy.specs.Results.{map_ok}
use Rattle.core_model.specs.Legal.{MeetsOrLacks, due}
use Rattle.core_model.specs.Owed.{enters}
use Rattle.core_model.specs.Queries.{AnswerOrRefusal}
use Rattle.core_model.specs.Legal as cores_law
use Rattle.ring_core.specs.Parts.{collected_packet}
use Rattle.ring_core.specs.Machine.{opened, read_index, judged_size}
use Rattle.ring_core.specs.Rule.{processor_of}
use Rattle.world.specs.declared.queue_ring.QueueRing.{QueueRing}
use Rattle.world.specs.declared.request.Request.{Request}
use Rattle.world.specs.declared.request.Request.TheVariants as request
use Rattle.world.specs.declared.reply.Answer.TheVariants as answer
use Rattle.world.specs.declared.reply.Refusal.TheVariants as refusal
use Rattle.world.specs.declared.queue_ring.Next.{Next}
use Rattle.world.specs.Dues.{Reply, closed_by, of_core, rotated_reply, taking}
use Rattle.world.specs.Making.{MakesAt, ring_in, with_queue_ring}

-- a queue has a ring
abbrev pub HasRing : List QueueRing → QueueId → Type 0
HasRing rings queue = (ring : QueueRing) × (ring_in rings queue ≡ Some ring)

-- the packet that a ring's processor has collected whole, with its id
abbrev pub next_where : ℕ → Option (List ℕ) → Option Next
next_where index None = None
next_where index (Some words) = Some (record { packet = record { 0 = index }; words = words })

abbrev pub next_of : QueueRing → Option Next
next_of r = next_where (read_index r.ring) (collected_packet (processor_of r.ring.parts))

-- a queue's processor has collected this packet
abbrev pub IsNext : List QueueRing → QueueId → Next → Type 0
IsNext rings queue next = (ring : QueueRing) × (ring_in rings queue ≡ Some ring) × (next_of ring ≡ Some next)

-- what a hand-over is told
abbrev pub told_taken : ℕ → Result Taken cores.Refusal → Reply
told_taken id (Ok became) = Ok (answer.Taken (record { 0 = id }) became)
told_taken id (Err why) = Err (refusal.Core why)

-- a queue's ring after its packet was handed over
abbrev pub decided_by : Taken → QueueRing → QueueRing
decided_by (taken.Waiting cause) r = r
decided_by _ r = record { queue = r.queue; ring = r.ring; decided = true }

abbrev pub ring_taken : QueueRing → Result Taken cores.Refusal → QueueRing
ring_taken r (Ok became) = decided_by became r
ring_taken r (Err why) = r

-- the rings follow what became of a queue's packet
abbrev pub RingFollows : Option QueueRing → QueueId → Taken → List QueueRing → List QueueRing → Type 0
RingFollows None queue became old new = ⊥
RingFollows (Some r) queue became old new = new ≡ with_queue_ring old queue (decided_by became r)

-- the packet collected was handed over, if there is one
abbrev pub HandsOver : Option (List ℕ) → QueueRing → QueueId → History → List QueueRing → Reply → History → List QueueRing → Type 0
HandsOver None r queue core old reply core' new = (reply ≡ Err refusal.NotAStep) × (core' ≡ core) × (new ≡ old)
HandsOver (Some words) r queue core old reply core' new =
    (became : Result Taken cores.Refusal) × MeetsOrLacks (taking queue (read_index r.ring) words) core core' (map_ok outcome.Taken became)
    × (reply ≡ told_taken (read_index r.ring) became) × (new ≡ with_queue_ring old queue (ring_taken r became))

abbrev pub TakesAt : Option QueueRing → QueueId → History → List QueueRing → Reply → History → List QueueRing → Type 0
TakesAt None queue core old reply core' new = (reply ≡ Err (refusal.Core why.UnknownQueue)) × (core' ≡ core) × (new ≡ old)
TakesAt (Some r) queue core old reply core' new = HandsOver (collected_packet (processor_of r.ring.parts)) r queue core old reply core' new

-- a ring in which nothing happened
abbrev pub new_ring : QueueId → ℕ → ℕ → QueueRing
new_ring queue size producers = record { queue = queue; ring = opened size producers; decided = false }

-- what an opening is told, and the rings after it
abbrev pub told_opened : Result QueueId cores.Refusal → Reply
told_opened (Ok queue) = Ok (answer.Core (told.Outcome (outcome.Opened queue)))
told_opened (Err why) = Err (refusal.Core why)

abbrev pub rings_opened : List QueueRing → ℕ → ℕ → Result QueueId cores.Refusal → List QueueRing
rings_opened rings size producers (Ok queue) = rings ++ new_ring queue size producers ∷ []
rings_opened rings size producers (Err why) = rings

-- the core allows a queue to be opened, under this number
abbrev pub MayOpen : History → ClientId → AgentHandle → ℕ → ℕ → QueueId → Type 0
MayOpen core client agent size producers queue = due core (Open client agent (judged_size size producers)) ≡ enters (outcome.Opened queue) []

-- a queue was opened with its ring, or refused by the core
abbrev pub Opens : ClientId → AgentHandle → ℕ → ℕ → History → List QueueRing → Reply → History → List QueueRing → Type 0
Opens client agent size producers core old reply core' new =
    (made : Result QueueId cores.Refusal) × MeetsOrLacks (Open client agent (judged_size size producers)) core core' (map_ok outcome.Opened made)
    × (reply ≡ told_opened made) × (new ≡ rings_opened old size producers made)

-- the core served a request, and told this
abbrev pub Asks : Asked → History → Reply → History → Type 0
Asks wanted core reply core' = (replied : AnswerOrRefusal) × cores_law.IsServed core wanted replied core' × (reply ≡ of_core replied)

-- rings without that of a queue (own)
abbrev pub without : List QueueRing → QueueId → List QueueRing
without [] queue = []
without (r ∷ rings) queue = if r.queue.0 == queue.0 then rings else r ∷ without rings queue

-- the rings of closed queues with one more, if there is one (own)
abbrev pub with_gone : List QueueRing → Option QueueRing → List QueueRing
with_gone gone None = gone
with_gone gone (Some r) = gone ++ r ∷ []

-- the rings that are kept, and those that were, once a call that closes a queue, or none, was told this (own)
abbrev pub Leaves : Option QueueId → Reply → List QueueRing → List QueueRing → List QueueRing → List QueueRing → Type 0
Leaves (Some queue) (Ok told) old gone new gone' = (new ≡ without old queue) × (gone' ≡ with_gone gone (ring_in old queue))
Leaves (Some queue) (Err why) old gone new gone' = (new ≡ old) × (gone' ≡ gone)
Leaves None reply old gone new gone' = (new ≡ old) × (gone' ≡ gone)

-- the core's audit was handed out, and told so (own)
abbrev pub HandsOut : History → Reply → History → Type 0
HandsOut core reply core' = (made : Result Handed cores.Refusal) × Rotates core made core' × (reply ≡ rotated_reply made)

-- any request: the core, the rings that are kept, and those of closed queues (own)
abbrev pub Obeys : Request → History → List QueueRing → List QueueRing → Reply → History → List QueueRing → List QueueRing → Type 0
Obeys (request.Step queue step) core old gone reply core' new gone' = MakesAt (ring_in old queue) queue step old reply new × (core' ≡ core) × (gone' ≡ gone)
Obeys (request.Take queue) core old gone reply core' new gone' = TakesAt (ring_in old queue) queue core old reply core' new × (gone' ≡ gone)
Obeys (request.OpenQueue client agent size producers) core old gone reply core' new gone' = Opens client agent size producers core old reply core' new × (gone' ≡ gone)
Obeys (request.Call call) core old gone reply core' new gone' = Asks (asked.Call call) core reply core' × Leaves (closed_by call) reply old gone new gone'
Obeys (request.Query query) core old gone reply core' new gone' = Asks (asked.Query query) core reply core' × (new ≡ old) × (gone' ≡ gone)
Obeys (request.Reload policy) core old gone reply core' new gone' = Asks (asked.Reload policy) core reply core' × (new ≡ old) × (gone' ≡ gone)
Obeys request.Rotate core old gone reply core' new gone' = HandsOut core reply core' × (new ≡ old) × (gone' ≡ gone)
