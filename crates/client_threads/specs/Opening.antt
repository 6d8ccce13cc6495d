-- What opening a broker and its queues makes (own).
use Rattle.std.specs.Prelude.{◌≡◌, ◌⊎◌, ℕ, ◌+◌, ◌<◌, ◌≤◌, List, [], ◌∷◌, ◌++◌, map, None, Result, Ok, Err, ⊤}
use Rattle.atomic_table.specs.Seated.{TableId}
use Rattle.aql_packet.specs.declared.ids.ClientId.{ClientId}
use Rattle.aql_packet.specs.declared.ids.AgentHandle.{AgentHandle}
use Rattle.aql_packet.specs.declared.ids.QueueId.{QueueId}
use Rattle.policy.specs.Policy.{Declared}
use Rattle.policy.specs.Results.{map_ok}
use Rattle.core_model.specs.declared.event.Event.{Event}
use Rattle.core_model.specs.declared.event.Event.TheVariants.{Open}
use Rattle.core_model.specs.declared.outcome.Outcome.{Outcome}
use Rattle.core_model.specs.declared.outcome.Outcome.TheVariants as outcome
use Rattle.core_model.specs.declared.refusal.Refusal.{Refusal}
use Rattle.core_model.specs.declared.refusal.Refusal.TheVariants as refusal
use Rattle.core_model.specs.History.{History, beginning}
use Rattle.core_model.specs.Legal.{MeetsOrLacks, due}
use Rattle.core_model.specs.Limits.{most_queues}
use Rattle.core_model.specs.Owed.{enters}
use Rattle.core_model.specs.Queues.{openings}
use Rattle.access_core.specs.Cores.{Core}
use Rattle.access_core.specs.Opening.{Opens}
use Rattle.access_core.specs.declared.access.OpenFault.{OpenFault}
use Rattle.access_core.specs.declared.kernel.Kernel.{Kernel}
use Rattle.ring_core.specs.Machine.{judged_size}
use Rattle.ring.specs.Passes.{RingSeen, ProcessorSeen, ProducerSeen}
use Rattle.ring.specs.Dealt.{dealt, new_processor_pass}
use Rattle.client_threads.specs.declared.client_end.ClientEnd.{ClientEnd}
use Rattle.client_threads.specs.Boards.{FrontSeen}
use Rattle.client_threads.specs.Lanes.{LaneSeen}
use Rattle.client_threads.specs.Rings.{QueueRing, ring_of}

-- a broker that has no name yet: its board, and its core
pub record UnnamedSeen : Type 0 where
  pub board : TableId
  pub core : Core

-- a broker is opened, or refused, just as its core is
abbrev pub OpensBroker : Declared → List Kernel → ℕ → Result UnnamedSeen OpenFault → Type 0
OpensBroker policy kernels capacity result = Opens policy kernels capacity (map_ok (λ broker. broker.core) result)

-- the call of the core that opens a queue: a number of producers that no ring has counts as a size that no ring has
abbrev pub opening_event : ClientId → AgentHandle → ℕ → ℕ → Event
opening_event client agent size producers = Open client agent (judged_size size producers)

-- how many queues were ever opened (own)
abbrev pub opened_so_far : History → ℕ
opened_so_far history = (openings (beginning history) history.entries).opened

-- the number of the queue that is opened next (own)
abbrev pub next_queue : History → ℕ
next_queue history = opened_so_far history + 1

-- the core would open a queue behind the last that a broker opens in its life, where closed ones count: it is refused, and all stays (own)
pub record IsBehindLast (event : Event) (before : History) (reply : Result Outcome Refusal) (after : History) : Type 0 where
  pub queue : QueueId
  pub due_is : due before event ≡ enters (outcome.Opened queue) []
  pub behind : most_queues < queue.0
  pub reply_is : reply ≡ Err refusal.TooMany
  pub history_is : after ≡ before

-- a queue that is opened is one of those that a broker opens in its life (own)
abbrev pub IsOneOfFew : Result Outcome Refusal → Type 0
IsOneOfFew (Ok (outcome.Opened queue)) = queue.0 ≤ most_queues
IsOneOfFew _ = ⊤

-- a queue is opened, or refused, just as the core does it; but none behind the last (own)
abbrev pub OpensQueue : Event → History → Result Outcome Refusal → History → Type 0
OpensQueue event before reply after = (MeetsOrLacks event before after reply × IsOneOfFew reply) ⊎ IsBehindLast event before reply after

-- a core opened the queue with this number, which may be closed by now (own)
abbrev pub HasOpened : Core → ℕ → Type 0
HasOpened core queue = (0 < queue) × (queue ≤ opened_so_far core.history)

-- each of these rings is of a queue that this core opened
abbrev pub AreOpened : Core → List QueueRing → Type 0
AreOpened core [] = ⊤
AreOpened core (r ∷ rs) = HasOpened core r.queue × AreOpened core rs

abbrev pub as_end : QueueId → ProducerSeen → ClientEnd
as_end queue pass = record { queue = queue; pass = pass }

-- a lane that served nothing
abbrev pub new_lane : QueueId → ProcessorSeen → FrontSeen → LaneSeen
new_lane queue pass front = record { queue = queue; pass = pass; served = []; kept = []; pending = []; front = front }

-- a queue was opened: it has a ring of this size, which it had not, with an end for each of its producers, and a lane that served nothing,
-- with this front
pub record IsOpened (old : List QueueRing) (size producers : ℕ) (front : FrontSeen) (queue : QueueId) (ends : List ClientEnd) (lane : LaneSeen) (new : List QueueRing) : Type 0 where
  pub ring : RingSeen
  pub size_is : ring.size ≡ size
  pub producers_is : ring.producers ≡ producers
  pub fresh : ring_of queue.0 old ≡ None
  pub rings : new ≡ old ++ record { queue = queue.0; ring = ring } ∷ []
  pub ends_are : ends ≡ map (as_end queue) (dealt ring.table producers)
  pub lane_is : lane ≡ new_lane queue (new_processor_pass ring.table) front

-- the front of an opening before the lane that was opened got a share of it
abbrev pub before_lane : {X : Type 0} → Result X Refusal → FrontSeen → FrontSeen
before_lane (Ok opened) front = record front { share = front.share + 1 }
before_lane (Err why) front = front
