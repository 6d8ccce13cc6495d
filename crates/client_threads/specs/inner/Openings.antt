-- What the steps of an opening say.
use Rattle.std.specs.Prelude.{◌≡◌, ◌≤◌, ℕ, true, false, List, [], ◌∷◌, ◌++◌, map}
use Rattle.aql_packet.specs.declared.ids.QueueId.{QueueId}
use Rattle.core_model.specs.declared.event.Event.{Event}
use Rattle.core_model.specs.declared.outcome.Outcome.TheVariants as outcome
use Rattle.core_model.specs.History.{History}
use Rattle.core_model.specs.Legal.{due}
use Rattle.core_model.specs.Limits.{most_queues}
use Rattle.core_model.specs.Owed.{enters}
use Rattle.ring_core.specs.Machine.{is_producer_count}
use Rattle.ring.specs.Dealt.{dealt, new_processor_pass}
use Rattle.ring.specs.Passes.{ProcessorSeen}
use Rattle.client_threads.specs.declared.client_end.ClientEnd.{ClientEnd}
use Rattle.client_threads.specs.declared.opening.Beside.{Beside}
use Rattle.client_threads.specs.Desks.{seen}
use Rattle.client_threads.specs.Opening.{as_end, next_queue}
use Rattle.client_threads.specs.Rings.{QueueRing}

-- an opening makes this queue, which is the next, and one of those that a broker opens in its life (own)
pub record IsOpenable (history : History) (event : Event) (queue : QueueId) : Type 0 where
  pub due_is : due history event ≡ enters (outcome.Opened queue) []
  pub next : queue.0 ≡ next_queue history
  pub few : queue.0 ≤ most_queues

-- this was made for a queue: a ring of this size, its ends, and the pass of its lane
pub record IsBeside (queue : QueueId) (size producers : ℕ) (made : Beside) : Type 0 where
  pub queue_is : made.desk.queue ≡ queue
  pub size_is : (seen made.desk).ring.size ≡ size
  pub producers_is : (seen made.desk).ring.producers ≡ producers
  pub few : is_producer_count producers ≡ true
  pub ends_are : made.ends.items ≡ map (as_end queue) (dealt (seen made.desk).ring.table producers)
  pub pass_is : made.pass ≡ new_processor_pass (seen made.desk).ring.table

-- it is the broker's from now on
pub record HasEntered (made : Beside) (old new : List QueueRing) (queue : QueueId) (ends : List ClientEnd) (pass : ProcessorSeen) : Type 0 where
  pub queue_is : queue ≡ made.desk.queue
  pub ends_are : ends ≡ made.ends.items
  pub pass_is : pass ≡ made.pass
  pub rings_are : new ≡ old ++ seen made.desk ∷ []

-- a pass that retired nothing, to one of the queues that a broker opens in its life
pub record IsUnused (queue : QueueId) (pass : ProcessorSeen) : Type 0 where
  pub few : queue.0 ≤ most_queues
  pub none : pass.part.retired ≡ []
  pub resting : pass.part.raising ≡ false
