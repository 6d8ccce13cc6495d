-- A reservation, made on its ring at once, is the request for its step.
use Rattle.std.proofs.Common.{ℕ, List, refl, ap, Option, Some, None, Result, Ok, Err, inl, inr}
use Rattle.aql_packet.specs.declared.ids.QueueId.{QueueId}
use Rattle.core_model.specs.History.{History}
use Rattle.ring_core.specs.declared.access.Access.TheVariants.{Reserve}
use Rattle.ring_core.specs.declared.access.Seen.TheVariants as seen
use Rattle.ring_core.specs.InTurn.{step_by}
use Rattle.world.specs.declared.queue_ring.QueueRing.{QueueRing}
use Rattle.world.specs.declared.reply.Answer.TheVariants as answer
use Rattle.world.specs.declared.reply.Refusal.{Refusal}
use Rattle.world.specs.declared.request.Request.TheVariants as request
use Rattle.world.specs.Actions.{asks, reads}
use Rattle.world.specs.Dues.{IsServed, Reply, hindrance}
use Rattle.world.specs.Making.{MakesAt, MakesWhere, ring_in}
use Rattle.world.specs.Obeying.{Obeys}
use Rattle.world.specs.States.{Joined}
use Rattle.world.specs.inner.Calling.{CallsAt, ReservesOn, ReservesWhere}

-- what the request for the step is told
abbrev pub as_step : Result ℕ Refusal → Reply
as_step (Ok ticket) = Ok (answer.Step (seen.Read ticket))
as_step (Err why) = Err why

makes_where : (o : Option Refusal) (producer : ℕ) (old : QueueRing) (result : Result ℕ Refusal) (new : QueueRing) → ReservesWhere o producer old result new
    → MakesWhere o old (step_by producer Reserve) (as_step result) new
makes_where (Some why) producer old result new (told, same) = (ap as_step told, same)
makes_where None producer old result new (inl (told, made)) = inl (ap as_step told, made)
makes_where None producer old result new (inr (told, same)) = inr (refl, ap as_step told, same)

makes_at : (o : Option QueueRing) (queue : QueueId) (producer : ℕ) (old : List QueueRing) (result : Result ℕ Refusal) (new : List QueueRing) → CallsAt (ReservesOn producer) o queue old result new
    → MakesAt o queue (step_by producer Reserve) old (as_step result) new
makes_at None queue producer old result new (told, same) = (ap as_step told, same)
makes_at (Some ring) queue producer old result new (after, on, put) = (after, makes_where (hindrance ring.decided ring.ring (step_by producer Reserve)) producer ring result after on, put)

-- so the code obeys that request
pub reserving : (core : History) (gone : List QueueRing) (queue : QueueId) (producer : ℕ) (old : List QueueRing) (result : Result ℕ Refusal) (new : List QueueRing) → CallsAt (ReservesOn producer) (ring_in old queue) queue old result new
    → Obeys (request.Step queue (step_by producer Reserve)) core old gone (as_step result) core new gone
reserving core gone queue producer old result new called = (makes_at (ring_in old queue) queue producer old result new called, refl, refl)

-- and reads what it is told
pub reserved : (queue : QueueId) (producer : ℕ) (old : Joined) (result : Result ℕ Refusal) (new : Joined) → IsServed old (request.Step queue (step_by producer Reserve)) (as_step result) new
    → reads queue producer Reserve old result new
unfolding asks
reserved queue producer old (Ok ticket) new served = (Ok (answer.Step (seen.Read ticket)), new, served, (refl, refl))
reserved queue producer old (Err why) new served = (Err why, new, served, (refl, refl))
