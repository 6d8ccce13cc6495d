-- What the code does to the core and to the rings is what the world owes.
use Rattle.std.proofs.Common.{◌≡◌, ℕ, List, true, refl, sym, ap, ◌∙◌, subst, Option, Some, None, Result, Ok, Err, inl, inr}
use Rattle.std.specs.Prelude.{option_map}
use Rattle.aql_packet.specs.declared.ids.AgentHandle.{AgentHandle}
use Rattle.aql_packet.specs.declared.ids.ClientId.{ClientId}
use Rattle.aql_packet.specs.declared.ids.QueueId.{QueueId}
use Rattle.policy.specs.Policy.{Declared}
use Rattle.core_model.specs.declared.event.Event.{Event}
use Rattle.core_model.specs.declared.event.Event.TheVariants.{Open}
use Rattle.core_model.specs.declared.event.Query.{Query}
use Rattle.core_model.specs.declared.event.CoreRequest.TheVariants as asked
use Rattle.core_model.specs.declared.outcome.Outcome.{Outcome}
use Rattle.core_model.specs.declared.outcome.Outcome.TheVariants as outcome
use Rattle.core_model.specs.declared.outcome.Taken.{Taken}
use Rattle.core_model.specs.declared.outcome.Taken.TheVariants as taken
use Rattle.core_model.specs.declared.refusal.Refusal as cores
use Rattle.core_model.specs.History.{History}
use Rattle.core_model.specs.Legal as cores_law
use Rattle.policy.specs.Results.{map_ok}
use Rattle.core_model.specs.Legal.{LacksMemory, MeetsOrLacks, as_reply, due, reply_of}
use Rattle.ring_core.specs.declared.access.Step.{Step}
use Rattle.ring_core.specs.Parts.{collected_packet}
use Rattle.ring_core.specs.Machine.{made, read_index, judged_size}
use Rattle.ring_core.specs.Rule.{processor_of}
use Rattle.world.specs.declared.queue_ring.QueueRing.{QueueRing}
use Rattle.core_model.specs.declared.call.Call.{Call}
use Rattle.world.specs.declared.request.Request.{Request}
use Rattle.world.specs.declared.request.Request.TheVariants as request
use Rattle.world.specs.declared.reply.Refusal.{Refusal}
use Rattle.world.specs.States.{Joined, joined, ring_of}
use Rattle.world.specs.States.{put as put_ring}
use Rattle.core_model.specs.declared.event.Event.TheVariants as event
use Rattle.world.specs.Dues.{IsServed, Meets, Reply, closed_by, due_collected, due_step, due_take, due_where, hindrance, is_decided, lacks_memory, left_by, of_core, rings_after, taken_reply, taking}
use Rattle.world.specs.Making.{AreDecided, MakesAt, MakesWhere, ring_in, rings_of, with_queue_ring}
use Rattle.world.specs.Obeying.{Asks, HandsOut, HandsOver, Leaves, Obeys, Opens, TakesAt, new_ring, ring_taken, rings_opened, told_opened, told_taken}
use Rattle.world.proofs.Places.{closed_with, ring_among, ring_is_its, rings_more, rings_put, rings_stay, rings_without}

abbrev pub World : History → List QueueRing → List QueueRing → Joined
World core rings gone = joined core (rings_of rings) (rings_of gone)

-- the ring of a queue, by what is kept of it
pub ring_is : (core : History) (rings gone : List QueueRing) (queue : QueueId) (o : Option QueueRing) → ring_in rings queue ≡ o → ring_of (World core rings gone) queue ≡ option_map (λ r. r.ring) o
ring_is core rings gone queue o found = ring_among rings queue ∙ ap (option_map (λ (r : QueueRing). r.ring)) found

-- told as it is kept
pub ring_told : (core : History) (rings gone : List QueueRing) (queue : QueueId) (o : Option QueueRing) → o ≡ ring_in rings queue → option_map (λ r. r.ring) o ≡ ring_of (World core rings gone) queue
ring_told core rings gone queue o found = ap (option_map (λ (r : QueueRing). r.ring)) found ∙ sym (ring_among rings queue)

pub none_there : (o : Option QueueRing) → option_map (λ r. r.ring) o ≡ None → o ≡ None
none_there None e = refl
none_there (Some r) e = absurd (cc)

-- an event that was told that memory was wanted may be told so
both : {old new : History} {reply : Result Outcome cores.Refusal} (event : Event) → LacksMemory event old new reply → lacks_memory old event (due old event) ≡ true
both event lacks = rw (lacks.may, lacks.asks) refl

-- a queue's ring stays its own
pub taken_its : (r : QueueRing) (became : Result Taken cores.Refusal) → (ring_taken r became).queue.0 ≡ r.queue.0
taken_its r (Ok taken.Launched) = refl
taken_its r (Ok (taken.Denied error)) = refl
taken_its r (Ok (taken.Waiting cause)) = refl
taken_its r (Err why) = refl

pub made_its : (o : Option Refusal) (r after : QueueRing) (step : Step) (reply : Reply) → MakesWhere o r step reply after → after.queue.0 ≡ r.queue.0
made_its (Some why) r after step reply (told, is) = ap (λ (x : QueueRing). x.queue.0) is
made_its None r after step reply (inl (told, is)) = ap (λ (x : QueueRing). x.queue.0) is
made_its None r after step reply (inr (may, told, is)) = ap (λ (x : QueueRing). x.queue.0) is

module _ (core core' : History) (old gone new gone' : List QueueRing) (decided : AreDecided core old) (reply : Reply) where
  -- ---- steps

  step_served : (queue : QueueId) (step : Step) → MakesAt (ring_in old queue) queue step old reply new × (core' ≡ core) × (gone' ≡ gone) → IsServed (World core old gone) (request.Step queue step) reply (World core' new gone')
  step_served queue step (makes, same, still) = by_ring (ring_in old queue) refl makes
    where
      by_hindrance : (r after : QueueRing) (o : Option Refusal) → MakesWhere o r step reply after → after.queue.0 ≡ queue.0 → new ≡ with_queue_ring old queue after → ring_in old queue ≡ Some r
          → Meets (World core old gone) (due_where (World core old gone) queue r.ring step o) reply (World core' new gone')
      by_hindrance r after (Some why) (told, is) its put found =
          let kept : rings_of new ≡ rings_of old = ap rings_of put ∙ rings_stay old queue r after found its (ap (λ x. x.ring) is) in
          inl (told, λ i. joined (same i) (kept i) (rings_of (still i)))
      by_hindrance r after None (inl (told, is)) its put found =
          let kept : rings_of new ≡ put_ring (rings_of old) queue (made r.ring step) =
          ap rings_of put ∙ rings_put old queue r after found its ∙ ap (λ (x : QueueRing). put_ring (rings_of old) queue x.ring) is in
          inl (told, λ i. joined (same i) (kept i) (rings_of (still i)))
      by_hindrance r after None (inr (may, told, is)) its put found =
          let kept : rings_of new ≡ rings_of old = ap rings_of put ∙ rings_stay old queue r after found its (ap (λ x. x.ring) is) in
          inr (may, told, λ i. joined (same i) (kept i) (rings_of (still i)))

      by_ring : (o : Option QueueRing) → ring_in old queue ≡ o → MakesAt o queue step old reply new → IsServed (World core old gone) (request.Step queue step) reply (World core' new gone')
      by_ring None found (told, is) =
          subst (λ x. Meets (World core old gone) (due_step (World core old gone) queue step x) reply (World core' new gone')) (sym (ring_is core old gone queue None found))
          (inl (told, λ i. joined (same i) (rings_of (is i)) (rings_of (still i))))
      by_ring (Some r) found (after, makes, put) =
          let d : r.decided ≡ is_decided core queue r.ring = decided queue r found in
          let its : after.queue.0 ≡ queue.0 = made_its (hindrance r.decided r.ring step) r after step reply makes ∙ ring_is_its old queue r found in
          subst (λ x. Meets (World core old gone) (due_step (World core old gone) queue step x) reply (World core' new gone')) (sym (ring_is core old gone queue (Some r) found))
          (subst (λ b. Meets (World core old gone) (due_where (World core old gone) queue r.ring step (hindrance b r.ring step)) reply (World core' new gone')) d
          (by_hindrance r after (hindrance r.decided r.ring step) makes its put found))

  -- ---- takes

  told_as : (id : ℕ) (became : Result Taken cores.Refusal) → told_taken id became ≡ taken_reply id (map_ok outcome.Taken became)
  told_as id (Ok became) = refl
  told_as id (Err why) = refl

  same_ring : (r : QueueRing) (became : Result Taken cores.Refusal) → (ring_taken r became).ring ≡ r.ring
  same_ring r (Ok taken.Launched) = refl
  same_ring r (Ok (taken.Denied error)) = refl
  same_ring r (Ok (taken.Waiting cause)) = refl
  same_ring r (Err why) = refl

  take_served : (queue : QueueId) → TakesAt (ring_in old queue) queue core old reply core' new × (gone' ≡ gone) → IsServed (World core old gone) (request.Take queue) reply (World core' new gone')
  take_served queue (takes, still) = by_ring (ring_in old queue) refl takes
    where
      by_packet : (r : QueueRing) → ring_in old queue ≡ Some r → (packet : Option (List ℕ)) → HandsOver packet r queue core old reply core' new
          → Meets (World core old gone) (due_collected (World core old gone) queue (read_index r.ring) packet) reply (World core' new gone')
      by_packet r found None (told, same, is) = inl (told, λ i. joined (same i) (rings_of (is i)) (rings_of (still i)))
      by_packet r found (Some words) (became, meets, told, put) = by_due meets
        where
          kept : rings_of new ≡ rings_of old
          kept = ap rings_of put ∙ rings_stay old queue r (ring_taken r became) found (taken_its r became ∙ ring_is_its old queue r found) (same_ring r became)

          by_due : MeetsOrLacks (taking queue (read_index r.ring) words) core core' (map_ok outcome.Taken became)
              → Meets (World core old gone) (due_collected (World core old gone) queue (read_index r.ring) (Some words)) reply (World core' new gone')
          by_due (inl m) = inl (told ∙ told_as (read_index r.ring) became ∙ ap (taken_reply (read_index r.ring)) m.reply_is, λ i. joined (m.history_is i) (kept i) (rings_of (still i)))
          by_due (inr l) =
              inr (both (taking queue (read_index r.ring) words) l, told ∙ told_as (read_index r.ring) became ∙ ap (taken_reply (read_index r.ring)) l.reply_is, λ i. joined (l.history_is i) (kept i) (rings_of (still i)))

      by_ring : (o : Option QueueRing) → ring_in old queue ≡ o → TakesAt o queue core old reply core' new → IsServed (World core old gone) (request.Take queue) reply (World core' new gone')
      by_ring None found (told, same, is) =
          subst (λ x. Meets (World core old gone) (due_take (World core old gone) queue x) reply (World core' new gone')) (sym (ring_is core old gone queue None found))
          (inl (told, λ i. joined (same i) (rings_of (is i)) (rings_of (still i))))
      by_ring (Some r) found takes =
          subst (λ x. Meets (World core old gone) (due_take (World core old gone) queue x) reply (World core' new gone')) (sym (ring_is core old gone queue (Some r) found))
          (by_packet r found (collected_packet (processor_of r.ring.parts)) takes)

  -- ---- openings

  opened_as : (made : Result QueueId cores.Refusal) → told_opened made ≡ of_core (as_reply (map_ok outcome.Opened made))
  opened_as (Ok queue) = refl
  opened_as (Err why) = refl

  rings_as : (size producers : ℕ) (made : Result QueueId cores.Refusal) → rings_of (rings_opened old size producers made) ≡ rings_after (rings_of old) size producers (map_ok outcome.Opened made)
  rings_as size producers (Ok queue) = rings_more old (new_ring queue size producers)
  rings_as size producers (Err why) = refl

  opening_served : (client : ClientId) (agent : AgentHandle) (size producers : ℕ) → Opens client agent size producers core old reply core' new × (gone' ≡ gone)
      → IsServed (World core old gone) (request.OpenQueue client agent size producers) reply (World core' new gone')
  opening_served client agent size producers ((made, meets, told, put), still) = by_due meets
    where
      by_due : MeetsOrLacks (Open client agent (judged_size size producers)) core core' (map_ok outcome.Opened made)
          → IsServed (World core old gone) (request.OpenQueue client agent size producers) reply (World core' new gone')
      by_due (inl m) =
          let rings : rings_of new ≡ rings_after (rings_of old) size producers (reply_of (due core (Open client agent (judged_size size producers)))) =
          ap rings_of put ∙ rings_as size producers made ∙ ap (rings_after (rings_of old) size producers) m.reply_is in
          inl (told ∙ opened_as made ∙ ap (λ x. of_core (as_reply x)) m.reply_is, λ i. joined (m.history_is i) (rings i) (rings_of (still i)))
      by_due (inr l) =
          let rings : rings_of new ≡ rings_of old = ap rings_of put ∙ rings_as size producers made ∙ ap (rings_after (rings_of old) size producers) l.reply_is in
          inr (
            both (Open client agent (judged_size size producers)) l,
            told ∙ opened_as made ∙ ap (λ x. of_core (as_reply x)) l.reply_is,
            λ i. joined (l.history_is i) (rings i) (rings_of (still i)),
          )

  -- ---- calls

  -- the rings are those that a call leaves
  record IsLeft (o : Option QueueId) (made : Result Outcome cores.Refusal) : Type 0 where
    pub rings : rings_of new ≡ (left_by (World core old gone) o made).rings
    pub closed : rings_of gone' ≡ (left_by (World core old gone) o made).closed

  err_left : (o : Option QueueId) (why : Refusal) → Leaves o (Err why) old gone new gone' → (new ≡ old) × (gone' ≡ gone)
  err_left None why is = is
  err_left (Some queue) why is = is

  some_left : (queue : QueueId) (made : Result Outcome cores.Refusal) → Leaves (Some queue) (of_core (as_reply made)) old gone new gone' → IsLeft (Some queue) made
  some_left queue (Ok told) leaves = record { rings = ap rings_of leaves.0 ∙ rings_without old queue; closed = ap rings_of leaves.1 ∙ closed_with gone old queue }
  some_left queue (Err why) leaves = record { rings = ap rings_of leaves.0; closed = ap rings_of leaves.1 }

  left_as : (o : Option QueueId) (made : Result Outcome cores.Refusal) → Leaves o (of_core (as_reply made)) old gone new gone' → IsLeft o made
  left_as None made leaves = record { rings = ap rings_of leaves.0; closed = ap rings_of leaves.1 }
  left_as (Some queue) made leaves = some_left queue made leaves

  call_served : (wanted : Call) → Asks (asked.Call wanted) core reply core' × Leaves (closed_by wanted) reply old gone new gone' → IsServed (World core old gone) (request.Call wanted) reply (World core' new gone')
  call_served wanted ((replied, served, told), leaves) = by_served served
    where
      by_served : cores_law.IsServed core (asked.Call wanted) replied core' → IsServed (World core old gone) (request.Call wanted) reply (World core' new gone')
      by_served (made, is, inl m) =
          let told_so = told ∙ ap of_core is in
          let left = left_as (closed_by wanted) made (subst (λ (r : Reply). Leaves (closed_by wanted) r old gone new gone') told_so leaves) in
          let rings : rings_of new ≡ (left_by (World core old gone) (closed_by wanted) (reply_of (due core (event.Call wanted)))).rings = left.rings ∙ ap (λ x. (left_by (World core old gone) (closed_by wanted) x).rings) m.reply_is in
          let closed : rings_of gone' ≡ (left_by (World core old gone) (closed_by wanted) (reply_of (due core (event.Call wanted)))).closed = left.closed ∙ ap (λ x. (left_by (World core old gone) (closed_by wanted) x).closed) m.reply_is in
          inl (told ∙ ap of_core (is ∙ ap as_reply m.reply_is), λ i. joined (m.history_is i) (rings i) (closed i))
      by_served (made, is, inr l) =
          let told_so = told ∙ ap of_core (is ∙ ap as_reply l.reply_is) in
          let same = err_left (closed_by wanted) _ (subst (λ (r : Reply). Leaves (closed_by wanted) r old gone new gone') told_so leaves) in
          inr (both (event.Call wanted) l, told_so, λ i. joined (l.history_is i) (rings_of (same.0 i)) (rings_of (same.1 i)))

  -- ---- queries

  query_served : (query : Query) → Asks (asked.Query query) core reply core' × (new ≡ old) × (gone' ≡ gone) → IsServed (World core old gone) (request.Query query) reply (World core' new gone')
  query_served query ((replied, served, told), same, still) = by_served served
    where
      by_served : cores_law.IsServed core (asked.Query query) replied core' → IsServed (World core old gone) (request.Query query) reply (World core' new gone')
      by_served (inl is, leads) = inl (told ∙ ap of_core is, λ i. joined (leads i) (rings_of (same i)) (rings_of (still i)))
      by_served (inr (may, is), leads) = inr (may, told ∙ ap of_core is, λ i. joined (leads i) (rings_of (same i)) (rings_of (still i)))

  -- ---- a policy that is handed in

  reload_served : (policy : Declared) → Asks (asked.Reload policy) core reply core' × (new ≡ old) × (gone' ≡ gone) → IsServed (World core old gone) (request.Reload policy) reply (World core' new gone')
  reload_served policy ((replied, served, told), same, still) = by_served served
    where
      by_served : cores_law.IsServed core (asked.Reload policy) replied core' → IsServed (World core old gone) (request.Reload policy) reply (World core' new gone')
      by_served (made, is, inl o) = inr (o.others, told ∙ ap of_core (is ∙ ap as_reply o.reply_is), λ i. joined (o.history_is i) (rings_of (same i)) (rings_of (still i)))
      by_served (made, is, inr (declares, inl m)) = inl (declares, inl (told ∙ ap of_core (is ∙ ap as_reply m.reply_is), λ i. joined (m.history_is i) (rings_of (same i)) (rings_of (still i))))
      by_served (made, is, inr (declares, inr l)) =
          inl (declares, inr (both (event.Reload policy.rows) l, told ∙ ap of_core (is ∙ ap as_reply l.reply_is), λ i. joined (l.history_is i) (rings_of (same i)) (rings_of (still i))))

  -- ---- a rotation

  rotation_served : HandsOut core reply core' × (new ≡ old) × (gone' ≡ gone) → IsServed (World core old gone) request.Rotate reply (World core' new gone')
  rotation_served ((made, rotates, told), same, still) = (made, told, rotates, ap rings_of same, ap rings_of still)

  -- any request
  pub obeyed_served : (wanted : Request) → Obeys wanted core old gone reply core' new gone' → IsServed (World core old gone) wanted reply (World core' new gone')
  obeyed_served (request.Step queue step) obeys = step_served queue step obeys
  obeyed_served (request.Take queue) obeys = take_served queue obeys
  obeyed_served (request.OpenQueue client agent size producers) obeys = opening_served client agent size producers obeys
  obeyed_served (request.Call wanted) obeys = call_served wanted obeys
  obeyed_served (request.Query query) obeys = query_served query obeys
  obeyed_served (request.Reload policy) obeys = reload_served policy obeys
  obeyed_served request.Rotate obeys = rotation_served obeys
