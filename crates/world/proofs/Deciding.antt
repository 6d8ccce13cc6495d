-- What is kept beside each ring stays what the history says of the packet at its read index.
use Rattle.std.proofs.Common.{◌≡◌, ◌≢◌, ℕ, ◌+◌, ◌<◌, ◌≤◌, List, [], ◌∷◌, ◌++◌, length, refl, sym, ap, ◌∙◌, subst, Bool, true, false, Option, Some, None, Result, Ok, Err, inl, inr, arith}
use Rattle.std.specs.Prelude.{◌==◌, map, nat_lt, if◌then◌else◌}
use Rattle.std.proofs.lemmas.Bool.{eq-eqb}
use Rattle.std.proofs.lemmas.Bool.Decides.{eqb_tells, nat_tests}
use Rattle.aql_packet.specs.declared.ids.AgentHandle.{AgentHandle}
use Rattle.aql_packet.specs.declared.ids.ClientId.{ClientId}
use Rattle.aql_packet.specs.declared.ids.QueueId.{QueueId}
use Rattle.aql_packet.specs.declared.ids.PacketId.{PacketId}
use Rattle.aql_packet.specs.Reading.{barrier_bit}
use Rattle.queue_error.specs.declared.rule.Rule.{Rule}
use Rattle.policy.specs.Policy.{Declared}
use Rattle.core_model.specs.declared.event.Event.{Event}
use Rattle.core_model.specs.declared.event.Event.TheVariants.{Open, Reload, Take}
use Rattle.core_model.specs.declared.event.Query.{Query}
use Rattle.core_model.specs.declared.event.CoreRequest.TheVariants as asked
use Rattle.core_model.specs.declared.entry.Entry.{Entry}
use Rattle.core_model.specs.declared.outcome.WaitCause.{WaitCause}
use Rattle.core_model.specs.declared.outcome.Outcome.{Outcome}
use Rattle.core_model.specs.declared.outcome.Outcome.TheVariants as outcome
use Rattle.core_model.specs.declared.outcome.Taken.{Taken}
use Rattle.core_model.specs.declared.outcome.Taken.TheVariants as taken
use Rattle.core_model.specs.declared.refusal.Refusal as cores
use Rattle.core_model.specs.declared.refusal.Refusal.TheVariants as refusal
use Rattle.core_model.specs.History.{beginning, Start, History}
use Rattle.core_model.specs.History.{Part as Handed}
use Rattle.core_model.specs.Rotation.{Rotates}
use Rattle.core_model.specs.Flight.{flight_of}
use Rattle.core_model.specs.LaunchRules.{first_failing_rule, cause_to_wait}
use Rattle.core_model.specs.Queues.{is_down, next_id, owner}
use Rattle.core_model.specs.declared.origin.Opening.{Opening}
use Rattle.core_model.specs.Owed.{Owed, owed, refuses, answers, enters, owed_verdict, error_without_place, facts_of, owed_take}
use Rattle.core_model.specs.Refusals.{for_some, refuse_unless}
use Rattle.core_model.specs.Legal as cores_law
use Rattle.policy.specs.Results.{map_ok}
use Rattle.core_model.specs.Legal.{MeetsOrLacks, as_reply, due, entry_of, history_after, reply_of}
use Rattle.core_model.proofs.More.{next_id-more}
use Rattle.core_model.proofs.Entered.{take-decided}
use Rattle.ring_core.specs.declared.access.Access.{Access}
use Rattle.ring_core.specs.declared.access.Access.TheVariants.{Reserve, LoadReadIndex, StoreBody, StoreHeader, LoadHeader, LoadBody, ClearHeader, RaiseReadIndex}
use Rattle.ring_core.specs.declared.access.Step.{Step}
use Rattle.ring_core.specs.Parts.{collected_packet}
use Rattle.ring_core.specs.Machine.{made, producers_of, read_index, judged_size}
use Rattle.ring_core.specs.Rule.{processor_of}
use Rattle.ring_core.proofs.Publication.{Moved, index_moves}
use Rattle.world.specs.declared.queue_ring.QueueRing.{QueueRing}
use Rattle.core_model.specs.declared.call.Call.{Call}
use Rattle.core_model.specs.declared.call.Call.TheVariants as call
use Rattle.world.specs.declared.request.Request.{Request}
use Rattle.world.specs.declared.request.Request.TheVariants as request
use Rattle.world.specs.declared.reply.Refusal.{Refusal}
use Rattle.aql_packet.specs.Words.{bytes_of}
use Rattle.core_model.specs.declared.event.Event.TheVariants as event
use Rattle.world.specs.Dues.{Reply, closed_by, hindrance, is_decided, of_core, taking}
use Rattle.world.specs.InStep.{IsInStep, IsJoinedBehind, IsUntouched, StandsOpen}
use Rattle.world.specs.Making.{AreDecided, MakesAt, MakesWhere, decided_after, ring_in, ring_made, with_queue_ring}
use Rattle.world.specs.Obeying.{Asks, HandsOut, HandsOver, Leaves, Obeys, Opens, TakesAt, new_ring, ring_taken, rings_opened}
use Rattle.world.proofs.Entering.{due_answers, due_enters}
use Rattle.world.proofs.Joining.{IsAside, stands_so}
use Rattle.world.proofs.Kept.{IsCall, closes_none, closes_one, reload_aside, rotated_next, unhindered, unrotated, which_call}
use Rattle.world.proofs.Obeyed.{World, made_its, none_there, ring_is, taken_its}
use Rattle.world.proofs.OpeningKept.{fresh}
use Rattle.world.proofs.Among.{differs, same_queue, some_is}
use Rattle.world.proofs.Places.{found_more, found_without, put_other, put_same, ring_among, ring_is_its}

-- ---- lists of rings

-- where no queue's next id changes, nothing else does
decided_along : (core core' : History) (rings : List QueueRing) → ((queue : QueueId) → next_id (beginning core') core'.entries queue ≡ next_id (beginning core) core.entries queue) → AreDecided core rings → AreDecided core' rings
decided_along core core' rings next h queue r found = h queue r found ∙ ap (nat_lt (read_index r.ring)) (sym (next queue))

-- another state of one queue's ring, where other queues' next ids stay
pub decided_put : (core core' : History) (rings : List QueueRing) (queue : QueueId) (r after : QueueRing) → ring_in rings queue ≡ Some r → after.queue.0 ≡ queue.0 → after.decided ≡ is_decided core' queue after.ring
    → ((other : QueueId) → other.0 ≢ queue.0 → next_id (beginning core') core'.entries other ≡ next_id (beginning core) core.entries other) → AreDecided core rings → AreDecided core' (with_queue_ring rings queue after)
decided_put core core' rings queue r after found its here next h other x at =
    elim (eqb_tells other.0 queue.0) [
      | inl e ↦
          let same : other ≡ queue = same_queue other queue e.1 in
          let is : after ≡ x = some_is after x (sym (put_same rings queue r after found its) ∙ ap (ring_in (with_queue_ring rings queue after)) (sym same) ∙ at) in
          subst (λ (y : QueueRing). y.decided ≡ is_decided core' other y.ring) is (here ∙ ap (λ q. is_decided core' q after.ring) (sym same))
      | inr e ↦ h other x (sym (put_other rings queue other after its e.1) ∙ at) ∙ ap (nat_lt (read_index x.ring)) (sym (next other e.1))
    ]

-- ---- steps

kept_after : (decided : Bool) (access : Access) → access ≢ RaiseReadIndex → decided_after decided access ≡ decided
kept_after decided Reserve other = refl
kept_after decided (LoadReadIndex ticket) other = refl
kept_after decided (StoreBody ticket place w) other = refl
kept_after decided (StoreHeader ticket w) other = refl
kept_after decided LoadHeader other = refl
kept_after decided (LoadBody place) other = refl
kept_after decided ClearHeader other = refl
kept_after decided RaiseReadIndex other = absurd (other refl)

made_decided : (core : History) (all : List Entry) (queue : QueueId) (r : QueueRing) (step : Step) → IsInStep core all queue r.ring → r.decided ≡ is_decided core queue r.ring → Moved r.ring step
    → (ring_made r step).decided ≡ is_decided core queue (made r.ring step)
made_decided core all queue r step h d (inl raised) =
    let past : nat_lt (read_index (made r.ring step)) (next_id (beginning core) core.entries queue) ≡ false =
    let le : next_id (beginning core) core.entries queue ≤ read_index (made r.ring step) = omega (arith, raised.index_is, h.ceiling) in grind (arith, nat_tests) in
    ap (decided_after r.decided) raised.access_is ∙ sym past
made_decided core all queue r step h d (inr stayed) =
    kept_after r.decided step.access stayed.other ∙ d ∙ ap (λ n. nat_lt n (next_id (beginning core) core.entries queue)) (sym stayed.index_is)

module _ (core : History) (rings gone : List QueueRing) (first : Declared) (prior : List Entry) (h : IsJoinedBehind first prior (World core rings gone)) (d : AreDecided core rings) where
  stands : (queue : QueueId) (r : QueueRing) → ring_in rings queue ≡ Some r → StandsOpen core (prior ++ core.entries) queue r.ring
  stands queue r found = (stands_so first prior (World core rings gone) h queue r.ring (ring_is core rings gone queue (Some r) found)).0

  after_step : (queue : QueueId) (step : Step) (r after : QueueRing) (reply : Reply) → ring_in rings queue ≡ Some r → (o : Option Refusal) → hindrance r.decided r.ring step ≡ o → MakesWhere o r step reply after
      → after.decided ≡ is_decided core queue after.ring
  after_step queue step r after reply found (Some why) is (told, same) = subst (λ (x : QueueRing). x.decided ≡ is_decided core queue x.ring) (sym same) (d queue r found)
  after_step queue step r after reply found None is (inl (told, same)) =
      let free = unhindered r.decided r.ring step is in
      let s = stands queue r found in
      subst (λ (x : QueueRing). x.decided ≡ is_decided core queue x.ring) (sym same) (made_decided core (prior ++ core.entries) queue r step s.in_step (d queue r found) (index_moves (producers_of r.ring) r.ring step s.rule.rule free.0))
  after_step queue step r after reply found None is (inr (may, told, same)) = subst (λ (x : QueueRing). x.decided ≡ is_decided core queue x.ring) (sym same) (d queue r found)

  step_decided : (queue : QueueId) (step : Step) (reply : Reply) (new : List QueueRing) (o : Option QueueRing) → ring_in rings queue ≡ o → MakesAt o queue step rings reply new → AreDecided core new
  step_decided queue step reply new None found (told, is) = subst (AreDecided core) (sym is) d
  step_decided queue step reply new (Some r) found (after, makes, put) =
      subst (AreDecided core) (sym put)
      (decided_put core core rings queue r after found (made_its (hindrance r.decided r.ring step) r after step reply makes ∙ ring_is_its rings queue r found) (after_step queue step r after reply found (hindrance r.decided r.ring step) refl makes) (λ other apart. refl) d)

-- ---- takes

through_unless : (b : Bool) (why : cores.Refusal) (rest : Owed) (told : Outcome) → refuse_unless b (refuses why) rest ≡ answers told → rest ≡ answers told
through_unless true why rest told is = is
through_unless false why rest told is = absurd (cc)

through_if : (b : Bool) (why : cores.Refusal) (rest : Owed) (told : Outcome) → (if b then refuses why else rest) ≡ answers told → rest ≡ answers told
through_if true why rest told is = absurd (cc)
through_if false why rest told is = is

decided_waits : (queue : QueueId) (id : ℕ) (cause : Option WaitCause) (verdict : Option Rule) (told : Outcome) → owed_verdict queue id cause verdict ≡ answers told → (c : WaitCause) × (told ≡ outcome.Taken (taken.Waiting c))
decided_waits queue id (Some cause) verdict told is = (cause, cc)
decided_waits queue id None None told is = absurd (cc)
decided_waits queue id None (Some rule) told is = absurd (cc)

-- a hand-over that leaves no entry waits
take_waits : (start : Start) (es : List Entry) (queue : QueueId) (id : PacketId) (bytes : List ℕ) (told : Outcome) → owed start es (Take queue id bytes) ≡ answers told → (c : WaitCause) × (told ≡ outcome.Taken (taken.Waiting c))
unfolding owed
take_waits start es queue id bytes told = by_owner (owner start es queue)
  where
    by_owner : (o : Option Opening) → for_some o (refuses refusal.UnknownQueue) (owed_take start es queue id bytes) ≡ answers told → (c : WaitCause) × (told ≡ outcome.Taken (taken.Waiting c))
    by_owner None is = absurd (cc)
    by_owner (Some opening) is =
        let one = through_if (is_down start es queue) refusal.QueueDown _ told is in
        let two = through_unless (id.0 == next_id start es queue) (refusal.OutOfStep (next_id start es queue)) _ told one in
        decided_waits queue id.0 (cause_to_wait (map (λ f. f.packet) (flight_of start es queue)) (barrier_bit bytes)) (first_failing_rule (facts_of start es opening) bytes) told two

-- a hand-over that leaves an entry decides
decides : (queue : QueueId) (id : ℕ) (verdict : Option Rule) (became : Result Taken cores.Refusal) (told : Outcome)
    → told ≡ elim verdict [ None ↦ outcome.Taken taken.Launched | Some rule ↦ outcome.Taken (taken.Denied (error_without_place queue id rule)) ] → map_ok outcome.Taken became ≡ Ok told
    → (r : QueueRing) → (ring_taken r became ≡ record { queue = r.queue; ring = r.ring; decided = true })
decides queue id None (Ok taken.Launched) told is made r = refl
decides queue id None (Ok (taken.Denied error)) told is made r = refl
decides queue id None (Ok (taken.Waiting cause)) told is made r = absurd (cc)
decides queue id None (Err why) told is made r = absurd (cc)
decides queue id (Some rule) (Ok taken.Launched) told is made r = refl
decides queue id (Some rule) (Ok (taken.Denied error)) told is made r = refl
decides queue id (Some rule) (Ok (taken.Waiting cause)) told is made r = absurd (cc)
decides queue id (Some rule) (Err why) told is made r = absurd (cc)

waits_stay : (r : QueueRing) (became : Result Taken cores.Refusal) (c : WaitCause) → map_ok outcome.Taken became ≡ Ok (outcome.Taken (taken.Waiting c)) → ring_taken r became ≡ r
waits_stay r (Ok taken.Launched) c is = absurd (cc)
waits_stay r (Ok (taken.Denied error)) c is = absurd (cc)
waits_stay r (Ok (taken.Waiting cause)) c is = refl
waits_stay r (Err why) c is = absurd (cc)

refused_stays : (r : QueueRing) (became : Result Taken cores.Refusal) (why : cores.Refusal) → map_ok outcome.Taken became ≡ Err why → ring_taken r became ≡ r
refused_stays r (Ok became) why is = absurd (cc)
refused_stays r (Err other) why is = refl

module _ (core : History) (rings : List QueueRing) (d : AreDecided core rings) (queue : QueueId) (r : QueueRing) (found : ring_in rings queue ≡ Some r) (words : List ℕ) where
  abbrev Taking : Event
  Taking = taking queue (read_index r.ring) words

  its : (became : Result Taken cores.Refusal) → (ring_taken r became).queue.0 ≡ queue.0
  its became = taken_its r became ∙ ring_is_its rings queue r found

  -- the ring stays as it was, and so does the core
  unmoved : (became : Result Taken cores.Refusal) → ring_taken r became ≡ r → AreDecided core (with_queue_ring rings queue (ring_taken r became))
  unmoved became is =
      decided_put core core rings queue r (ring_taken r became) found (its became) (subst (λ (x : QueueRing). x.decided ≡ is_decided core queue x.ring) (sym is) (d queue r found)) (λ other apart. refl) d

  by_owing : (became : Result Taken cores.Refusal) (owing : Owed) → due core Taking ≡ owing → map_ok outcome.Taken became ≡ reply_of owing → AreDecided (history_after core Taking owing) (with_queue_ring rings queue (ring_taken r became))
  by_owing became (refuses why) is made = unmoved became (refused_stays r became why made)
  by_owing became (answers told) is made =
      let waits = take_waits (beginning core) core.entries queue (record { 0 = read_index r.ring }) (bytes_of words) told (due_answers core Taking told is) in
      unmoved became (waits_stay r became waits.0 (made ∙ ap Ok waits.1))
  by_owing became (enters told effects) is made =
      let entry : Entry = entry_of Taking told effects in
      let new : History = history_after core Taking (enters told effects) in
      let was = take-decided (beginning core) core.entries told effects queue (record { 0 = read_index r.ring }) (bytes_of words) (due_enters core Taking told effects is) in
      let put : ring_taken r became ≡ record { queue = r.queue; ring = r.ring; decided = true } = decides queue (read_index r.ring) was.verdict became told was.outcome_is made r in
      let more : next_id (beginning core) (core.entries ++ entry ∷ []) queue ≡ next_id (beginning core) core.entries queue + 1 =
      next_id-more (beginning core) core.entries entry queue ∙ ap (λ b. if b then next_id (beginning core) core.entries queue + 1 else next_id (beginning core) core.entries queue) (eq-eqb queue.0 queue.0 refl) in
      let next : read_index r.ring ≡ next_id (beginning core) core.entries queue = was.id_is_next in
      let below : nat_lt (read_index r.ring) (next_id (beginning core) (core.entries ++ entry ∷ []) queue) ≡ true =
      let lt : read_index r.ring < next_id (beginning core) (core.entries ++ entry ∷ []) queue = omega (arith, more, next) in grind (arith, nat_tests) in
      decided_put core (history_after core Taking (enters told effects)) rings queue r (ring_taken r became) found (its became)
      (subst (λ (x : QueueRing). x.decided ≡ is_decided (history_after core Taking (enters told effects)) queue x.ring) (sym put) (sym below))
      (λ other apart.
      let away : (queue.0 == other.0) ≡ false = differs queue.0 other.0 (λ e. apart (sym e)) in
      next_id-more (beginning core) core.entries entry other ∙ ap (λ b. if b then next_id (beginning core) core.entries other + 1 else next_id (beginning core) core.entries other) away)
      d

  handed_decided : (core' : History) (became : Result Taken cores.Refusal) → MeetsOrLacks Taking core core' (map_ok outcome.Taken became) → AreDecided core' (with_queue_ring rings queue (ring_taken r became))
  handed_decided core' became (inl m) =
      subst (λ (x : History). AreDecided x (with_queue_ring rings queue (ring_taken r became))) (sym m.history_is) (by_owing became (due core Taking) refl m.reply_is)
  handed_decided core' became (inr l) =
      subst (λ (x : History). AreDecided x (with_queue_ring rings queue (ring_taken r became))) (sym l.history_is) (unmoved became (refused_stays r became refusal.OutOfMemory l.reply_is))

-- ---- calls

aside_next : (core : History) (event : Event) → IsAside event → (owing : Owed) → (queue : QueueId)
    → next_id (beginning (history_after core event owing)) (history_after core event owing).entries queue ≡ next_id (beginning core) core.entries queue
aside_next core event aside (refuses why) queue = refl
aside_next core event aside (answers told) queue = refl
aside_next core event aside (enters told effects) queue =
    next_id-more (beginning core) core.entries (entry_of event told effects) queue ∙ aside.nexts queue (next_id (beginning core) core.entries queue)

opening_next : (core : History) (client : ClientId) (agent : AgentHandle) (size : ℕ) (owing : Owed) → (queue : QueueId)
    → next_id (beginning (history_after core (Open client agent size) owing)) (history_after core (Open client agent size) owing).entries queue ≡ next_id (beginning core) core.entries queue
opening_next core client agent size (refuses why) queue = refl
opening_next core client agent size (answers told) queue = refl
opening_next core client agent size (enters told effects) queue = next_id-more (beginning core) core.entries (entry_of (Open client agent size) told effects) queue

-- a close leaves those of other queues
closing_next : (core : History) (queue : QueueId) (owing : Owed) → (other : QueueId) → other.0 ≢ queue.0
    → next_id (beginning (history_after core (event.Call (call.Close queue)) owing)) (history_after core (event.Call (call.Close queue)) owing).entries other ≡ next_id (beginning core) core.entries other
closing_next core queue (refuses why) other apart = refl
closing_next core queue (answers told) other apart = refl
closing_next core queue (enters told effects) other apart =
    next_id-more (beginning core) core.entries (entry_of (event.Call (call.Close queue)) told effects) other
    ∙ ap (λ (b : Bool). if b then 0 else next_id (beginning core) core.entries other) (differs queue.0 other.0 (λ e. apart (sym e)))

-- ---- any request

module _ (core core' : History) (rings gone new gone' : List QueueRing) (first : Declared) (prior : List Entry) (h : IsJoinedBehind first prior (World core rings gone)) (d : AreDecided core rings) (reply : Reply) where
  take_decided : (queue : QueueId) (o : Option QueueRing) → ring_in rings queue ≡ o → TakesAt o queue core rings reply core' new → AreDecided core' new
  take_decided queue None found (told, same, is) = subst (λ (x : History). AreDecided x new) (sym same) (subst (AreDecided core) (sym is) d)
  take_decided queue (Some r) found takes = by_packet (collected_packet (processor_of r.ring.parts)) takes
    where
      by_packet : (packet : Option (List ℕ)) → HandsOver packet r queue core rings reply core' new → AreDecided core' new
      by_packet None (told, same, is) = subst (λ (x : History). AreDecided x new) (sym same) (subst (AreDecided core) (sym is) d)
      by_packet (Some words) (became, meets, told, put) = subst (AreDecided core') (sym put) (handed_decided core rings d queue r found words core' became meets)

  -- a queue that is opened has no packet yet
  opened_decided : (client : ClientId) (agent : AgentHandle) (size producers : ℕ) (made : Result QueueId cores.Refusal)
      → ((queue : QueueId) → next_id (beginning core') core'.entries queue ≡ next_id (beginning core) core.entries queue)
      → ((queue : QueueId) → made ≡ Ok queue → IsUntouched core (prior ++ core.entries) queue × (ring_in rings queue ≡ None)) → AreDecided core' (rings_opened rings size producers made)
  opened_decided client agent size producers (Err why) next fresh queue r at = decided_along core core' rings next d queue r at
  opened_decided client agent size producers (Ok number) next fresh queue r at =
      let none : ring_in rings number ≡ None = (fresh number refl).1 in
      let which = found_more rings (new_ring number size producers) r queue none at in
      elim (eqb_tells queue.0 number.0) [
        | inl e ↦
            let zero_next : next_id (beginning core') core'.entries queue ≡ 0 =
            next queue ∙ ap (next_id (beginning core) core.entries) (same_queue queue number e.1) ∙ (fresh number refl).0.next in
            subst (λ (y : QueueRing). y.decided ≡ is_decided core' queue y.ring) (sym (which.0 e.1)) (ap (nat_lt 0) (sym zero_next))
        | inr e ↦ decided_along core core' rings next d queue r (which.1 e.1)
      ]

  opening_decided : (client : ClientId) (agent : AgentHandle) (size producers : ℕ) → Opens client agent size producers core rings reply core' new → AreDecided core' new
  opening_decided client agent size producers (made, meets, told, put) = subst (AreDecided core') (sym put) (opened_decided client agent size producers made (by_due meets) (by_number meets))
    where
      by_due : MeetsOrLacks (Open client agent (judged_size size producers)) core core' (map_ok outcome.Opened made) → (queue : QueueId) → next_id (beginning core') core'.entries queue ≡ next_id (beginning core) core.entries queue
      by_due (inl m) queue = ap (λ (x : History). next_id (beginning x) x.entries queue) m.history_is ∙ opening_next core client agent (judged_size size producers) (due core (Open client agent (judged_size size producers))) queue
      by_due (inr l) queue = ap (λ (x : History). next_id (beginning x) x.entries queue) l.history_is

      by_number : MeetsOrLacks (Open client agent (judged_size size producers)) core core' (map_ok outcome.Opened made)
          → (queue : QueueId) → made ≡ Ok queue → IsUntouched core (prior ++ core.entries) queue × (ring_in rings queue ≡ None)
      by_number (inl m) queue ok =
          let un = fresh first prior (World core rings gone) h client agent size producers (due core (Open client agent (judged_size size producers))) refl queue (ap (map_ok outcome.Opened) (sym ok) ∙ m.reply_is) in
          (un.1, none_there (ring_in rings queue) (sym (ring_among rings queue) ∙ un.0))
      by_number (inr l) queue ok = absurd (let lacking = ap (map_ok outcome.Opened) (sym ok) ∙ l.reply_is in cc)

  -- ---- calls

  -- a close takes the ring out, and all others are as before
  closed_decided : (queue : QueueId) (told : Reply) → Leaves (Some queue) told rings gone new gone' → ((other : QueueId) → other.0 ≢ queue.0 → next_id (beginning core') core'.entries other ≡ next_id (beginning core) core.entries other)
      → (told_err : (why : Refusal) → told ≡ Err why → (other : QueueId) → next_id (beginning core') core'.entries other ≡ next_id (beginning core) core.entries other) → AreDecided core' new
  closed_decided queue (Ok told) is next kept =
      subst (AreDecided core') (sym is.0)
      (λ other r found.
      let there = found_without rings queue other r h.apart found in
      d other r there.1 ∙ ap (nat_lt (read_index r.ring)) (sym (next other there.0)))
  closed_decided queue (Err why) is next kept = subst (AreDecided core') (sym is.0) (decided_along core core' rings (kept why refl) d)

  refused_next : (event : Event) (owing : Owed) (why : cores.Refusal) → reply_of owing ≡ Err why → (queue : QueueId)
      → next_id (beginning (history_after core event owing)) (history_after core event owing).entries queue ≡ next_id (beginning core) core.entries queue
  refused_next event (refuses _) why is queue = refl
  refused_next event (answers told) why is queue = refl
  refused_next event (enters told effects) why is queue = absurd (cc)

  call_decided : (wanted : Call) → Asks (asked.Call wanted) core reply core' × Leaves (closed_by wanted) reply rings gone new gone' → AreDecided core' new
  call_decided wanted ((replied, served, told), leaves) = by_kind (which_call wanted)
    where
      by_served : IsAside (event.Call wanted) → cores_law.IsServed core (asked.Call wanted) replied core' → (queue : QueueId) → next_id (beginning core') core'.entries queue ≡ next_id (beginning core) core.entries queue
      by_served is_aside (made, is, inl m) queue = ap (λ (x : History). next_id (beginning x) x.entries queue) m.history_is ∙ aside_next core (event.Call wanted) is_aside (due core (event.Call wanted)) queue
      by_served is_aside (made, is, inr l) queue = ap (λ (x : History). next_id (beginning x) x.entries queue) l.history_is

      of_close : (closing : QueueId) → wanted ≡ call.Close closing → cores_law.IsServed core (asked.Call wanted) replied core' → (other : QueueId) → other.0 ≢ closing.0
          → next_id (beginning core') core'.entries other ≡ next_id (beginning core) core.entries other
      of_close closing one (made, is, inl m) other away =
          ap (λ (x : History). next_id (beginning x) x.entries other) (m.history_is ∙ ap (λ (c : Call). history_after core (event.Call c) (due core (event.Call c))) one)
          ∙ closing_next core closing (due core (event.Call (call.Close closing))) other away
      of_close closing one (made, is, inr l) other away = ap (λ (x : History). next_id (beginning x) x.entries other) l.history_is

      of_refusal : cores_law.IsServed core (asked.Call wanted) replied core' → (why : Refusal) → reply ≡ Err why → (other : QueueId)
          → next_id (beginning core') core'.entries other ≡ next_id (beginning core) core.entries other
      of_refusal (made, is, inl m) why refused other =
          ap (λ (x : History). next_id (beginning x) x.entries other) m.history_is
          ∙ by_made made m.reply_is (sym (told ∙ ap of_core is) ∙ refused)
        where
          by_made : (made : Result Outcome cores.Refusal) → made ≡ reply_of (due core (event.Call wanted)) → of_core (as_reply made) ≡ Err why
              → next_id (beginning (history_after core (event.Call wanted) (due core (event.Call wanted)))) (history_after core (event.Call wanted) (due core (event.Call wanted))).entries other ≡ next_id (beginning core) core.entries other
          by_made (Ok done) same ok = absurd (cc)
          by_made (Err cause) same ok = refused_next (event.Call wanted) (due core (event.Call wanted)) cause (sym same) other
      of_refusal (made, is, inr l) why refused other = ap (λ (x : History). next_id (beginning x) x.entries other) l.history_is

      by_kind : IsCall wanted → AreDecided core' new
      by_kind (closes_none none is) =
          let same : (new ≡ rings) × (gone' ≡ gone) = subst (λ o. Leaves o reply rings gone new gone') none leaves in
          subst (AreDecided core') (sym same.0) (decided_along core core' rings (by_served is served) d)
      by_kind (closes_one closing some one) =
          closed_decided closing reply (subst (λ o. Leaves o reply rings gone new gone') some leaves) (of_close closing one served) (of_refusal served)

  query_decided : (query : Query) → Asks (asked.Query query) core reply core' × (new ≡ rings) → AreDecided core' new
  query_decided query ((replied, served, told), same) = subst (AreDecided core') (sym same) (decided_along core core' rings (by_served served) d)
    where
      by_served : cores_law.IsServed core (asked.Query query) replied core' → (queue : QueueId) → next_id (beginning core') core'.entries queue ≡ next_id (beginning core) core.entries queue
      by_served (is, leads) queue = ap (λ (x : History). next_id (beginning x) x.entries queue) leads

  reload_decided : (policy : Declared) → Asks (asked.Reload policy) core reply core' × (new ≡ rings) → AreDecided core' new
  reload_decided policy ((replied, served, told), same) = subst (AreDecided core') (sym same) (decided_along core core' rings (by_served served) d)
    where
      by_served : cores_law.IsServed core (asked.Reload policy) replied core' → (queue : QueueId) → next_id (beginning core') core'.entries queue ≡ next_id (beginning core) core.entries queue
      by_served (made, is, inl o) queue = ap (λ (x : History). next_id (beginning x) x.entries queue) o.history_is
      by_served (made, is, inr (declares, inl m)) queue =
          ap (λ (x : History). next_id (beginning x) x.entries queue) m.history_is
          ∙ aside_next core (Reload policy.rows) (reload_aside policy.rows) (due core (Reload policy.rows)) queue
      by_served (made, is, inr (declares, inr l)) queue = ap (λ (x : History). next_id (beginning x) x.entries queue) l.history_is

  rotation_decided : HandsOut core reply core' × (new ≡ rings) → AreDecided core' new
  rotation_decided ((made, rotates, told), same) = subst (AreDecided core') (sym same) (decided_along core core' rings (by_made made rotates) d)
    where
      by_made : (made : Result Handed cores.Refusal) → Rotates core made core' → (queue : QueueId) → next_id (beginning core') core'.entries queue ≡ next_id (beginning core) core.entries queue
      by_made (Ok part) is queue = rotated_next core core' part is.1 queue
      by_made (Err why) is queue = ap (λ (x : History). next_id (beginning x) x.entries queue) (unrotated core core' why is)

  pub obeyed_decided : (wanted : Request) → Obeys wanted core rings gone reply core' new gone' → AreDecided core' new
  obeyed_decided (request.Step queue step) (makes, same, still) = subst (λ (x : History). AreDecided x new) (sym same) (step_decided core rings gone first prior h d queue step reply new (ring_in rings queue) refl makes)
  obeyed_decided (request.Take queue) (takes, still) = take_decided queue (ring_in rings queue) refl takes
  obeyed_decided (request.OpenQueue client agent size producers) (opens, still) = opening_decided client agent size producers opens
  obeyed_decided (request.Call wanted) obeys = call_decided wanted obeys
  obeyed_decided (request.Query query) (asks, same, still) = query_decided query (asks, same)
  obeyed_decided (request.Reload policy) (asks, same, still) = reload_decided policy (asks, same)
  obeyed_decided request.Rotate (hands, same, still) = rotation_decided (hands, same)
