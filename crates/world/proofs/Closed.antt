-- What is known of closed queues: of each at any moment, and of one that is closed now, whatever is asked from then on.
use Rattle.std.proofs.Common.{◌≡◌, ◌≢◌, ℕ, List, [], ◌∷◌, ◌++◌, append_assoc, refl, sym, ap, ◌∙◌, subst, Bool, true, false, Option, Some, None, Result, Ok, Err, inl, inr}
use Rattle.std.specs.Prelude.{◌&&◌, is_some, not}
use Rattle.std.proofs.lemmas.Bool.Decides.{eqb_tells}
use Rattle.std.proofs.lemmas.List.{append-nil}
use Rattle.aql_packet.specs.declared.ids.QueueId.{QueueId}
use Rattle.policy.specs.Policy.{Declared}
use Rattle.core_model.specs.declared.call.Call.{Call}
use Rattle.core_model.specs.declared.call.Call.TheVariants as call
use Rattle.core_model.specs.declared.entry.Entry.{Entry}
use Rattle.core_model.specs.declared.event.Event.{Event}
use Rattle.core_model.specs.declared.event.Event.TheVariants as event
use Rattle.core_model.specs.declared.outcome.Outcome.{Outcome}
use Rattle.core_model.specs.declared.outcome.Outcome.TheVariants as outcome
use Rattle.core_model.specs.declared.refusal.Refusal as cores
use Rattle.core_model.specs.History.{History}
use Rattle.core_model.specs.Legal.{as_reply, due, history_after, reply_of}
use Rattle.core_model.specs.Owed.{Owed, answers, enters, refuses}
use Rattle.ring_core.specs.declared.access.Step.{Step}
use Rattle.ring_core.specs.Machine.{Machine, judged_size, read_index}
use Rattle.ring_core.specs.Parts.{collected_packet}
use Rattle.ring_core.specs.Rule.{processor_of}
use Rattle.world.specs.declared.reply.Answer.{Answer}
use Rattle.world.specs.declared.reply.Refusal.{Refusal}
use Rattle.world.specs.declared.request.Request.{Request}
use Rattle.world.specs.declared.request.Request.TheVariants as request
use Rattle.world.specs.Dues.{AreReplies, Due, IsServed, Meets, Reply, closed_by, due_call, due_collected, due_event, due_opening, due_query, due_step, due_take, due_where, handed, handed_out, hindrance, is_decided, left_by, of_core}
use Rattle.world.specs.InStep.{IsJoinedBehind, Stands, StoodClosed, WasInStep, is_closed, is_open}
use Rattle.world.specs.States.{Joined, Rings, among, closed_ring_of, ring_of, with_one}
use Rattle.world.proofs.ClosingKept.{had_ring}
use Rattle.world.proofs.Kept.{IsCall, closes_none, closes_one, handed_none, replies_kept, served_kept, unparted_call, which_call}
use Rattle.world.proofs.Among.{more_found, more_others, same_queue}
use Rattle.world.proofs.Joining.{stands_so}

-- ---- at any moment

-- a queue is open exactly where it has a ring
pub rings_are : (core : History) (all : List Entry) (queue : QueueId) (o c : Option Machine) → Stands core all queue o c → is_some o ≡ is_open core queue
rings_are core all queue None None h = sym h.unowned
rings_are core all queue (Some ring) None h = sym h.owned
rings_are core all queue None (Some ring) h = sym h.unowned
rings_are core all queue (Some ring) (Some other) h = absurd h

-- and was closed exactly where what its ring was is told
pub closed_are : (core : History) (all : List Entry) (queue : QueueId) (o c : Option Machine) → Stands core all queue o c → is_some c ≡ is_closed core queue
closed_are core all queue None None h = λ i. sym h.unopened i && not (is_open core queue)
closed_are core all queue (Some ring) None h = λ i. sym h.opened i && not (sym h.owned i)
closed_are core all queue None (Some ring) h = λ i. sym h.opened i && not (sym h.unowned i)
closed_are core all queue (Some ring) (Some other) h = absurd h

stood_closed : (core : History) (all : List Entry) (queue : QueueId) (o : Option Machine) (ring : Machine) → Stands core all queue o (Some ring) → StoodClosed core all queue ring × (o ≡ None)
stood_closed core all queue None ring h = (h, refl)
stood_closed core all queue (Some other) ring h = absurd h

pub stood_so : (first : Declared) (prior : List Entry) (world : Joined) (h : IsJoinedBehind first prior world) (queue : QueueId) (ring : Machine) → closed_ring_of world queue ≡ Some ring
    → StoodClosed world.core (prior ++ world.core.entries) queue ring × (ring_of world queue ≡ None)
stood_so first prior world h queue ring found =
    stood_closed world.core (prior ++ world.core.entries) queue (ring_of world queue) ring
    (subst (Stands world.core (prior ++ world.core.entries) queue (ring_of world queue)) found (h.each queue))

-- ---- whatever is asked

-- what a closed queue's ring was stays told: no request changes it, but for the close of a queue that is open
module _ (first : Declared) (prior : List Entry) (world : Joined) (h : IsJoinedBehind first prior world) (queue : QueueId) (ring : Machine) (found : closed_ring_of world queue ≡ Some ring) where
  abbrev Tells : Joined → Type 0
  Tells after = closed_ring_of after queue ≡ Some ring

  tells_where : (other : QueueId) (machine : Machine) (step : Step) (o : Option Refusal) → Tells (due_where world other machine step o).after
  tells_where other machine step None = found
  tells_where other machine step (Some why) = found

  tells_step : (other : QueueId) (step : Step) (o : Option Machine) → Tells (due_step world other step o).after
  tells_step other step None = found
  tells_step other step (Some machine) = tells_where other machine step (hindrance (is_decided world.core other machine) machine step)

  tells_collected : (other : QueueId) (id : ℕ) (packet : Option (List ℕ)) → Tells (due_collected world other id packet).after
  tells_collected other id None = found
  tells_collected other id (Some words) = found

  tells_take : (other : QueueId) (o : Option Machine) → Tells (due_take world other o).after
  tells_take other None = found
  tells_take other (Some machine) = tells_collected other (read_index machine) (collected_packet (processor_of machine.parts))

  -- the queue that is closed now is another: it was open
  tells_left : (closing : QueueId) (made : Result Outcome cores.Refusal) → made ≡ reply_of (due world.core (event.Call (call.Close closing))) → Tells (left_by world (Some closing) made)
  tells_left closing (Err why) is = found
  tells_left closing (Ok told) is =
      let had = had_ring first prior world h closing (due world.core (event.Call (call.Close closing))) refl told is in
      let gone : ring_of world queue ≡ None = (stood_so first prior world h queue ring found).1 in
      let away : queue.0 ≢ closing.0 = λ e. absurd (let never : None ≡ Some had.0 = sym gone ∙ ap (ring_of world) (same_queue queue closing e) ∙ had.1 in cc) in
      ap (λ o. among (with_one world.closed closing o) queue) had.1 ∙ more_others world.closed closing queue had.0 (λ e. away (sym e)) ∙ found

  tells_call : (asked : Call) → Tells (due_call world asked (due world.core (event.Call asked))).after
  tells_call asked = by_kind (which_call asked)
    where
      by_kind : IsCall asked → Tells (due_call world asked (due world.core (event.Call asked))).after
      by_kind (closes_none none is) = subst (λ (o : Option QueueId). Tells (left_by world o (reply_of (due world.core (event.Call asked))))) (sym none) found
      by_kind (closes_one closing some one) =
          subst (λ (c : Call). Tells (left_by world (closed_by c) (reply_of (due world.core (event.Call c))))) (sym one)
          (tells_left closing (reply_of (due world.core (event.Call (call.Close closing)))) refl)

  tells_met : (owed : Due) (reply : Reply) (new : Joined) → Tells owed.after → Meets world owed reply new → Tells new
  tells_met owed reply new told (inl served) = subst Tells (sym served.1) told
  tells_met owed reply new told (inr lacked) = subst Tells (sym lacked.2) found

  tells_served : (asked : Request) (reply : Reply) (new : Joined) → IsServed world asked reply new → Tells new
  tells_served (request.Step other step) reply new is = tells_met (due_step world other step (ring_of world other)) reply new (tells_step other step (ring_of world other)) is
  tells_served (request.Take other) reply new is = tells_met (due_take world other (ring_of world other)) reply new (tells_take other (ring_of world other)) is
  tells_served (request.OpenQueue client agent size producers) reply new is =
      let opening : Event = event.Open client agent (judged_size size producers) in
      tells_met (due_opening world size producers opening (due world.core opening)) reply new found is
  tells_served (request.Call asked) reply new is = tells_met (due_call world asked (due world.core (event.Call asked))) reply new (tells_call asked) is
  tells_served (request.Query query) reply new is = tells_met (due_query world query) reply new found is
  tells_served (request.Reload policy) reply new (inl is) = tells_met (due_event world (event.Reload policy.rows) (due world.core (event.Reload policy.rows))) reply new found is.1
  tells_served (request.Reload policy) reply new (inr others) = subst Tells (sym others.2) found
  tells_served request.Rotate reply new is = ap (λ (rings : Rings). among rings queue) is.4 ∙ found

-- nor does any list of requests
closed_stays : (first : Declared) (prior : List Entry) (world new : Joined) (requests : List Request) (replies : List Reply) (h : IsJoinedBehind first prior world) (queue : QueueId) (ring : Machine)
    → closed_ring_of world queue ≡ Some ring → AreReplies world requests replies new → closed_ring_of new queue ≡ Some ring
closed_stays first prior world new [] [] h queue ring found are = subst (λ (w : Joined). closed_ring_of w queue ≡ Some ring) (sym are) found
closed_stays first prior world new (asked ∷ requests) (reply ∷ replies) h queue ring found are =
    closed_stays first (prior ++ handed reply) are.0 new requests replies (served_kept first prior world h asked reply are.0 are.1) queue ring (tells_served first prior world h queue ring found asked reply are.0 are.1) are.2
closed_stays first prior world new [] (reply ∷ replies) h queue ring found are = absurd are
closed_stays first prior world new (asked ∷ requests) [] h queue ring found are = absurd are

-- ---- a queue that is closed now

module _ (first : Declared) (prior : List Entry) (old : Joined) (h : IsJoinedBehind first prior old) (queue : QueueId) (ring : Machine) (found : ring_of old queue ≡ Some ring) (told : Answer) (mid : Joined) (is : IsServed old (request.Call (call.Close queue)) (Ok told) mid) where
  abbrev Owing : Owed
  Owing = due old.core (event.Call (call.Close queue))

  -- its ring is told as it stood
  told_by : (made : Result Outcome cores.Refusal) → Ok told ≡ of_core (as_reply made) → closed_ring_of (left_by old (Some queue) made) queue ≡ Some ring
  told_by (Ok outcome) same =
      ap (λ o. among (with_one old.closed queue o) queue) found ∙ more_found old.closed queue queue ring refl (stands_so first prior old h queue ring found).1
  told_by (Err why) same = absurd (cc)

  now_told : Meets old (due_call old (call.Close queue) Owing) (Ok told) mid → (closed_ring_of mid queue ≡ Some ring) × (handed (Ok told) ≡ [])
  now_told (inl served) = (
    ap (λ (w : Joined). closed_ring_of w queue) served.1 ∙ told_by (reply_of Owing) served.0,
    ap handed served.0 ∙ handed_none (due_call old (call.Close queue) Owing).reply (unparted_call old (call.Close queue) Owing).no_part,
  )
  now_told (inr lacked) = absurd (let never = lacked.1 in cc)

  mid_joined : IsJoinedBehind first prior mid
  mid_joined =
      subst (λ (es : List Entry). IsJoinedBehind first es mid) (ap (λ (es : List Entry). prior ++ es) (now_told is).1 ∙ append-nil prior)
      (served_kept first prior old h (request.Call (call.Close queue)) (Ok told) mid is)

  pub closed_since : (requests : List Request) (replies : List Reply) (new : Joined) → AreReplies mid requests replies new
      → (ring_of new queue ≡ None) × (closed_ring_of new queue ≡ Some ring) × WasInStep ((prior ++ handed_out replies) ++ new.core.entries) queue ring
  closed_since requests replies new are =
      let still = closed_stays first prior mid new requests replies mid_joined queue ring (now_told is).0 are in
      let stood = stood_so first (prior ++ handed_out replies) new (replies_kept first prior mid new requests replies mid_joined are) queue ring still in
      (stood.1, still, stood.0.in_step)
