-- Whatever is asked, the world stays joined.
use Rattle.std.proofs.Common.{◌≡◌, ℕ, List, [], ◌∷◌, ◌++◌, append_assoc, refl, sym, subst, Bool, true, false, Option, Some, None, Result, Ok, Err, inl, inr}
use Rattle.std.proofs.lemmas.List.{append-nil}
use Rattle.std.proofs.Common.{ap, ◌∙◌}
use Rattle.std.specs.Prelude.{◌&&◌, length, nat_le, slice_get, if◌then◌else◌}
use Rattle.aql_packet.specs.declared.ids.QueueId.{QueueId}
use Rattle.kernel_check.specs.Programs.{Program}
use Rattle.policy.specs.Policy.{Declared, numbered}
use Rattle.policy.specs.declared.rows.PolicyRows.{PolicyRows}
use Rattle.core_model.specs.declared.event.Event.{Event}
use Rattle.core_model.specs.declared.event.Query.{Query}
use Rattle.core_model.specs.declared.event.Event.TheVariants.{Open, Reload}
use Rattle.core_model.specs.Legal.{IsOpening, IsWhole}
use Rattle.core_model.specs.Queues.{Openings, next_id, openings}
use Rattle.core_model.specs.declared.entry.Entry.{Entry}
use Rattle.core_model.proofs.States.{begin-opening, rotated-start, state-join, state-now}
use Rattle.ring_core.specs.declared.access.Step.{Step}
use Rattle.ring_core.specs.Parts.{collected_packet}
use Rattle.ring_core.specs.Machine.{Machine, found, is_allowed, made, read_index, judged_size}
use Rattle.ring_core.specs.Rule.{processor_of}
use Rattle.ring_core.proofs.Kept.{both}
use Rattle.ring_core.proofs.States.{ring_steps}
use Rattle.core_model.specs.declared.call.Call.{Call}
use Rattle.core_model.specs.declared.call.Call.TheVariants as call
use Rattle.world.specs.declared.request.Request.{Request}
use Rattle.world.specs.declared.request.Request.TheVariants as request
use Rattle.world.specs.declared.reply.Refusal.{Refusal}
use Rattle.world.specs.declared.reply.Refusal.TheVariants as refusal
use Rattle.world.specs.States.{Joined, Rings, among, closed_ring_of, joined, ring_of, with_core}
use Rattle.core_model.specs.declared.event.Event.TheVariants as event
use Rattle.world.specs.Dues.{AreReplies, Due, IsServed, Meets, Reply, answer_to, closed_by, due_call, due_collected, due_event, due_opening, due_query, due_step, due_take, due_where, handed, handed_out, has_spent, hindrance, is_decided, left_by, may_follow, of_core, part_of, reserves, rotated_reply, taken_reply, taking}
use Rattle.world.specs.Headline.{IsBegun}
use Rattle.world.specs.InStep.{AreApart, IsJoinedBehind, Stands, StandsOpen, sizes, takes}
use Rattle.world.proofs.Entering.{no_openings, no_sizes, no_takes, none_next}
use Rattle.world.proofs.ClosingKept.{closing_kept}
use Rattle.world.proofs.Joining.{IsAside, aside_kept, open_as, opened_as, ring_replaced, stands_along, stands_so, step_in_step}
use Rattle.world.proofs.Opened.{none_among}
use Rattle.world.proofs.Taking.{take_kept}
use Rattle.world.proofs.OpeningKept.{opening_kept}
use Rattle.core_model.specs.History.{History, Start, beginning, opening_state}
use Rattle.core_model.specs.History.{Part as Handed}
use Rattle.core_model.specs.Legal.{as_reply, due, history_after, reply_of}
use Rattle.core_model.specs.Owed.{Owed, answers, enters, refuses}
use Rattle.core_model.specs.Queries.{AnswerOrRefusal, query_answer}
use Rattle.core_model.specs.Rotation.{IsRotated, Rotates}
use Rattle.core_model.specs.States.{state_after}
use Rattle.core_model.specs.declared.outcome.Outcome.{Outcome}
use Rattle.core_model.specs.declared.outcome.Outcome.TheVariants as outcome
use Rattle.core_model.specs.declared.refusal.Refusal as cores
use Rattle.core_model.specs.declared.refusal.Refusal.TheVariants as core_refusal
use Rattle.ring_core.specs.declared.access.Access.{Access}
use Rattle.ring_core.specs.declared.access.Access.TheVariants.{LoadHeader, Reserve}

-- ---- steps

-- a step that nothing hinders is allowed, and clears no header too early
pub unhindered : (decided : Bool) (ring : Machine) (step : Step) → hindrance decided ring step ≡ None → (is_allowed ring step ≡ true) × (may_follow decided step.access ≡ true)
unhindered decided ring step = by_spent (reserves step.access && has_spent (slice_get ring.parts step.seat))
  where
    by_may : (b : Bool) → (is_allowed ring step && may_follow decided step.access) ≡ b → (if b then None else Some refusal.NotAStep) ≡ None → (is_allowed ring step ≡ true) × (may_follow decided step.access ≡ true)
    by_may true is e = both (is_allowed ring step) (may_follow decided step.access) is
    by_may false is e = absurd (cc)

    by_spent : (b : Bool) → (if b then Some refusal.Spent else if is_allowed ring step && may_follow decided step.access then None else Some refusal.NotAStep) ≡ None
        → (is_allowed ring step ≡ true) × (may_follow decided step.access ≡ true)
    by_spent true e = absurd (cc)
    by_spent false e = by_may (is_allowed ring step && may_follow decided step.access) refl e

-- a call that closes no queue concerns no ring
aside_call : (asked : Call) → closed_by asked ≡ None → IsAside (event.Call asked)
aside_call (call.Grant client object rights) none = record { opens = λ o. refl; sizes = refl; takes = λ q. refl; nexts = λ q n. refl }
aside_call (call.Revoke client object rights) none = record { opens = λ o. refl; sizes = refl; takes = λ q. refl; nexts = λ q n. refl }
aside_call (call.Stop queue) none = record { opens = λ o. refl; sizes = refl; takes = λ q. refl; nexts = λ q n. refl }
aside_call (call.Close queue) none = absurd (cc)
aside_call (call.RunNext queue packet) none = record { opens = λ o. refl; sizes = refl; takes = λ q. refl; nexts = λ q n. refl }
aside_call (call.Poll queue packet) none = record { opens = λ o. refl; sizes = refl; takes = λ q. refl; nexts = λ q n. refl }
aside_call (call.Finish queue packet) none = record { opens = λ o. refl; sizes = refl; takes = λ q. refl; nexts = λ q n. refl }
aside_call (call.HostWrite client address bytes) none = record { opens = λ o. refl; sizes = refl; takes = λ q. refl; nexts = λ q n. refl }
aside_call (call.ChangeSignal client signal operation) none = record { opens = λ o. refl; sizes = refl; takes = λ q. refl; nexts = λ q n. refl }

-- a call closes no queue and concerns no ring, or it is the close of one
pub data IsCall (asked : Call) : Type 0 where
  closes_none : closed_by asked ≡ None → IsAside (event.Call asked) → IsCall asked
  closes_one : (queue : QueueId) → closed_by asked ≡ Some queue → asked ≡ call.Close queue → IsCall asked

pub which_call : (asked : Call) → IsCall asked
which_call (call.Close queue) = closes_one queue refl refl
which_call (call.Grant client object rights) = closes_none refl (aside_call (call.Grant client object rights) refl)
which_call (call.Revoke client object rights) = closes_none refl (aside_call (call.Revoke client object rights) refl)
which_call (call.Stop queue) = closes_none refl (aside_call (call.Stop queue) refl)
which_call (call.RunNext queue packet) = closes_none refl (aside_call (call.RunNext queue packet) refl)
which_call (call.Poll queue packet) = closes_none refl (aside_call (call.Poll queue packet) refl)
which_call (call.Finish queue packet) = closes_none refl (aside_call (call.Finish queue packet) refl)
which_call (call.HostWrite client address bytes) = closes_none refl (aside_call (call.HostWrite client address bytes) refl)
which_call (call.ChangeSignal client signal operation) = closes_none refl (aside_call (call.ChangeSignal client signal operation) refl)

-- nor does a policy that is handed in
pub reload_aside : (rows : PolicyRows) → IsAside (Reload rows)
reload_aside rows = record { opens = λ o. refl; sizes = refl; takes = λ q. refl; nexts = λ q n. refl }

-- ---- rotations

-- each queue's next id stays
pub rotated_next : (old new : History) (part : Handed) → IsRotated old part new → (queue : QueueId) → next_id (beginning new) new.entries queue ≡ next_id (beginning old) old.entries queue
rotated_next old new part is queue = (λ i. next_id (rotated-start old new part is i) (is.empty i) queue) ∙ none_next (state_after (beginning old) old.entries) queue

-- one that is refused leaves the history
pub unrotated : (old new : History) (why : cores.Refusal) → Rotates old (Err why) new → new ≡ old
unrotated old new core_refusal.OutOfMemory is = is.1
unrotated old new core_refusal.AuditFull is = is.1
unrotated old new _ is = absurd is

-- ---- what is handed out: only by a rotation

-- a history begins where another does, with the same kernels
pub record BeginsAlike (one other : History) : Type 0 where
  pub origin_is : one.origin ≡ other.origin
  pub kernels_are : one.kernels ≡ other.kernels

-- what is owed hands out no part, and the history still begins where it began
pub record IsUnparted (world : Joined) (owed : Due) : Type 0 where
  pub no_part : part_of owed.reply ≡ None
  pub begins : BeginsAlike owed.after.core world.core

begins_self : (history : History) → BeginsAlike history history
begins_self history = record { origin_is = refl; kernels_are = refl }

begins_after : (history : History) (event : Event) (owing : Owed) → BeginsAlike (history_after history event owing) history
begins_after history event (refuses why) = begins_self history
begins_after history event (answers told) = begins_self history
begins_after history event (enters told effects) = record { origin_is = refl; kernels_are = refl }

no_part_of_core : (made : AnswerOrRefusal) → part_of (of_core made) ≡ None
no_part_of_core (Ok answered) = refl
no_part_of_core (Err why) = refl

no_part_by_step : (access : Access) (index old : ℕ) → part_of (Ok (answer_to access index old)) ≡ None
no_part_by_step Reserve index old = refl
no_part_by_step LoadHeader index old = refl
no_part_by_step _ index old = refl

unparted_where : (world : Joined) (queue : QueueId) (ring : Machine) (step : Step) (o : Option Refusal) → IsUnparted world (due_where world queue ring step o)
unparted_where world queue ring step None = record { no_part = no_part_by_step step.access (read_index ring) (found ring step); begins = begins_self world.core }
unparted_where world queue ring step (Some why) = record { no_part = refl; begins = begins_self world.core }

pub unparted_at_step : (world : Joined) (queue : QueueId) (step : Step) (o : Option Machine) → IsUnparted world (due_step world queue step o)
unparted_at_step world queue step None = record { no_part = refl; begins = begins_self world.core }
unparted_at_step world queue step (Some ring) = unparted_where world queue ring step (hindrance (is_decided world.core queue ring) ring step)

no_part_taken : (id : ℕ) (made : Result Outcome cores.Refusal) → part_of (taken_reply id made) ≡ None
no_part_taken id (Ok (outcome.Taken taken)) = refl
no_part_taken id (Ok _) = refl
no_part_taken id (Err why) = refl

unparted_collected : (world : Joined) (queue : QueueId) (id : ℕ) (packet : Option (List ℕ)) → IsUnparted world (due_collected world queue id packet)
unparted_collected world queue id None = record { no_part = refl; begins = begins_self world.core }
unparted_collected world queue id (Some words) = record {
  no_part = no_part_taken id (reply_of (due world.core (taking queue id words)));
  begins = begins_after world.core (taking queue id words) (due world.core (taking queue id words));
}

pub unparted_at_take : (world : Joined) (queue : QueueId) (o : Option Machine) → IsUnparted world (due_take world queue o)
unparted_at_take world queue None = record { no_part = refl; begins = begins_self world.core }
unparted_at_take world queue (Some ring) = unparted_collected world queue (read_index ring) (collected_packet (processor_of ring.parts))

pub unparted_opening : (world : Joined) (size producers : ℕ) (event : Event) (owing : Owed) → IsUnparted world (due_opening world size producers event owing)
unparted_opening world size producers event owing = record { no_part = no_part_of_core (as_reply (reply_of owing)); begins = begins_after world.core event owing }

pub unparted_event : (world : Joined) (event : Event) (owing : Owed) → IsUnparted world (due_event world event owing)
unparted_event world event owing = record { no_part = no_part_of_core (as_reply (reply_of owing)); begins = begins_after world.core event owing }

pub unparted_call : (world : Joined) (asked : Call) (owing : Owed) → IsUnparted world (due_call world asked owing)
unparted_call world asked owing = record { no_part = no_part_of_core (as_reply (reply_of owing)); begins = begins_after world.core (event.Call asked) owing }

pub unparted_query : (world : Joined) (asked : Query) → IsUnparted world (due_query world asked)
unparted_query world asked = record { no_part = no_part_of_core (query_answer (beginning world.core) world.core.entries asked); begins = begins_self world.core }

-- without a part no entry is handed out
pub handed_none : (reply : Reply) → part_of reply ≡ None → handed reply ≡ []
handed_none reply none = ap (λ (o : Option Handed). elim o [ None ↦ [] | Some part ↦ part.entries ]) none

module _ (first : Declared) (prior : List Entry) (world : Joined) (h : IsJoinedBehind first prior world) where
  step_kept : (queue : QueueId) (step : Step) (o : Option Machine) → ring_of world queue ≡ o → IsJoinedBehind first prior (due_step world queue step o).after
  step_kept queue step None found = h
  step_kept queue step (Some ring) found = by_hindrance (hindrance (is_decided world.core queue ring) ring step) refl
    where
      by_hindrance : (why : Option Refusal) → hindrance (is_decided world.core queue ring) ring step ≡ why → IsJoinedBehind first prior (due_where world queue ring step why).after
      by_hindrance (Some why) is = h
      by_hindrance None is =
          let free = unhindered (is_decided world.core queue ring) ring step is in
          let stands : StandsOpen world.core (prior ++ world.core.entries) queue ring = (stands_so first prior world h queue ring found).0 in
          ring_replaced first prior world queue ring (made ring step) h found (record {
            rule = ring_steps ring step stands.rule free.0;
            in_step = step_in_step world.core (prior ++ world.core.entries) queue ring step stands.rule free.0 free.1 stands.in_step;
            size = stands.size;
            opened = stands.opened;
            owned = stands.owned;
          })

  taking_kept : (queue : QueueId) (o : Option Machine) → ring_of world queue ≡ o → IsJoinedBehind first prior (due_take world queue o).after
  taking_kept queue None found = h
  taking_kept queue (Some ring) found = by_packet (collected_packet (processor_of ring.parts)) refl
    where
      by_packet : (packet : Option (List ℕ)) → collected_packet (processor_of ring.parts) ≡ packet → IsJoinedBehind first prior (due_collected world queue (read_index ring) packet).after
      by_packet None is = h
      by_packet (Some words) is = take_kept first prior world h queue ring found words is

  -- a call leaves the rings as they are, or is the close of a queue
  call_kept : (asked : Call) → IsJoinedBehind first prior (due_call world asked (due world.core (event.Call asked))).after
  call_kept asked = by_kind (which_call asked)
    where
      by_kind : IsCall asked → IsJoinedBehind first prior (due_call world asked (due world.core (event.Call asked))).after
      by_kind (closes_none none is) =
          subst (λ (o : Option QueueId). IsJoinedBehind first prior (with_core (left_by world o (reply_of (due world.core (event.Call asked)))) (history_after world.core (event.Call asked) (due world.core (event.Call asked))))) (sym none)
          (aside_kept first prior world h (event.Call asked) is)
      by_kind (closes_one queue some is) =
          subst (λ (c : Call). IsJoinedBehind first prior (due_call world c (due world.core (event.Call c))).after) (sym is) (closing_kept first prior world h queue)

  rotated_kept : (part : Handed) (new : Joined) → IsRotated world.core part new.core → new.rings ≡ world.rings → new.closed ≡ world.closed → IsJoinedBehind first (prior ++ part.entries) new
  rotated_kept part new is rings closed =
      let start : beginning new.core ≡ state_after (beginning world.core) world.core.entries = rotated-start world.core new.core part is in
      let all : (prior ++ part.entries) ++ new.core.entries ≡ prior ++ world.core.entries =
      ap (λ (es : List Entry). (prior ++ part.entries) ++ es) is.empty ∙ append-nil (prior ++ part.entries) ∙ ap (λ (es : List Entry). prior ++ es) is.entries_are in
      let opened : openings (beginning new.core) new.core.entries ≡ openings (beginning world.core) world.core.entries =
      (λ i. openings (start i) (is.empty i)) ∙ no_openings (state_after (beginning world.core) world.core.entries) in
      record {
        start_is = start
            ∙ ap (λ (now : Start). state_after now world.core.entries) h.start_is
            ∙ sym (state-join (opening_state first world.core.kernels) prior world.core.entries)
            ∙ (λ i. state_after (opening_state first (sym is.kernels_are i)) (prior ++ sym is.entries_are i));
        whole = subst (IsWhole (opening_state first new.core.kernels)) (sym all)
            (subst (λ (kernels : List Program). IsWhole (opening_state first kernels) (prior ++ world.core.entries)) (sym is.kernels_are) h.whole);
        apart = subst AreApart (sym rings) h.apart;
        count = ap (λ (es : List Entry). length (sizes es)) all ∙ h.count ∙ ap (λ (o : Openings). o.opened) (sym opened);
        each = λ queue.
            subst (λ (machines : Rings). Stands new.core ((prior ++ part.entries) ++ new.core.entries) queue (among machines queue) (closed_ring_of new queue)) (sym rings)
            (subst (λ (machines : Rings). Stands new.core ((prior ++ part.entries) ++ new.core.entries) queue (ring_of world queue) (among machines queue)) (sym closed)
            (stands_along world.core new.core (prior ++ world.core.entries) ((prior ++ part.entries) ++ new.core.entries) queue (ring_of world queue) (closed_ring_of world queue) (record {
              next = rotated_next world.core new.core part is queue;
              takes = ap (λ (es : List Entry). takes es queue) all;
              size = ap (λ (es : List Entry). numbered (sizes es) queue.0) all;
              opened = opened_as new.core queue (openings (beginning world.core) world.core.entries) opened;
              owned = open_as new.core queue (openings (beginning world.core) world.core.entries) opened;
            }) (h.each queue)));
      }

  -- with no entry handed out, the same come before
  none_more : (more : List Entry) (new : Joined) → more ≡ [] → IsJoinedBehind first prior new → IsJoinedBehind first (prior ++ more) new
  none_more more new none kept = subst (λ (es : List Entry). IsJoinedBehind first es new) (sym (append-nil prior) ∙ ap (λ (es : List Entry). prior ++ es) (sym none)) kept

  meets_kept : (owed : Due) (reply : Reply) (new : Joined) → IsUnparted world owed → IsJoinedBehind first prior owed.after → Meets world owed reply new → IsJoinedBehind first (prior ++ handed reply) new
  meets_kept owed reply new unparted kept (inl served) =
      none_more (handed reply) new (ap handed served.0 ∙ handed_none owed.reply unparted.no_part) (subst (IsJoinedBehind first prior) (sym served.1) kept)
  meets_kept owed reply new unparted kept (inr lacked) = none_more (handed reply) new (ap handed lacked.1) (subst (IsJoinedBehind first prior) (sym lacked.2) h)

  rotates_kept : (reply : Reply) (new : Joined) (made : Result Handed cores.Refusal) → reply ≡ rotated_reply made → Rotates world.core made new.core → new.rings ≡ world.rings → new.closed ≡ world.closed → IsJoinedBehind first (prior ++ handed reply) new
  rotates_kept reply new (Ok part) told is rings closed =
      subst (λ (es : List Entry). IsJoinedBehind first (prior ++ es) new) (sym (ap handed told)) (rotated_kept part new is.1 rings closed)
  rotates_kept reply new (Err why) told is rings closed =
      let same : new ≡ world = λ i. joined (unrotated world.core new.core why is i) (rings i) (closed i) in
      none_more (handed reply) new (ap handed told) (subst (IsJoinedBehind first prior) (sym same) h)

  -- one request
  pub served_kept : (asked : Request) (reply : Reply) (new : Joined) → IsServed world asked reply new → IsJoinedBehind first (prior ++ handed reply) new
  served_kept (request.Step queue step) reply new is =
      meets_kept (due_step world queue step (ring_of world queue)) reply new (unparted_at_step world queue step (ring_of world queue)) (step_kept queue step (ring_of world queue) refl) is
  served_kept (request.Take queue) reply new is =
      meets_kept (due_take world queue (ring_of world queue)) reply new (unparted_at_take world queue (ring_of world queue)) (taking_kept queue (ring_of world queue) refl) is
  served_kept (request.OpenQueue client agent size producers) reply new is =
      let event : Event = Open client agent (judged_size size producers) in
      meets_kept (due_opening world size producers event (due world.core event)) reply new (unparted_opening world size producers event (due world.core event)) (opening_kept first prior world h client agent size producers) is
  served_kept (request.Call asked) reply new is =
      meets_kept (due_call world asked (due world.core (event.Call asked))) reply new (unparted_call world asked (due world.core (event.Call asked))) (call_kept asked) is
  served_kept (request.Query asked) reply new is = meets_kept (due_query world asked) reply new (unparted_query world asked) h is
  served_kept (request.Reload policy) reply new (inl is) =
      meets_kept (due_event world (Reload policy.rows) (due world.core (Reload policy.rows))) reply new (unparted_event world (Reload policy.rows) (due world.core (Reload policy.rows)))
      (aside_kept first prior world h (Reload policy.rows) (reload_aside policy.rows)) is.1
  served_kept (request.Reload policy) reply new (inr others) = none_more (handed reply) new (ap handed others.1) (subst (IsJoinedBehind first prior) (sym others.2) h)
  served_kept request.Rotate reply new is = rotates_kept reply new is.0 is.1 is.2 is.3 is.4

-- any list of requests
pub replies_kept : (first : Declared) (prior : List Entry) (world new : Joined) (requests : List Request) (replies : List Reply) → IsJoinedBehind first prior world → AreReplies world requests replies new
    → IsJoinedBehind first (prior ++ handed_out replies) new
replies_kept first prior world new [] [] h are = none_more first prior world h [] new refl (subst (IsJoinedBehind first prior) (sym are) h)
replies_kept first prior world new (asked ∷ requests) (reply ∷ replies) h are =
    subst (λ (es : List Entry). IsJoinedBehind first es new) (append_assoc prior (handed reply) (handed_out replies))
    (replies_kept first (prior ++ handed reply) are.0 new requests replies (served_kept first prior world h asked reply are.0 are.1) are.2)
replies_kept first prior world new [] (reply ∷ replies) h are = absurd are
replies_kept first prior world new (asked ∷ requests) [] h are = absurd are

-- ---- the opening

module _ (policy : Declared) (kernels : List Program) (capacity : ℕ) (core : History) (opening : IsOpening core policy kernels capacity) where
  opened : beginning core ≡ opening_state policy kernels
  opened = begin-opening policy core.kernels core.origin opening.origin_is ∙ ap (opening_state policy) opening.kernels_are

  abbrev NothingOpened : Openings
  NothingOpened = record { opened = 0; queues = [] }

  -- what holds where an opening begins, and of no entry, holds of its history
  of_none : (P : Start → List Entry → Type 0) → P (opening_state policy kernels) [] → P (beginning core) core.entries
  of_none P none = subst (P (beginning core)) (sym opening.entries_are) (subst (λ (now : Start). P now []) (sym opened) none)

  pub begins : IsJoinedBehind policy [] (joined core [] [])
  begins = record {
    start_is = begin-opening policy core.kernels core.origin opening.origin_is ∙ sym (state-now (opening_state policy core.kernels));
    whole = subst (IsWhole (opening_state policy core.kernels)) (sym opening.entries_are) (record { opens = refl; legal = tt });
    apart = tt;
    count = ap length (of_none (λ now es. sizes es ≡ []) no_sizes) ∙ ap (λ (o : Openings). o.opened) (sym none);
    each = λ queue. record {
      next = of_none (λ now es. next_id now es queue ≡ 0) (none_next (opening_state policy kernels) queue);
      takes = of_none (λ now es. takes es queue ≡ []) (no_takes queue);
      unopened = opened_as core queue NothingOpened none ∙ none_among queue.0;
      unowned = open_as core queue NothingOpened none;
    };
  }
    where
      none : openings (beginning core) core.entries ≡ NothingOpened
      none = of_none (λ now es. openings now es ≡ NothingOpened) (no_openings (opening_state policy kernels))

-- a world that was just opened is joined
pub begun_joined : (world : Joined) (policy : Declared) (kernels : List Program) (capacity : ℕ) → IsBegun world policy kernels capacity → IsJoinedBehind policy [] world
begun_joined world policy kernels capacity is =
    subst (IsJoinedBehind policy []) (λ i. joined world.core (sym is.rings i) (sym is.closed i)) (begins policy kernels capacity world.core is.core)
