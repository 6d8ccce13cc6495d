-- What the code of a call on a queue's ring did is requests made in turn, and what is kept beside each ring stays true.
use Rattle.std.proofs.Common.{◌≡◌, ℕ, ◌+◌, ◌-◌, ◌≤◌, Bool, true, false, List, [], ◌∷◌, ◌++◌, length, refl, sym, ap, ◌∙◌, subst, Option, Some, None, Result, Ok, Err, inl, inr, arith}
use Rattle.std.specs.Prelude.{nat_lt, not, if◌then◌else◌}
use Rattle.std.specs.List.{list_all}
use Rattle.std.proofs.lemmas.Bool.Decides.{nat_tests}
use Rattle.aql_packet.specs.declared.ids.PacketId.{PacketId}
use Rattle.aql_packet.specs.declared.ids.QueueId.{QueueId}
use Rattle.core_model.specs.declared.refusal.Refusal.TheVariants as why
use Rattle.core_model.specs.History.{beginning, History}
use Rattle.core_model.specs.Queues.{next_id}
use Rattle.ring_core.specs.declared.access.Access.{Access}
use Rattle.ring_core.specs.declared.access.Access.TheVariants.{LoadReadIndex, LoadHeader, ClearHeader, RaiseReadIndex}
use Rattle.ring_core.specs.declared.access.Made.{Made}
use Rattle.ring_core.specs.declared.access.Step.{Step}
use Rattle.ring_core.specs.Calls.{has_room, made_of, publication, retiring, showing}
use Rattle.ring_core.specs.InTurn.{MadeInTurn, collecting, publishing, step_by}
use Rattle.ring_core.specs.Machine.{Machine, made, producers_of, read_index}
use Rattle.ring_core.specs.Rule.{IsRule}
use Rattle.ring_core.specs.Words.{is_invalid}
use Rattle.ring_core.proofs.Kept.{both, keeps}
use Rattle.ring_core.proofs.Publication.{Moved, index_moves}
use Rattle.world.specs.declared.lane.Sent.{Sent}
use Rattle.world.specs.declared.lane.Shown.{Shown}
use Rattle.world.specs.declared.queue_ring.QueueRing.{QueueRing}
use Rattle.world.specs.declared.reply.Refusal.{Refusal}
use Rattle.world.specs.declared.reply.Refusal.TheVariants as refusal
use Rattle.world.specs.Actions.{Action, Reaches, asks, makes, reads, step}
use Rattle.world.specs.Dues.{handed_out, hindrance, is_decided}
use Rattle.world.specs.InStep.{IsJoined, StandsOpen}
use Rattle.world.specs.Lanes.{peek, publish_where, retire}
use Rattle.world.specs.Making.{AreDecided, ring_in, rings_of, with_queue_ring}
use Rattle.world.specs.States.{Joined, joined, ring_of}
use Rattle.world.specs.inner.Calling.{CallsAt, CollectsOn, PublishesOn, RetiresOn}
use Rattle.world.proofs.Acting.{stopped}
use Rattle.world.proofs.Calling.{Over, asks_nowhere, asks_refused, peeked, published, retired}
use Rattle.world.proofs.Deciding.{decided_put}
use Rattle.world.proofs.Kept.{replies_kept}
use Rattle.world.proofs.Joining.{stands_so}
use Rattle.world.proofs.Obeyed.{World, ring_is}
use Rattle.world.proofs.Requesting.{Keeps, reaches}
use Rattle.world.proofs.Places.{put_itself, ring_is_its, rings_put}

-- ---- what is done stays in step

reached_joined : (old new : Joined) → IsJoined old → Reaches old [] new → IsJoined new
reached_joined old new h (requests, replies, are, none) = record { first = h.first; prior = h.prior ++ handed_out replies; behind = replies_kept h.first h.prior old new requests replies h.behind are }

pub done_joined : {X : Type 0} (action : Action X) → Keeps action → (old : Joined) (result : Result X Refusal) (new : Joined) → IsJoined old → action old result new → IsJoined new
done_joined action kept old result new h done = reached_joined old new h (reaches action kept old result new done)

-- ---- the read index

abbrev raises : Access → Bool
raises RaiseReadIndex = true
raises _ = false

abbrev stays_all : List Made → Bool
stays_all mades = list_all (λ (one : Made). not (raises one.access)) mades

stays_by : (machine : Machine) (step : Step) → not (raises step.access) ≡ true → Moved machine step → read_index (made machine step) ≡ read_index machine
stays_by machine step none (inl raised) = let raising : not (raises step.access) ≡ false = ap (λ (a : Access). not (raises a)) raised.access_is in absurd (cc)
stays_by machine step none (inr stayed) = stayed.index_is

index_stays : (n : ℕ) (machine : Machine) (seat : ℕ) (mades : List Made) (last : Machine) → IsRule n machine → MadeInTurn machine seat mades last → stays_all mades ≡ true → read_index last ≡ read_index machine
index_stays n machine seat [] last rule turn none = ap read_index turn
index_stays n machine seat (one ∷ more) last rule turn none =
    let b = both (not (raises one.access)) (stays_all more) none in
    let st : Step = step_by seat one.access in
    index_stays n (made machine st) seat more last (keeps n machine st rule turn.0.allowed) turn.1 b.1 ∙ stays_by machine st b.0 (index_moves n machine st rule turn.0.allowed)

collecting_stays : (words : List ℕ) (header : ℕ) (b : Bool) → stays_all (if b then made_of LoadHeader header ∷ [] else showing words) ≡ true
collecting_stays words header true = refl
collecting_stays words header false = refl

publishing_stays : (id seen : ℕ) (words : List ℕ) (b : Bool) → stays_all (if b then publication id seen words else made_of (LoadReadIndex (record { 0 = id })) seen ∷ []) ≡ true
publishing_stays id seen words true = refl
publishing_stays id seen words false = refl

-- clearing leaves the read index, and raising adds 1 to it
cleared_by : (machine : Machine) → Moved machine (step_by 0 ClearHeader) → read_index (made machine (step_by 0 ClearHeader)) ≡ read_index machine
cleared_by machine moved = stays_by machine (step_by 0 ClearHeader) refl moved

raised_by : (machine : Machine) → Moved machine (step_by 0 RaiseReadIndex) → read_index (made machine (step_by 0 RaiseReadIndex)) ≡ read_index machine + 1
raised_by machine (inl raised) = raised.index_is
raised_by machine (inr stayed) = absurd (stayed.other refl)

index_raised : (n : ℕ) (machine : Machine) (index : ℕ) (last : Machine) → IsRule n machine → MadeInTurn machine 0 (retiring index) last → read_index last ≡ read_index machine + 1
index_raised n machine index last rule turn =
    let mid : Machine = made machine (step_by 0 ClearHeader) in
    let one : read_index mid ≡ read_index machine = cleared_by machine (index_moves n machine (step_by 0 ClearHeader) rule turn.0.allowed) in
    let two : read_index (made mid (step_by 0 RaiseReadIndex)) ≡ read_index mid + 1 = raised_by mid (index_moves n mid (step_by 0 RaiseReadIndex) (keeps n machine (step_by 0 ClearHeader) rule turn.0.allowed) turn.1.0.allowed) in
    ap read_index turn.1.1 ∙ two ∙ ap (λ (i : ℕ). i + 1) one

-- ---- calls on a queue's ring

module _ (core : History) (rings gone : List QueueRing) (h : IsJoined (World core rings gone)) (d : AreDecided core rings) (queue : QueueId) where
  -- what a call does, and what is kept beside each ring
  abbrev pub Did : {X : Type 0} → Action X → Result X Refusal → List QueueRing → Type 0
  Did action result new = action (World core rings gone) result (World core new gone) × AreDecided core new

  nothing_done : {X : Type 0} (action : Action X) (result : Result X Refusal) (new : List QueueRing) → new ≡ rings → action (World core rings gone) result (World core rings gone) → Did action result new
  nothing_done action result new same done = subst (λ (rs : List QueueRing). Did action result rs) (sym same) (done, d)

  module _ (r after : QueueRing) (found : ring_in rings queue ≡ Some r) (new : List QueueRing) (put : new ≡ with_queue_ring rings queue after) where
    has : ring_of (World core rings gone) queue ≡ Some r.ring
    has = ring_is core rings gone queue (Some r) found

    stands : StandsOpen core (h.prior ++ core.entries) queue r.ring
    stands = (stands_so h.first h.prior (World core rings gone) h.behind queue r.ring has).0

    -- the first step is refused
    stays_same : after ≡ r → new ≡ rings
    stays_same same = put ∙ ap (with_queue_ring rings queue) same ∙ put_itself rings queue r found

    asked_first : (seat : ℕ) (access : Access) (cause : Refusal) → hindrance r.decided r.ring (step_by seat access) ≡ Some cause → asks (step queue seat access) (World core rings gone) (Err cause) (World core rings gone)
    asked_first seat access cause hindered =
        asks_refused (World core rings gone) queue r.ring has seat access cause (ap (λ (b : Bool). hindrance b r.ring (step_by seat access)) (sym (d queue r found)) ∙ hindered)

    -- its steps were made
    module _ (its : after.queue ≡ r.queue) where
      its_number : after.queue.0 ≡ queue.0
      its_number = ap (λ (q : QueueId). q.0) its ∙ ring_is_its rings queue r found

      over_is : Over (World core rings gone) queue r.ring has after.ring ≡ World core new gone
      over_is = λ i. joined core ((sym (rings_put rings queue r after found its_number) ∙ ap rings_of (sym put)) i) (rings_of gone)

      decided_by_ring : after.decided ≡ is_decided core queue after.ring → AreDecided core new
      decided_by_ring here = subst (AreDecided core) (sym put) (decided_put core core rings queue r after found its_number here (λ other away. refl) d)

      -- where the read index stays, so does what was decided
      decided_still : (seat : ℕ) (mades : List Made) → stays_all mades ≡ true → MadeInTurn r.ring seat mades after.ring → after.decided ≡ r.decided → AreDecided core new
      decided_still seat mades none turn same =
          let index : read_index after.ring ≡ read_index r.ring = index_stays (producers_of r.ring) r.ring seat mades after.ring stands.rule.rule turn none in
          decided_by_ring (same ∙ d queue r found ∙ ap (λ (i : ℕ). nat_lt i (next_id (beginning core) core.entries queue)) (sym index))

      did_steps : {X : Type 0} (action : Action X) (result : Result X Refusal) → action (World core rings gone) result (Over (World core rings gone) queue r.ring has after.ring) → AreDecided core new → Did action result new
      did_steps action result done decided =
          (subst (λ (w : Joined). action (World core rings gone) result w) over_is done, decided)

    collected_on : (result : Result (Option Shown) Refusal) → CollectsOn r result after → Did (peek queue) result new
    collected_on (Err cause) (hindered, same) = nothing_done (peek queue) (Err cause) new (stays_same same) (stopped (asks (step queue 0 LoadHeader)) _ cause (World core rings gone) (World core rings gone) (asked_first 0 LoadHeader cause hindered))
    collected_on (Ok shown) (words, n, is, (turn, same, its)) =
        did_steps its (peek queue) (Ok shown) (subst (λ (s : Option Shown). peek queue (World core rings gone) (Ok s) (Over (World core rings gone) queue r.ring has after.ring)) (sym is) (peeked (World core rings gone) queue r.ring has words after.ring n turn))
        (decided_still its 0 (collecting words) (collecting_stays words _ (is_invalid _)) turn same)

    retired_on : (result : Result ℕ Refusal) → RetiresOn r result after → Did (retire queue) result new
    retired_on (Err cause) (hindered, same) =
        nothing_done (retire queue) (Err cause) new (stays_same same)
        (stopped (makes queue 0 ClearHeader) _ cause (World core rings gone) (World core rings gone) (stopped (asks (step queue 0 ClearHeader)) _ cause (World core rings gone) (World core rings gone) (asked_first 0 ClearHeader cause hindered)))
    retired_on (Ok index) (was, (turn, undecided, its)) =
        let past : nat_lt (read_index after.ring) (next_id (beginning core) core.entries queue) ≡ false =
        let raised : read_index after.ring ≡ read_index r.ring + 1 = index_raised (producers_of r.ring) r.ring index after.ring stands.rule.rule turn in
        let le : next_id (beginning core) core.entries queue ≤ read_index after.ring = omega (arith, raised, stands.in_step.ceiling) in grind (arith, nat_tests) in
        did_steps its (retire queue) (Ok index) (retired (World core rings gone) queue r.ring has index after.ring (sym (d queue r found) ∙ was) turn) (decided_by_ring its (undecided ∙ sym past))

    published_on : (producer : ℕ) (ticket : PacketId) (words : List ℕ) → length words ≡ 8 → (result : Result Sent Refusal) → PublishesOn producer ticket words r result after → Did (publish_where queue producer ticket words) result new
    published_on producer ticket words n (Err cause) (hindered, same) =
        nothing_done (publish_where queue producer ticket words) (Err cause) new (stays_same same)
        (stopped (reads queue producer (LoadReadIndex ticket)) _ cause (World core rings gone) (World core rings gone)
        (stopped (asks (step queue producer (LoadReadIndex ticket))) _ cause (World core rings gone) (World core rings gone) (asked_first producer (LoadReadIndex ticket) cause hindered)))
    published_on producer ticket words n (Ok told) (seen, is, (turn, same, its)) =
        did_steps its (publish_where queue producer ticket words) (Ok told)
        (subst (λ (s : Sent). publish_where queue producer ticket words (World core rings gone) (Ok s) (Over (World core rings gone) queue r.ring has after.ring)) (sym is) (published (World core rings gone) queue r.ring has producer seen ticket words after.ring n turn))
        (decided_still its producer (publishing r.ring.size ticket.0 seen words) (publishing_stays ticket.0 seen words (has_room r.ring.size ticket.0 seen)) turn same)

  nowhere : ring_in rings queue ≡ None → (seat : ℕ) (access : Access) → asks (step queue seat access) (World core rings gone) (Err (refusal.Core why.UnknownQueue)) (World core rings gone)
  nowhere none seat access = asks_nowhere (World core rings gone) queue seat access (ring_is core rings gone queue None none)

  pub collect_did : (result : Result (Option Shown) Refusal) (new : List QueueRing) → CallsAt CollectsOn (ring_in rings queue) queue rings result new → Did (peek queue) result new
  collect_did result new called = by_ring (ring_in rings queue) refl called
    where
      by_ring : (o : Option QueueRing) → ring_in rings queue ≡ o → CallsAt CollectsOn o queue rings result new → Did (peek queue) result new
      by_ring None none (told, same) =
          subst (λ (x : Result (Option Shown) Refusal). Did (peek queue) x new) (sym told)
          (nothing_done (peek queue) (Err (refusal.Core why.UnknownQueue)) new same (stopped (asks (step queue 0 LoadHeader)) _ (refusal.Core why.UnknownQueue) (World core rings gone) (World core rings gone) (nowhere none 0 LoadHeader)))
      by_ring (Some r) found (after, on, put) = collected_on r after found new put result on

  pub retire_did : (result : Result ℕ Refusal) (new : List QueueRing) → CallsAt RetiresOn (ring_in rings queue) queue rings result new → Did (retire queue) result new
  retire_did result new called = by_ring (ring_in rings queue) refl called
    where
      by_ring : (o : Option QueueRing) → ring_in rings queue ≡ o → CallsAt RetiresOn o queue rings result new → Did (retire queue) result new
      by_ring None none (told, same) =
          subst (λ (x : Result ℕ Refusal). Did (retire queue) x new) (sym told)
          (nothing_done (retire queue) (Err (refusal.Core why.UnknownQueue)) new same
          (stopped (makes queue 0 ClearHeader) _ (refusal.Core why.UnknownQueue) (World core rings gone) (World core rings gone)
          (stopped (asks (step queue 0 ClearHeader)) _ (refusal.Core why.UnknownQueue) (World core rings gone) (World core rings gone) (nowhere none 0 ClearHeader))))
      by_ring (Some r) found (after, on, put) = retired_on r after found new put result on

  pub publish_did : (producer : ℕ) (ticket : PacketId) (words : List ℕ) → length words ≡ 8 → (result : Result Sent Refusal) (new : List QueueRing) → CallsAt (PublishesOn producer ticket words) (ring_in rings queue) queue rings result new
      → Did (publish_where queue producer ticket words) result new
  publish_did producer ticket words n result new called = by_ring (ring_in rings queue) refl called
    where
      by_ring : (o : Option QueueRing) → ring_in rings queue ≡ o → CallsAt (PublishesOn producer ticket words) o queue rings result new → Did (publish_where queue producer ticket words) result new
      by_ring None none (told, same) =
          subst (λ (x : Result Sent Refusal). Did (publish_where queue producer ticket words) x new) (sym told)
          (nothing_done (publish_where queue producer ticket words) (Err (refusal.Core why.UnknownQueue)) new same
          (stopped (reads queue producer (LoadReadIndex ticket)) _ (refusal.Core why.UnknownQueue) (World core rings gone) (World core rings gone)
          (stopped (asks (step queue producer (LoadReadIndex ticket))) _ (refusal.Core why.UnknownQueue) (World core rings gone) (World core rings gone) (nowhere none producer (LoadReadIndex ticket)))))
      by_ring (Some r) found (after, on, put) = published_on r after found new put producer ticket words n result on
