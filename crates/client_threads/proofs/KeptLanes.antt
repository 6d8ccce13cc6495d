-- What serving does to what a lane keeps.
use Rattle.std.proofs.Common.{◌≡◌, ℕ, suc, zero, false, ◌+◌, ◌<◌, ◌≤◌, ◌^◌, List, [], ◌∷◌, ◌++◌, length, map, refl, ap, ◌∙◌, sym, subst, arith, append_assoc}
use Rattle.std.specs.Prelude.{Ok, Some, All, slice_get}
use Rattle.std.proofs.lemmas.List.{append-nil, length_push, map_push}
use Rattle.std.proofs.lemmas.List.Elements.{All-push}
use Rattle.aql_packet.proofs.WordLemmas.{bytes_back}
use Rattle.aql_packet.specs.Layout.{Are64Bytes}
use Rattle.aql_packet.specs.Reading.{decoded}
use Rattle.aql_packet.specs.declared.ids.PacketId.{PacketId}
use Rattle.aql_packet.specs.declared.ids.QueueId.{QueueId}
use Rattle.ring.specs.declared.processor.Shown.{Shown}
use Rattle.ring.specs.declared.processor.Peeked.{Peeked}
use Rattle.ring.specs.declared.processor.Peeked.TheVariants as peeked
use Rattle.ring.specs.Bytes.{words_of}
use Rattle.ring.specs.Passes.{RingSeen, ProcessorSeen, as_processor}
use Rattle.ring.specs.Made.{retiring}
use Rattle.ring.specs.Showing.{HasPeeked, IsShownBy, ProcessorGains}
use Rattle.core_model.specs.History.{History}
use Rattle.core_model.specs.Limits.{most_queues}
use Rattle.core_model.specs.Legal.{MeetsOrLacks}
use Rattle.core_model.specs.declared.event.Event.TheVariants.{Take}
use Rattle.core_model.specs.declared.outcome.Outcome.TheVariants as outcome
use Rattle.core_model.specs.declared.outcome.Taken.{Taken}
use Rattle.core_model.specs.declared.served.Served.{Served}
use Rattle.client_threads.specs.declared.pending.PendingPacket.{PendingPacket}
use Rattle.client_threads.specs.Advancing.{IsOfItsKind, is_barrier_among, is_some_barrier}
use Rattle.client_threads.specs.Boards.{FrontSeen}
use Rattle.client_threads.specs.Serving.{take_of, served_of}
use Rattle.client_threads.specs.inner.Kept.{Keeps, seen_as, served_as, served_from, served_of_pass}
use Rattle.client_threads.specs.inner.Turns.{IsHanded}
use Rattle.client_threads.proofs.Calls.{answered_meets}
use Rattle.client_threads.specs.Lanes.{LaneSeen, IsLane, AreNumbered, EndsWith, ids_of, words_served}

pub numbered_more : (id : ℕ) (served : List Served) (one : Served) → AreNumbered id served → one.id.0 ≡ id + length served → AreNumbered id (served ++ one ∷ [])
numbered_more id [] one h is = (omega (arith, is), tt)
numbered_more id (s ∷ ss) one h is = (h.0, numbered_more (suc id) ss one h.1 (omega (arith, is)))

pub map_more : (served : List Served) (one : Served) → map words_served (served ++ one ∷ []) ≡ map words_served served ++ words_served one ∷ []
map_more [] one = refl
map_more (s ∷ ss) one = ap (λ xs. words_served s ∷ xs) (map_more ss one)

pub map_length : (served : List Served) → length (map words_served served) ≡ length served
map_length [] = refl
map_length (s ∷ ss) = ap suc (map_length ss)

-- ---- what a pass retired

served_from_more : (id : ℕ) (ws : List (List ℕ)) (words : List ℕ) → served_from id (ws ++ words ∷ []) ≡ served_from id ws ++ served_as (id + length ws) words ∷ []
served_from_more id [] words = let e : id ≡ id + 0 = omega arith in ap (λ n. served_as n words ∷ []) e
served_from_more id (w ∷ ws) words =
    let e : suc id + length ws ≡ id + suc (length ws) = omega arith in
    ap (λ xs. served_as id w ∷ xs) (served_from_more (suc id) ws words ∙ ap (λ n. served_from (suc id) ws ++ served_as n words ∷ []) e)

pub served_length : (id : ℕ) (ws : List (List ℕ)) → length (served_from id ws) ≡ length ws
served_length id [] = refl
served_length id (w ∷ ws) = ap suc (served_length (suc id) ws)

-- what was retired with one packet more
pub retired_more : (pass new : ProcessorSeen) (shown : Shown) → Are64Bytes shown.bytes → shown.id.0 ≡ length pass.part.retired → new.part.retired ≡ pass.part.retired ++ words_of shown.bytes ∷ []
    → served_of_pass new ≡ served_of_pass pass ++ served_of shown ∷ []
retired_more pass new shown bytes id adds =
    let back = bytes_back shown.bytes bytes in
    let at : 0 + length pass.part.retired ≡ shown.id.0 = omega (arith, id) in
    let same : served_as (0 + length pass.part.retired) (words_of shown.bytes) ≡ served_of shown = λ i. record { id = record { 0 = at i }; bytes = back i } in
    ap (served_from 0) adds ∙ served_from_more 0 pass.part.retired (words_of shown.bytes) ∙ ap (λ s. served_of_pass pass ++ s ∷ []) same

-- ---- what is pending

get_before : (served : List Served) (one : Served) (k : ℕ) → k < length served → slice_get (served ++ one ∷ []) k ≡ slice_get served k
get_before [] one k lt = absurd (omega (arith, lt))
get_before (s ∷ ss) one zero lt = refl
get_before (s ∷ ss) one (suc k) lt = get_before ss one k (omega (arith, lt))

get_last : (served : List Served) (one : Served) (k : ℕ) → k ≡ length served → slice_get (served ++ one ∷ []) k ≡ Some one
get_last [] one zero is = refl
get_last [] one (suc k) is = absurd (omega (arith, is))
get_last (s ∷ ss) one zero is = absurd (omega (arith, is))
get_last (s ∷ ss) one (suc k) is = get_last ss one k (omega (arith, is))

-- what is pending was served, and is of its kind
pub record AreKnown (served : List Served) (pending : List PendingPacket) : Type 0 where
  pub below : All (λ id. id.0 < length served) (ids_of pending)
  pub kinds : All (IsOfItsKind served) pending

kinds_below : (served : List Served) (one : Served) (pending : List PendingPacket) → All (λ id. id.0 < length served) (ids_of pending) → All (IsOfItsKind served) pending → All (IsOfItsKind (served ++ one ∷ [])) pending
kinds_below served one [] below kinds k d lt = absurd (omega (arith, lt))
kinds_below served one (p ∷ ps) below kinds zero d lt =
    let here : p.id.0 < length served = below zero p.id (omega arith) in
    let kind : IsOfItsKind served p = kinds zero p (omega arith) in
    kind ∙ ap is_barrier_among (sym (get_before served one p.id.0 here))
kinds_below served one (p ∷ ps) below kinds (suc k) d lt =
    kinds_below served one ps (λ j e l. below (suc j) e (omega (arith, l))) (λ j e l. kinds (suc j) e (omega (arith, l))) k d (omega (arith, lt))

below_more : (n m : ℕ) (ids : List PacketId) → n ≤ m → All (λ id. id.0 < n) ids → All (λ id. id.0 < m) ids
below_more n m ids le h k d lt = let b = h k d lt in omega (arith, b, le)

pub known_below : (served : List Served) (one : Served) (pending : List PendingPacket) → AreKnown served pending → AreKnown (served ++ one ∷ []) pending
known_below served one pending h =
    let more = length_push served one in
    record { below = below_more (length served) (length (served ++ one ∷ [])) (ids_of pending) (omega (arith, more)) h.below; kinds = kinds_below served one pending h.below h.kinds }

pub known_more : (served : List Served) (one : Served) (pending : List PendingPacket) (p : PendingPacket) → AreKnown served pending → p.id.0 ≡ length served → p.is_barrier ≡ is_some_barrier (decoded one.bytes) → AreKnown (served ++ one ∷ []) (pending ++ p ∷ [])
known_more served one pending p h id kind =
    let more = length_push served one in
    let old = known_below served one pending h in
    record {
      below = subst (All (λ id. id.0 < length (served ++ one ∷ []))) (sym (map_push (λ (q : PendingPacket). q.id) pending p)) (All-push (λ id. id.0 < length (served ++ one ∷ [])) (ids_of pending) p.id old.below (omega (arith, more, id)));
      kinds = All-push (IsOfItsKind (served ++ one ∷ [])) pending p old.kinds (kind ∙ ap is_barrier_among (sym (get_last served one p.id.0 id)));
    }

module _ (queue : QueueId) (pass : ProcessorSeen) (kept : List Served) (handed : ℕ) (pending : List PendingPacket) (front : FrontSeen) where
  pub known_of : Keeps queue pass kept handed pending front → AreKnown (served_of_pass pass) pending
  known_of h = record { below = h.lane.pending; kinds = h.kinds }

  -- a lane whose packet was retired and is served keeps what a lane keeps
  pub served_keeps : (ring : RingSeen) (new : ProcessorSeen) (shown : Shown) (index : ℕ) (more : List PendingPacket)
      → Are64Bytes shown.bytes → Keeps queue pass kept handed pending front → IsShownBy shown pass
      → ProcessorGains ring pass (retiring index) new → new.part.retired ≡ pass.part.retired ++ words_of shown.bytes ∷ [] → length new.part.retired < 2 ^ 64
      → AreKnown (served_of_pass pass ++ served_of shown ∷ []) more
      → Keeps queue new (kept ++ served_of shown ∷ []) handed more front
  served_keeps ring new shown index more bytes keeps looked retired adds few known =
      let served = served_of_pass pass in
      let one = served_of shown in
      let same : served_of_pass new ≡ served ++ one ∷ [] = retired_more pass new shown bytes looked.1 adds in
      let count : length served ≡ length pass.part.retired = served_length 0 pass.part.retired in
      let id : shown.id.0 ≡ length pass.part.retired = looked.1 in
      let own : length (kept ++ one ∷ []) ≡ length kept + 1 = length_push kept one in
      let longer : length new.part.retired ≡ length pass.part.retired + 1 = ap length adds ∙ length_push pass.part.retired (words_of shown.bytes) in
      let before = keeps.count in
      record {
        lane = subst (λ (ss : List Served). IsLane (record { queue = queue; pass = new; served = ss; kept = kept ++ one ∷ []; pending = ids_of more; front = front })) (sym same) (record {
          few = keeps.lane.few;
          numbered = numbered_more 0 served one keeps.lane.numbered (omega (arith, id, count));
          retired = map_more served one ∙ ap (λ ws. ws ++ words_of shown.bytes ∷ []) keeps.lane.retired ∙ sym adds;
          kept = record { handed = keeps.lane.kept.handed; served_is = ap (λ xs. xs ++ one ∷ []) keeps.lane.kept.served_is ∙ append_assoc keeps.lane.kept.handed kept (one ∷ []) };
          pending = known.below;
          resting = ap (λ p. (as_processor p).raising) retired.1.1;
        });
        count = omega (arith, own, longer, before);
        few = few;
        kinds = subst (λ (ss : List Served). All (IsOfItsKind ss) more) (sym same) known.kinds;
      }

  pub is_handed : (ring : RingSeen) (before after : History) (shown : Shown) (became : Taken) (new : ProcessorSeen) (more : List PendingPacket) (ids : List PacketId)
      → Are64Bytes shown.bytes → shown.id.0 ≡ length pass.part.retired → new.part.retired ≡ pass.part.retired ++ words_of shown.bytes ∷ [] → ids_of more ≡ ids
      → MeetsOrLacks (Take queue shown.id shown.bytes) before after (Ok (outcome.Taken became)) → ProcessorGains ring pass (retiring (length pass.part.retired)) new
      → IsHanded ring shown (seen_as queue pass kept pending front) before became ids (seen_as queue new (kept ++ served_of shown ∷ []) more front) after
  is_handed ring before after shown became new more ids bytes id adds are met retired =
      let same = retired_more pass new shown bytes id adds in
      record {
        taken = answered_meets (Take queue shown.id shown.bytes) before after (outcome.Taken became) met;
        retired = retired;
        lane = λ i. record { queue = queue; pass = new; served = same i; kept = kept ++ served_of shown ∷ []; pending = are i; front = front };
      }

  -- a lane that handed over all that it kept does too
  pub handed_keeps : (all : ℕ) → all ≡ handed + length kept → Keeps queue pass kept handed pending front → Keeps queue pass [] all pending front
  handed_keeps all is h =
      let count = h.count in
      record {
        lane = record {
          few = h.lane.few;
          numbered = h.lane.numbered;
          retired = h.lane.retired;
          kept = record { handed = served_of_pass pass; served_is = sym (append-nil (served_of_pass pass)) };
          pending = h.lane.pending;
          resting = h.lane.resting;
        };
        count = omega (arith, is, count);
        few = h.few;
        kinds = h.kinds;
      }

-- a peek leaves whether its pass stands between clearing and raising
looked_rests : (ring : RingSeen) (old new : ProcessorSeen) (found : Peeked) → HasPeeked ring old found new → new.part.raising ≡ old.part.raising
looked_rests ring old new peeked.Empty h = ap (λ p. (as_processor p).raising) h.2.1.1
looked_rests ring old new (peeked.Shown shown) h = ap (λ p. (as_processor p).raising) h.2.1.1

-- a lane that only looked keeps what a lane keeps
pub looked_keeps : (ring : RingSeen) (queue : QueueId) (pass mid : ProcessorSeen) (kept : List Served) (handed : ℕ) (pending : List PendingPacket) (front : FrontSeen) (found : Peeked)
    → Keeps queue pass kept handed pending front → HasPeeked ring pass found mid → mid.part.retired ≡ pass.part.retired → Keeps queue mid kept handed pending front
looked_keeps ring queue pass mid kept handed pending front found h looked leaves =
    let same : served_of_pass mid ≡ served_of_pass pass = ap (served_from 0) leaves in
    let count = h.count in
    let few = h.few in
    let long : length mid.part.retired ≡ length pass.part.retired = ap length leaves in
    record {
      lane = subst (λ (ss : List Served). IsLane (record { queue = queue; pass = mid; served = ss; kept = kept; pending = ids_of pending; front = front })) (sym same) (record {
        few = h.lane.few;
        numbered = h.lane.numbered;
        retired = h.lane.retired ∙ sym leaves;
        kept = h.lane.kept;
        pending = h.lane.pending;
        resting = looked_rests ring pass mid found looked ∙ h.lane.resting;
      });
      count = omega (arith, count, long);
      few = omega (arith, few, long);
      kinds = subst (λ (ss : List Served). All (IsOfItsKind ss) pending) (sym same) h.kinds;
    }

-- and it is as before but for its pass
pub looked_as : (queue : QueueId) (pass mid : ProcessorSeen) (kept : List Served) (pending : List PendingPacket) (front : FrontSeen) → mid.part.retired ≡ pass.part.retired
    → seen_as queue mid kept pending front ≡ record (seen_as queue pass kept pending front) { pass = mid }
looked_as queue pass mid kept pending front leaves =
    ap (λ (ss : List Served). record { queue = queue; pass = mid; served = ss; kept = kept; pending = ids_of pending; front = front }) (ap (served_from 0) leaves)

-- so does the lane of a queue that opens
module _ (queue : QueueId) (pass : ProcessorSeen) (front : FrontSeen) (none : pass.part.retired ≡ []) where
  pub opened_keeps : queue.0 ≤ most_queues → pass.part.raising ≡ false → Keeps queue pass [] 0 [] front
  opened_keeps few resting =
      let count : length pass.part.retired ≡ 0 = ap length none in
      record {
        lane = subst (λ (ss : List Served). IsLane (record { queue = queue; pass = pass; served = ss; kept = []; pending = []; front = front })) (sym (ap (served_from 0) none)) (record {
          few = few;
          numbered = tt;
          retired = sym none;
          kept = record { handed = []; served_is = refl };
          pending = λ k d lt. absurd (omega (arith, lt));
          resting = resting;
        });
        count = omega (arith, count);
        few = omega (arith, count);
        kinds = λ k d lt. absurd (omega (arith, lt));
      }

  pub opened_as : seen_as queue pass [] [] front ≡ record { queue = queue; pass = pass; served = []; kept = []; pending = []; front = front }
  opened_as = ap (λ (ss : List Served). record { queue = queue; pass = pass; served = ss; kept = []; pending = []; front = front }) (ap (served_from 0) none)
