-- What belongs to a broker.
use Rattle.std.proofs.Common.{◌≡◌, ℕ, suc, zero, ◌<◌, true, false, Bool, List, [], ◌∷◌, ◌++◌, length, map, refl, ap, ◌∙◌, sym, subst, arith, eq-eqb}
use Rattle.std.specs.Prelude.{Option, Some, None, All, cond, option_map, ◌==◌}
use Rattle.std.specs.List.{find}
use Rattle.std.proofs.lemmas.List.Elements.{All-push}
use Rattle.atomic_table.specs.Seated.{TableId}
use Rattle.aql_packet.specs.declared.ids.QueueId.{QueueId}
use Rattle.ring.specs.Passes.{RingSeen, ProducerSeen, ProcessorSeen}
use Rattle.ring.specs.Dealt.{dealt, new_producer_pass, new_processor_pass}
use Rattle.client_threads.specs.declared.client_end.ClientEnd.{ClientEnd}
use Rattle.client_threads.specs.Boards.{FrontSeen}
use Rattle.client_threads.specs.Lanes.{LaneSeen}
use Rattle.client_threads.specs.Opening.{IsOpened, as_end}
use Rattle.client_threads.specs.Rings.{IsOf, IsRingOf, QueueRing, ring_of}
use Rattle.client_threads.specs.Running.{IsEndOf, IsLaneOf}

ring_still : (queue : ℕ) (old more : List QueueRing) (ring : RingSeen) → ring_of queue old ≡ Some ring → ring_of queue (old ++ more) ≡ Some ring
ring_still queue [] more ring e = absurd cc
ring_still queue (r ∷ rs) more ring e =
    (elim (r.queue == queue) as (λ b. option_map (λ x. x.ring) (cond b (Some r) (find (λ x. x.queue == queue) rs)) ≡ Some ring → option_map (λ x. x.ring) (cond b (Some r) (find (λ x. x.queue == queue) (rs ++ more))) ≡ Some ring)
    [ true ↦ λ h. h | false ↦ λ h. ring_still queue rs more ring h ]) e

ring_new : (queue : ℕ) (old : List QueueRing) (ring : RingSeen) → ring_of queue old ≡ None → (queue == queue) ≡ true → ring_of queue (old ++ record { queue = queue; ring = ring } ∷ []) ≡ Some ring
ring_new queue [] ring e same = rw same refl
ring_new queue (r ∷ rs) ring e same =
    (elim (r.queue == queue) as (λ b. option_map (λ x. x.ring) (cond b (Some r) (find (λ x. x.queue == queue) rs)) ≡ None → option_map (λ x. x.ring) (cond b (Some r) (find (λ x. x.queue == queue) (rs ++ record { queue = queue; ring = ring } ∷ []))) ≡ Some ring)
    [ true ↦ λ h. absurd cc | false ↦ λ h. ring_new queue rs ring h same ]) e

same_number : (n : ℕ) → (n == n) ≡ true
same_number n = eq-eqb n n refl

dealt_table : (table : TableId) (n : ℕ) → All (λ p. p.table ≡ table) (dealt table n)
dealt_table table zero = λ k d lt. absurd (omega (arith, lt))
dealt_table table (suc n) = All-push (λ p. p.table ≡ table) (dealt table n) (new_producer_pass table (suc n)) (dealt_table table n) refl

ends_belong : (queue : QueueId) (new : List QueueRing) (ring : RingSeen) → IsRingOf new queue.0 ring → (ps : List ProducerSeen) → All (λ p. p.table ≡ ring.table) ps → All (λ end. IsEndOf new end) (map (as_end queue) ps)
ends_belong queue new ring is [] h k d lt = absurd (omega (arith, lt))
ends_belong queue new ring is (p ∷ ps) h zero d lt = record { is = (ring, is, h zero p (omega arith)) }
ends_belong queue new ring is (p ∷ ps) h (suc k) d lt = ends_belong queue new ring is ps (λ j e l. h (suc j) e (omega (arith, l))) k d (omega (arith, lt))

module _ (old new : List QueueRing) (size producers : ℕ) (front : FrontSeen) (queue : QueueId) (ends : List ClientEnd) (lane : LaneSeen) (h : IsOpened old size producers front queue ends lane new) where
  new_ring : IsRingOf new queue.0 h.ring
  new_ring = ap (ring_of queue.0) h.rings ∙ ring_new queue.0 old h.ring h.fresh (same_number queue.0)

  pub kept : (q : ℕ) (table : TableId) → IsOf old q table → IsOf new q table
  kept q table is = (is.0, ap (ring_of q) h.rings ∙ ring_still q old (record { queue = queue.0; ring = h.ring } ∷ []) is.0 is.1, is.2)

  pub ends_are_of : All (λ end. IsEndOf new end) ends
  ends_are_of = subst (λ (es : List ClientEnd). All (λ end. IsEndOf new end) es) (sym h.ends_are) (ends_belong queue new h.ring new_ring (dealt h.ring.table producers) (dealt_table h.ring.table producers))

  -- its lane served nothing, which stands in whatever was seen
  pub lane_is_of : IsLaneOf front.board new lane
  lane_is_of = subst (λ (l : LaneSeen). IsLaneOf front.board new l) (sym h.lane_is) (record { is = (h.ring, new_ring, refl); board_is = refl; stands = tt })
