-- Steps of a seat, one after the other.
use Rattle.std.proofs.Common.{◌≡◌, ℕ, suc, ◌+◌, ◌<◌, true, false, List, [], ◌∷◌, ◌++◌, refl, ap, ◌∙◌, sym, subst, arith}
use Rattle.std.specs.Prelude.{Some, slice_index}
use Rattle.atomic_table.specs.Table.{Me}
use Rattle.ring_core.specs.declared.access.Access.{Access}
use Rattle.ring_core.specs.declared.access.Access.TheVariants.{StoreBody, StoreHeader}
use Rattle.ring_core.specs.declared.access.Made.{Made}
use Rattle.ring_core.specs.declared.part.SeatPart.{SeatPart}
use Rattle.ring_core.specs.declared.part.SeatPart.TheVariants.{Producer}
use Rattle.ring_core.specs.Words.{is_invalid}
use Rattle.ring_core.specs.Tickets.{open_ticket, shows_room}
use Rattle.ring_core.specs.Parts.{may_make}
use Rattle.ring_core.specs.Machine.{word_place, place_of}
use Rattle.ring.specs.declared.share.Numbered.{Numbered}
use Rattle.ring.specs.Places.{table_place}
use Rattle.ring.specs.Shares.{alone}
use Rattle.ring.specs.Passes.{RingSeen, only_part}
use Rattle.ring.specs.Made.{WereMade, knowing_all, stored}
use Rattle.ring.specs.inner.Halfway.{body_stored}
use Rattle.ring.specs.Steps.{only_number, KnowsIndex, IsReady, HasGained}
use Rattle.ring.specs.Publishing.{IsFillable}
use Rattle.ring.proofs.Filling.{knowing_append, were_append, Filled, filling, filled, filled_saw, body_whole, may_store_body, may_store_header}
use Rattle.ring.proofs.Places.{table_from}

-- no step yet
pub gained_none : {S : Type 0} (size producers : ℕ) (me : Me S (List Numbered)) → me ≡ (alone (only_number me.0) (only_part me.0), []) → HasGained size producers me [] me
gained_none size producers me one = record { were = tt; knows = one }

-- a seat has one part after its steps
pub one_after : {S : Type 0} (size producers : ℕ) (me me1 : Me S (List Numbered)) (made : List Made) → HasGained size producers me made me1 → me1 ≡ (alone (only_number me1.0) (only_part me1.0), [])
one_after {S} size producers me me1 made h = subst (λ (m : Me S (List Numbered)). m ≡ (alone (only_number m.0) (only_part m.0), [])) (sym h.knows) refl

pub gained_more : {S : Type 0} (size producers : ℕ) (me me1 me2 : Me S (List Numbered)) (xs ys : List Made) → HasGained size producers me xs me1 → HasGained size producers me1 ys me2 → HasGained size producers me (xs ++ ys) me2
gained_more {S} size producers me me1 me2 xs ys h k =
    record {
      were = were_append size producers (only_number me.0) (only_part me.0) xs ys h.were (subst (λ (m : Me S (List Numbered)). WereMade size producers (only_number m.0) (only_part m.0) ys) h.knows k.were);
      knows = subst (λ (m : Me S (List Numbered)). me2 ≡ (alone (only_number m.0) (knowing_all (only_part m.0) ys), [])) h.knows k.knows
          ∙ (λ i. (alone (only_number me.0) (sym (knowing_append (only_part me.0) xs ys) i), []));
    }

-- a seat of this one part is ready for an access
pub ready_of : {S : Type 0} (ring : RingSeen) (me : Me S (List Numbered)) (number : ℕ) (part : SeatPart) (access : Access) (place : ℕ) → me ≡ (alone number part, []) → may_make ring.size part access ≡ true → ((index : ℕ) → KnowsIndex part index → place ≡ table_place (place_of ring.size index access)) → IsReady ring me access place
ready_of {S} ring me number part access place one may lies =
    subst (λ (m : Me S (List Numbered)). IsReady ring m access place) (sym one) (record { one = refl; may = may; lies = lies })

-- ---- the stores of a packet

module _ {S : Type 0} (ring : RingSeen) (me me' : Me S (List Numbered)) (id slot k : ℕ) (words : List ℕ) (f : IsFillable ring.size me id) (slot_is : slot ≡ table_place (word_place ring.size id 0))
    (h : HasGained ring.size ring.producers me (body_stored id words k) me') where
  known : Filled id words f.part f.ticket k
  known = filling id words f.part f.ticket f.opened k

  filled_me : me' ≡ (alone (only_number me.0) (Producer known.part), [])
  unfolding known
  filled_me =
      let e : only_part me.0 ≡ Producer f.part = ap (λ (m : Me S (List Numbered)). only_part m.0) f.one in
      h.knows ∙ (λ i. (alone (only_number me.0) (knowing_all (e i) (body_stored id words k)), [])) ∙ (λ i. (alone (only_number me.0) (known.is i), []))

  saw_room : shows_room ring.size id (filled words f.ticket k).saw ≡ true
  saw_room = ap (shows_room ring.size id) (filled_saw words f.ticket k) ∙ f.room

  pub ready_body : (w : ℕ) → k < 7 → IsReady ring me' (StoreBody (record { 0 = id }) (k + 1) w) (slot + (k + 1))
  ready_body w lt =
      ready_of ring me' (only_number me.0) (Producer known.part) (StoreBody (record { 0 = id }) (k + 1) w) (slot + (k + 1)) filled_me
      (may_store_body ring.size id k w known.part (filled words f.ticket k) lt known.ticket saw_room)
      (λ index _. ap (λ n. n + (k + 1)) slot_is ∙ table_from ring.size id (k + 1))

  pub ready_header : (w : ℕ) → k ≡ 7 → is_invalid w ≡ false → IsReady ring me' (StoreHeader (record { 0 = id }) w) slot
  ready_header w all valid =
      let open_is : open_ticket id known.part.tickets ≡ Some (filled words f.ticket 7) = known.ticket ∙ ap (λ n. Some (filled words f.ticket n)) all in
      ready_of ring me' (only_number me.0) (Producer known.part) (StoreHeader (record { 0 = id }) w) slot filled_me
      (may_store_header ring.size id w known.part (filled words f.ticket 7) open_is (body_whole words f.ticket f.eight) valid)
      (λ index _. slot_is)

pub body_more : (id : ℕ) (words : List ℕ) (k : ℕ) → body_stored id words (k + 1) ≡ body_stored id words k ++ stored (StoreBody (record { 0 = id }) (k + 1) (slice_index words (k + 1))) ∷ []
body_more id words k =
    let e : suc k ≡ k + 1 = omega arith in
    subst (λ (n : ℕ). body_stored id words n ≡ body_stored id words k ++ stored (StoreBody (record { 0 = id }) n (slice_index words n)) ∷ []) e refl
