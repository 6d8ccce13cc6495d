-- The passes of a queue among ends, and its lane among lanes.
use Rattle.std.proofs.Common.{◌≡◌, ℕ, suc, zero, ◌+◌, ◌<◌, true, false, Bool, List, [], ◌∷◌, ◌++◌, length, map, drop, get_or, refl, ap, ◌∙◌, sym, arith, eqb-true, append_assoc}
use Rattle.std.proofs.lemmas.List.{append-nil, length-append}
use Rattle.std.proofs.Math.Numerals.{add-one}
use Rattle.std.specs.Prelude.{◌≢◌, ◌==◌, ◌&&◌, ◌||◌, Option, Some, None, is_some, cond, if◌then◌else◌}
use Rattle.std.specs.List.{cons_option, filter_map, list_any, list_all, remove}
use Rattle.ring.specs.Passes.{ProducerSeen}
use Rattle.ring.specs.Settling.{has_pass}
use Rattle.client_threads.specs.declared.broker.Desk.{Desk}
use Rattle.client_threads.specs.declared.client_end.ClientEnd.{ClientEnd}
use Rattle.client_threads.specs.Desks.{seen}
use Rattle.client_threads.specs.Lanes.{LaneSeen}
use Rattle.client_threads.specs.Rings.{QueueRing}
use Rattle.client_threads.specs.Settling.{pass_of, passes_of}
use Rattle.client_threads.specs.Takes.{lane_at}

-- an end of a queue with a number is a pass of the queue with that number
pub end_is_pass : (queue number : ℕ) (ends : List ClientEnd) → has_pass number (passes_of queue ends) ≡ list_any (λ end. (end.queue.0 == queue) && (end.pass.number == number)) ends
end_is_pass queue number [] = refl
end_is_pass queue number (e ∷ es) =
    (elim (e.queue.0 == queue) as (λ b. list_any (λ pass. pass.number == number) (cons_option (if b then Some e.pass else None) (passes_of queue es)) ≡ ((b && (e.pass.number == number)) || list_any (λ end. (end.queue.0 == queue) && (end.pass.number == number)) es))
    [ true ↦ ap (λ rest. (e.pass.number == number) || rest) (end_is_pass queue number es) | false ↦ end_is_pass queue number es ])

-- what holds of all desks holds of what is seen of them
pub all_rings : (p : QueueRing → Bool) (desks : List Desk) → list_all p (map seen desks) ≡ list_all (λ desk. p (seen desk)) desks
all_rings p [] = refl
all_rings p (d ∷ ds) = ap (λ rest. p (seen d) && rest) (all_rings p ds)

module _ {X Y : Type 0} (f : X → Option Y) where
  -- what is picked from a place on: the item there, and what is behind it
  pub picked_at : (xs : List X) (i : ℕ) (x : X) → i < length xs → get_or xs i x ≡ x → filter_map f (drop i xs) ≡ cons_option (f x) (filter_map f (drop (suc i) xs))
  picked_at [] i x lt is = absurd (omega (arith, lt))
  picked_at (y ∷ ys) zero x lt is = ap (λ (z : X). cons_option (f z) (filter_map f ys)) is
  picked_at (y ∷ ys) (suc i) x lt is = picked_at ys i x (omega (arith, lt)) is

  -- an item that isn't picked may be taken out
  pub unpicked : (xs : List X) (i : ℕ) (x : X) → i < length xs → get_or xs i x ≡ x → f x ≡ None → filter_map f (remove xs i) ≡ filter_map f xs
  unpicked [] i x lt is none = absurd (omega (arith, lt))
  unpicked (y ∷ ys) zero x lt is none = sym (ap (λ (z : X). cons_option (f z) (filter_map f ys)) is ∙ ap (λ o. cons_option o (filter_map f ys)) none)
  unpicked (y ∷ ys) (suc i) x lt is none = ap (cons_option (f y)) (unpicked ys i x (omega (arith, lt)) is none)

-- what is behind a place once the item there is taken out
pub behind_removed : {X : Type 0} → (xs : List X) (i : ℕ) → drop i (remove xs i) ≡ drop (suc i) xs
behind_removed [] zero = refl
behind_removed [] (suc i) = refl
behind_removed (x ∷ xs) zero = refl
behind_removed (x ∷ xs) (suc i) = behind_removed xs i

-- an end of another queue has no pass of this one
other_pass : (queue other : ℕ) (end : ClientEnd) → end.queue.0 ≡ queue → other ≢ queue → pass_of other end ≡ None
other_pass queue other end is ne =
    by_test (end.queue.0 == other) refl
  where
    by_test : (b : Bool) → (end.queue.0 == other) ≡ b → (if end.queue.0 == other then Some end.pass else None) ≡ None
    by_test true e = absurd (ne (sym (eqb-true _ _ e) ∙ is))
    by_test false e = ap (λ b. if b then Some end.pass else None) e

own_pass : (queue : ℕ) (end : ClientEnd) → (end.queue.0 == queue) ≡ true → pass_of queue end ≡ Some end.pass
own_pass queue end e = ap (λ b. if b then Some end.pass else None) e

no_pass : (queue : ℕ) (end : ClientEnd) → (end.queue.0 == queue) ≡ false → pass_of queue end ≡ None
no_pass queue end e = ap (λ b. if b then Some end.pass else None) e

-- how far the passes of a queue are moved out of ends: those before a place are, of those behind it none, and the ends of other queues stay
pub record Moving (all : List ClientEnd) (queue place : ℕ) (ends : List ClientEnd) (passes : List ProducerSeen) : Type 0 where
  pub moved : passes ++ passes_of queue (drop place ends) ≡ passes_of queue all
  pub others : (other : ℕ) → other ≢ queue → passes_of other ends ≡ passes_of other all

module _ (all : List ClientEnd) (queue place : ℕ) (ends : List ClientEnd) (passes : List ProducerSeen) (end : ClientEnd) (h : Moving all queue place ends passes) (lt : place < length ends) (is : get_or ends place end ≡ end) where
  -- an end of the queue is moved out
  pub move_one : (end.queue.0 == queue) ≡ true → Moving all queue place (remove ends place) (passes ++ end.pass ∷ [])
  move_one e = record {
    moved = append_assoc passes (end.pass ∷ []) (passes_of queue (drop place (remove ends place)))
        ∙ ap (λ es. passes ++ end.pass ∷ passes_of queue es) (behind_removed ends place)
        ∙ ap (λ o. passes ++ cons_option o (passes_of queue (drop (suc place) ends))) (sym (own_pass queue end e))
        ∙ ap (λ ps. passes ++ ps) (sym (picked_at (pass_of queue) ends place end lt is))
        ∙ h.moved;
    others = λ other ne. unpicked (pass_of other) ends place end lt is (other_pass queue other end (eqb-true _ _ e) ne) ∙ h.others other ne;
  }

  -- one of another queue is passed over
  pub pass_over : (end.queue.0 == queue) ≡ false → Moving all queue (place + 1) ends passes
  pass_over e = record {
    moved = ap (λ n. passes ++ passes_of queue (drop n ends)) (add-one place)
        ∙ ap (λ o. passes ++ cons_option o (passes_of queue (drop (suc place) ends))) (sym (no_pass queue end e))
        ∙ ap (λ ps. passes ++ ps) (sym (picked_at (pass_of queue) ends place end lt is))
        ∙ h.moved;
    others = h.others;
  }

  -- there is room for it
  pub room_for_one : (end.queue.0 == queue) ≡ true → length passes < length (passes_of queue all)
  room_for_one e =
      let whole : passes ++ end.pass ∷ passes_of queue (drop (suc place) ends) ≡ passes_of queue all =
      ap (λ o. passes ++ cons_option o (passes_of queue (drop (suc place) ends))) (sym (own_pass queue end e)) ∙ ap (λ ps. passes ++ ps) (sym (picked_at (pass_of queue) ends place end lt is)) ∙ h.moved in
      let counted = ap length whole in
      let parts = length-append passes (end.pass ∷ passes_of queue (drop (suc place) ends)) in
      omega (arith, counted, parts)

pub moving_begins : (all : List ClientEnd) (queue : ℕ) → Moving all queue 0 all []
moving_begins all queue = record { moved = refl; others = λ other ne. refl }

drop_all : (ends : List ClientEnd) (place : ℕ) → length ends < suc place → drop place ends ≡ []
drop_all [] zero h = refl
drop_all [] (suc i) h = refl
drop_all (x ∷ xs) zero h = absurd (omega (arith, h))
drop_all (x ∷ xs) (suc i) h = drop_all xs i (omega (arith, h))

pub moved_all : (all : List ClientEnd) (queue place : ℕ) (ends : List ClientEnd) (passes : List ProducerSeen) → Moving all queue place ends passes → length ends < suc place → passes ≡ passes_of queue all
moved_all all queue place ends passes h end = sym (append-nil passes) ∙ ap (λ es. passes ++ passes_of queue es) (sym (drop_all ends place end)) ∙ h.moved

-- ---- lanes

module _ (queue other : ℕ) (ne : other ≢ queue) where
  skipped : (lane : LaneSeen) → (lane.queue.0 == queue) ≡ true → (lane.queue.0 == other) ≡ false
  skipped lane e = by_test (lane.queue.0 == other) refl
    where
      by_test : (b : Bool) → (lane.queue.0 == other) ≡ b → (lane.queue.0 == other) ≡ false
      by_test true is = absurd (ne (sym (eqb-true _ _ is) ∙ eqb-true _ _ e))
      by_test false is = is

  -- the lane of a queue may be taken out where another's is looked for
  pub lane_stays : (lanes : List LaneSeen) (place : ℕ) (lane : LaneSeen) → place < length lanes → get_or lanes place lane ≡ lane → (lane.queue.0 == queue) ≡ true → lane_at other (remove lanes place) ≡ lane_at other lanes
  lane_stays [] place lane lt is e = absurd (omega (arith, lt))
  lane_stays (l ∷ ls) zero lane lt is e = ap (λ b. cond b (Some l) (lane_at other ls)) (sym (skipped l (ap (λ (x : LaneSeen). x.queue.0 == queue) is ∙ e)))
  lane_stays (l ∷ ls) (suc place) lane lt is e = ap (λ rest. cond (l.queue.0 == other) (Some l) rest) (lane_stays ls place lane (omega (arith, lt)) is e)

-- the lane of a queue is looked for place by place
at_lane : (queue : ℕ) (lanes : List LaneSeen) (i : ℕ) (d : LaneSeen) → i < length lanes → lane_at queue (drop i lanes) ≡ cond ((get_or lanes i d).queue.0 == queue) (Some (get_or lanes i d)) (lane_at queue (drop (suc i) lanes))
at_lane queue [] i d lt = absurd (omega (arith, lt))
at_lane queue (l ∷ ls) zero d lt = refl
at_lane queue (l ∷ ls) (suc i) d lt = at_lane queue ls i d (omega (arith, lt))

pub lane_found : (queue : ℕ) (lanes : List LaneSeen) (i : ℕ) (d : LaneSeen) → i < length lanes → ((get_or lanes i d).queue.0 == queue) ≡ true → lane_at queue (drop i lanes) ≡ lane_at queue lanes → lane_at queue lanes ≡ Some (get_or lanes i d)
lane_found queue lanes i d lt its h = sym h ∙ at_lane queue lanes i d lt ∙ ap (λ b. cond b (Some (get_or lanes i d)) (lane_at queue (drop (suc i) lanes))) its

pub lane_passed : (queue : ℕ) (lanes : List LaneSeen) (i : ℕ) (d : LaneSeen) → i < length lanes → ((get_or lanes i d).queue.0 == queue) ≡ false → lane_at queue (drop i lanes) ≡ lane_at queue lanes → lane_at queue (drop (i + 1) lanes) ≡ lane_at queue lanes
lane_passed queue lanes i d lt its h =
    ap (λ n. lane_at queue (drop n lanes)) (add-one i)
    ∙ sym (ap (λ b. cond b (Some (get_or lanes i d)) (lane_at queue (drop (suc i) lanes))) its)
    ∙ sym (at_lane queue lanes i d lt)
    ∙ h

drop_lanes : (lanes : List LaneSeen) (i : ℕ) → length lanes < suc i → drop i lanes ≡ []
drop_lanes [] zero h = refl
drop_lanes [] (suc i) h = refl
drop_lanes (x ∷ xs) zero h = absurd (omega (arith, h))
drop_lanes (x ∷ xs) (suc i) h = drop_lanes xs i (omega (arith, h))

pub lane_none : (queue : ℕ) (lanes : List LaneSeen) (i : ℕ) → length lanes < suc i → lane_at queue (drop i lanes) ≡ lane_at queue lanes → is_some (lane_at queue lanes) ≡ true → ⊥
lane_none queue lanes i end h some =
    let none : lane_at queue lanes ≡ None = sym h ∙ ap (lane_at queue) (drop_lanes lanes i end) in
    absurd (cc)

-- the item at a place is one, whatever stands for a missing one
pub same_item : {X : Type 0} → (xs : List X) (i : ℕ) (a b : X) → i < length xs → get_or xs i a ≡ a → get_or xs i b ≡ b → a ≡ b
same_item [] i a b lt one other = absurd (omega (arith, lt))
same_item (x ∷ xs) zero a b lt one other = sym one ∙ other
same_item (x ∷ xs) (suc i) a b lt one other = same_item xs i a b (omega (arith, lt)) one other
