-- Rings are settled one after another.
use Rattle.std.proofs.Common.{◌≡◌, ℕ, suc, zero, ◌+◌, ◌<◌, ◌≤◌, true, false, Bool, List, [], ◌∷◌, ◌++◌, length, map, refl, ap, ◌∙◌, sym, subst, arith, eqb-true, eq-eqb, append_assoc, drop, get_or}
use Rattle.std.proofs.lemmas.List.{append-nil}
use Rattle.std.specs.Prelude.{◌≢◌, ◌==◌, ◌&&◌, All, Some, None, is_some, option_map, cond, slice_index_or, if◌then◌else◌, ⊤, vec_capacity}
use Rattle.std.specs.List.{cons_option, find, list_all, remove}
use Rattle.std.proofs.Math.Numerals.{add-one}
use Rattle.atomic_table.specs.Seated.{TableId}
use Rattle.ring.specs.Passes.{RingSeen, ProducerSeen}
use Rattle.ring.specs.Settling.{has_passes}
use Rattle.client_threads.specs.declared.broker.Desk.{Desk}
use Rattle.client_threads.specs.declared.client_end.ClientEnd.{ClientEnd}
use Rattle.client_threads.specs.declared.settling.QueueRoom.{QueueRoom}
use Rattle.client_threads.specs.declared.settling.SettledQueue.{SettledQueue}
use Rattle.client_threads.specs.Desks.{seen}
use Rattle.client_threads.specs.Lanes.{LaneSeen}
use Rattle.client_threads.specs.Rings.{AreApart, IsOf, IsRingOf, QueueRing, ring_of}
use Rattle.client_threads.specs.Running.{IsEndOf, IsLaneOf}
use Rattle.client_threads.specs.Settling.{AreSettled, IsQueueSettled, IsRingSettled, has_all_passes, has_its_passes, passes_of}
use Rattle.client_threads.specs.Takes.{lane_at}
use Rattle.client_threads.proofs.Apart.{flipped, not_first}
use Rattle.client_threads.specs.inner.Rooms.{AreReady, AreRoomy, IsReady, IsRoomFor, IsSomeOf}

-- a ring that stays as it was while those of another queue are moved
module _ (all : List ClientEnd) (every : List LaneSeen) (queue : ℕ) (ends ends' : List ClientEnd) (lanes lanes' : List LaneSeen)
    (same_ends : (other : ℕ) → other ≢ queue → passes_of other ends' ≡ passes_of other ends)
    (same_lanes : (other : ℕ) → other ≢ queue → lane_at other lanes' ≡ lane_at other lanes) where
  ready_stays : (r : QueueRing) (room : QueueRoom) → r.queue ≢ queue → IsReady all every r room ends lanes → IsReady all every r room ends' lanes'
  ready_stays r room ne h =
      let ends_are = same_ends r.queue ne in
      let lane_is = same_lanes r.queue ne in
      record {
        room_is = record { words = h.room_is.words; none = h.room_is.none; passes = subst (λ (ps : List ProducerSeen). length ps ≤ vec_capacity room.passes) (sym ends_are) h.room_is.passes };
        belong = subst (λ (ps : List ProducerSeen). All (λ pass. pass.table ≡ r.ring.table) ps) (sym ends_are) h.belong;
        lane = subst (IsSomeOf r.ring.table) (sym lane_is) h.lane;
        same_passes = ends_are ∙ h.same_passes;
        same_lane = lane_is ∙ h.same_lane;
      }

  apart_from : (r : QueueRing) (rs : List QueueRing) → ring_of queue (r ∷ rs) ≡ None → (r.queue ≢ queue) × (ring_of queue rs ≡ None)
  apart_from r rs e =
      let first = not_first queue r rs e in
      ((λ same. let t : (r.queue == queue) ≡ true = eq-eqb _ _ same in absurd (cc)), first.1)

  pub all_stay : (rs : List QueueRing) (rooms : List QueueRoom) → ring_of queue rs ≡ None → AreReady all every rs rooms ends lanes → AreReady all every rs rooms ends' lanes'
  all_stay [] [] e h = tt
  all_stay [] (room ∷ rooms) e h = absurd h
  all_stay (r ∷ rs) [] e h = absurd h
  all_stay (r ∷ rs) (room ∷ rooms) e h = let f = apart_from r rs e in (ready_stays r room f.0 h.0, all_stay rs rooms f.1 h.1)

-- how far rings are settled
pub record Going (rings : List QueueRing) (all : List ClientEnd) (every : List LaneSeen) (left : List QueueRing) (rooms : List QueueRoom) (ends : List ClientEnd) (lanes : List LaneSeen) (settled : List SettledQueue) : Type 0 where
  pub apart : AreApart left
  pub ready : AreReady all every left rooms ends lanes
  pub done : (more : List SettledQueue) → AreSettled left all every more → AreSettled rings all every (settled ++ more)

pub going_begins : (rings : List QueueRing) (all : List ClientEnd) (every : List LaneSeen) (rooms : List QueueRoom) → AreApart rings → AreReady all every rings rooms all every → Going rings all every rings rooms all every []
going_begins rings all every rooms apart ready = record { apart = apart; ready = ready; done = λ more h. h }

pub going_ends : (rings : List QueueRing) (all : List ClientEnd) (every : List LaneSeen) (rooms : List QueueRoom) (ends : List ClientEnd) (lanes : List LaneSeen) (settled : List SettledQueue) → Going rings all every [] rooms ends lanes settled → AreSettled rings all every settled
going_ends rings all every rooms ends lanes settled h = subst (AreSettled rings all every) (append-nil settled) (h.done [] tt)

pub going_over : (rings : List QueueRing) (all : List ClientEnd) (every : List LaneSeen) (desks : List Desk) (rooms : List QueueRoom) (ends : List ClientEnd) (lanes : List LaneSeen) (settled : List SettledQueue)
    → length desks ≡ 0 → Going rings all every (map seen desks) rooms ends lanes settled → AreSettled rings all every settled
going_over rings all every [] rooms ends lanes settled none h = going_ends rings all every rooms ends lanes settled h
going_over rings all every (d ∷ ds) rooms ends lanes settled none h = absurd (omega (arith, none))

-- what is settled with what is left is with all
settled_of_all : (all : List ClientEnd) (every : List LaneSeen) (r : QueueRing) (ends : List ClientEnd) (lanes : List LaneSeen) (one : SettledQueue)
    → passes_of r.queue ends ≡ passes_of r.queue all → lane_at r.queue lanes ≡ lane_at r.queue every → IsQueueSettled r ends lanes one → IsQueueSettled r all every one
settled_of_all all every r ends lanes one same_passes same_lane h =
    record {
      queue_is = h.queue_is;
      lane = h.lane;
      lane_is = sym same_lane ∙ h.lane_is;
      ring_is = subst (λ (ps : List ProducerSeen). IsRingSettled r.ring ps h.lane one.ring) same_passes h.ring_is;
    }

module _ (rings : List QueueRing) (all : List ClientEnd) (every : List LaneSeen) where
  goes_on : (r : QueueRing) (left : List QueueRing) (room : QueueRoom) (rooms : List QueueRoom) (ends ends' : List ClientEnd) (lanes lanes' : List LaneSeen) (settled : List SettledQueue) (one : SettledQueue)
      → Going rings all every (r ∷ left) (room ∷ rooms) ends lanes settled → IsQueueSettled r ends lanes one
      → ((other : ℕ) → other ≢ r.queue → passes_of other ends' ≡ passes_of other ends) → ((other : ℕ) → other ≢ r.queue → lane_at other lanes' ≡ lane_at other lanes)
      → Going rings all every left rooms ends' lanes' (settled ++ one ∷ [])
  goes_on r left room rooms ends ends' lanes lanes' settled one h is same_ends same_lanes =
      record {
        apart = h.apart.1;
        ready = all_stay all every r.queue ends ends' lanes lanes' same_ends same_lanes left rooms h.apart.0 h.ready.1;
        done = λ more rest. subst (AreSettled rings all every) (sym (append_assoc settled (one ∷ []) more))
            (h.done (one ∷ more) (settled_of_all all every r ends lanes one h.ready.0.same_passes h.ready.0.same_lane is, rest));
      }

  -- the next ring of a list of desks, which has room and passes
  pub next_ready : (desks : List Desk) (rooms : List QueueRoom) (ends : List ClientEnd) (lanes : List LaneSeen) (settled : List SettledQueue) (desk : Desk) (room : QueueRoom)
      → 0 < length desks → desk ≡ slice_index_or desks 0 desk → room ≡ slice_index_or rooms 0 room
      → Going rings all every (map seen desks) rooms ends lanes settled → IsReady all every (seen desk) room ends lanes
  next_ready [] rooms ends lanes settled desk room some d r h = absurd (omega (arith, some))
  next_ready (x ∷ xs) [] ends lanes settled desk room some d r h = absurd h.ready
  next_ready (x ∷ xs) (y ∷ ys) ends lanes settled desk room some d r h = rw (d, r) h.ready.0

  pub some_room : (desks : List Desk) (rooms : List QueueRoom) (ends : List ClientEnd) (lanes : List LaneSeen) (settled : List SettledQueue)
      → 0 < length desks → Going rings all every (map seen desks) rooms ends lanes settled → 0 < length rooms
  some_room [] rooms ends lanes settled some h = absurd (omega (arith, some))
  some_room (x ∷ xs) [] ends lanes settled some h = absurd h.ready
  some_room (x ∷ xs) (y ∷ ys) ends lanes settled some h = omega arith

  -- it was settled
  pub settled_next : (desks : List Desk) (rooms : List QueueRoom) (ends ends' : List ClientEnd) (lanes lanes' : List LaneSeen) (settled : List SettledQueue) (desk : Desk) (one : SettledQueue)
      → 0 < length desks → desk ≡ slice_index_or desks 0 desk
      → Going rings all every (map seen desks) rooms ends lanes settled → IsQueueSettled (seen desk) ends lanes one
      → ((other : ℕ) → other ≢ desk.queue.0 → passes_of other ends' ≡ passes_of other ends) → ((other : ℕ) → other ≢ desk.queue.0 → lane_at other lanes' ≡ lane_at other lanes)
      → Going rings all every (map seen (remove desks 0)) (remove rooms 0) ends' lanes' (settled ++ one ∷ [])
  settled_next [] rooms ends ends' lanes lanes' settled desk one some d h is same_ends same_lanes = absurd (omega (arith, some))
  settled_next (x ∷ xs) [] ends ends' lanes lanes' settled desk one some d h is same_ends same_lanes = absurd h.ready
  settled_next (x ∷ xs) (y ∷ ys) ends ends' lanes lanes' settled desk one some d h is same_ends same_lanes =
      goes_on (seen x) (map seen xs) y ys ends ends' lanes lanes' settled one h
      (subst (λ (k : Desk). IsQueueSettled (seen k) ends lanes one) d is)
      (subst (λ (k : Desk). (other : ℕ) → other ≢ k.queue.0 → passes_of other ends' ≡ passes_of other ends) d same_ends)
      (subst (λ (k : Desk). (other : ℕ) → other ≢ k.queue.0 → lane_at other lanes' ≡ lane_at other lanes) d same_lanes)

-- ---- what is ready at the beginning

all_cons : {X : Type 0} → (P : X → Type 0) (x : X) (xs : List X) → P x → All P xs → All P (x ∷ xs)
all_cons P x xs p h zero d lt = p
all_cons P x xs p h (suc k) d lt = h k d (omega (arith, lt))

all_tail : {X : Type 0} → (P : X → Type 0) (x : X) (xs : List X) → All P (x ∷ xs) → All P xs
all_tail P x xs h k d lt = h (suc k) d (omega (arith, lt))

-- what is of a queue's ring is of this one
its_table : (rings : List QueueRing) (queue other : ℕ) (ring : RingSeen) (table : TableId) → IsRingOf rings queue ring → (other == queue) ≡ true → IsOf rings other table → table ≡ ring.table
its_table rings queue other ring table its same of =
    let one : Some of.0 ≡ Some ring = sym of.1 ∙ ap (λ q. ring_of q rings) (eqb-true _ _ same) ∙ its in
    let equal : of.0 ≡ ring = cc in
    of.2 ∙ ap (λ (x : RingSeen). x.table) equal

-- the passes of a queue step on its ring's table
passes_belong : (rings : List QueueRing) (r : QueueRing) (ends : List ClientEnd) → IsRingOf rings r.queue r.ring → All (λ end. IsEndOf rings end) ends → All (λ pass. pass.table ≡ r.ring.table) (passes_of r.queue ends)
passes_belong rings r [] its h = λ k d lt. absurd (omega (arith, lt))
passes_belong rings r (e ∷ es) its h = by_test (e.queue.0 == r.queue) refl (passes_belong rings r es its (all_tail (λ end. IsEndOf rings end) e es h))
  where
    P : ProducerSeen → Type 0
    P pass = pass.table ≡ r.ring.table

    picked : (b : Bool) → (e.queue.0 == r.queue) ≡ b → All P (passes_of r.queue es) → All P (cons_option (if b then Some e.pass else None) (passes_of r.queue es))
    picked true is tail = all_cons P e.pass (passes_of r.queue es) (its_table rings r.queue e.queue.0 r.ring e.pass.table its is (h 0 e (omega arith)).is) tail
    picked false is tail = tail

    by_test : (b : Bool) → (e.queue.0 == r.queue) ≡ b → All P (passes_of r.queue es) → All P (passes_of r.queue (e ∷ es))
    by_test b is tail = subst (λ c. All P (cons_option (if c then Some e.pass else None) (passes_of r.queue es))) (sym is) (picked b is tail)

-- and so does its lane
lane_belongs : (board : TableId) (rings : List QueueRing) (r : QueueRing) (lanes : List LaneSeen) → IsRingOf rings r.queue r.ring → All (λ lane. IsLaneOf board rings lane) lanes → is_some (lane_at r.queue lanes) ≡ true → IsSomeOf r.ring.table (lane_at r.queue lanes)
lane_belongs board rings r [] its h some = absurd (cc)
lane_belongs board rings r (l ∷ ls) its h some = by_test (l.queue.0 == r.queue) refl (lane_belongs board rings r ls its (all_tail (λ lane. IsLaneOf board rings lane) l ls h))
  where
    Rest : Type 0
    Rest = is_some (lane_at r.queue ls) ≡ true → IsSomeOf r.ring.table (lane_at r.queue ls)

    found : (b : Bool) → (l.queue.0 == r.queue) ≡ b → Rest → is_some (cond b (Some l) (lane_at r.queue ls)) ≡ true → IsSomeOf r.ring.table (cond b (Some l) (lane_at r.queue ls))
    found true is rest s = its_table rings r.queue l.queue.0 r.ring l.pass.table its is (h 0 l (omega arith)).is
    found false is rest s = rest s

    by_test : (b : Bool) → (l.queue.0 == r.queue) ≡ b → Rest → IsSomeOf r.ring.table (lane_at r.queue (l ∷ ls))
    by_test b is rest = subst (λ c. IsSomeOf r.ring.table (cond c (Some l) (lane_at r.queue ls))) (sym is) (found b is rest (subst (λ c. is_some (cond c (Some l) (lane_at r.queue ls)) ≡ true) is some))

-- each of these rings is the one of its queue
abbrev AreOwn : List QueueRing → List QueueRing → Type 0
AreOwn rings [] = ⊤
AreOwn rings (r ∷ rs) = IsRingOf rings r.queue r.ring × AreOwn rings rs

own_behind : (x : QueueRing) (xs rs : List QueueRing) → ring_of x.queue rs ≡ None → AreOwn xs rs → AreOwn (x ∷ xs) rs
own_behind x xs [] none h = tt
own_behind x xs (r ∷ rs) none h =
    let first = not_first x.queue r rs none in
    let other : (x.queue == r.queue) ≡ false = flipped _ _ first.0 in (
      ap (λ b. option_map (λ y. y.ring) (cond b (Some x) (find (λ y. y.queue == r.queue) xs))) other ∙ h.0,
      own_behind x xs rs first.1 h.1,
    )

own_all : (rings : List QueueRing) → AreApart rings → AreOwn rings rings
own_all [] apart = tt
own_all (x ∷ xs) apart = (
  ap (λ b. option_map (λ y. y.ring) (cond b (Some x) (find (λ y. y.queue == x.queue) xs))) (eq-eqb x.queue x.queue refl),
  own_behind x xs xs apart.0 (own_all xs apart.1),
)

both : (a b : Bool) → (a && b) ≡ true → (a ≡ true) × (b ≡ true)
both true true e = (refl, refl)
both true false e = absurd (cc)
both false b e = absurd (cc)

module _ (board : TableId) (rings : List QueueRing) (all : List ClientEnd) (every : List LaneSeen) (ends : All (λ end. IsEndOf rings end) all) (lanes : All (λ lane. IsLaneOf board rings lane) every) where
  ready_by : (left : List QueueRing) (rooms : List QueueRoom) → AreOwn rings left → AreRoomy all left rooms → list_all (has_its_passes all every) left ≡ true → AreReady all every left rooms all every
  ready_by [] [] own roomy complete = tt
  ready_by [] (room ∷ rooms) own roomy complete = absurd roomy
  ready_by (r ∷ rs) [] own roomy complete = absurd roomy
  ready_by (r ∷ rs) (room ∷ rooms) own roomy complete =
      let here = both (has_its_passes all every r) (list_all (has_its_passes all every) rs) complete in
      let its = both (has_passes r.ring.producers (passes_of r.queue all)) (is_some (lane_at r.queue every)) here.0 in (
        record {
          room_is = roomy.0;
          belong = passes_belong rings r all own.0 ends;
          lane = lane_belongs board rings r every own.0 lanes its.1;
          same_passes = refl;
          same_lane = refl;
        },
        ready_by rs rooms own.1 roomy.1 here.1,
      )

  pub all_ready : (rooms : List QueueRoom) → AreApart rings → AreRoomy all rings rooms → has_all_passes rings all every ≡ true → AreReady all every rings rooms all every
  all_ready rooms apart roomy complete = ready_by rings rooms (own_all rings apart) roomy complete

-- ---- room is got for one ring after another

desk_at : (desks : List Desk) (i : ℕ) (d : Desk) → i < length desks → get_or desks i d ≡ d → drop i desks ≡ d ∷ drop (suc i) desks
desk_at [] i d lt is = absurd (omega (arith, lt))
desk_at (x ∷ xs) zero d lt is = ap (λ (y : Desk). y ∷ xs) is
desk_at (x ∷ xs) (suc i) d lt is = desk_at xs i d (omega (arith, lt)) is

-- so far there is room: with room for the rest there is for all
abbrev pub Roomed : List ClientEnd → List Desk → ℕ → List QueueRoom → Type 0
Roomed ends desks index rooms = (more : List QueueRoom) → AreRoomy ends (map seen (drop index desks)) more → AreRoomy ends (map seen desks) (rooms ++ more)

pub room_more : (ends : List ClientEnd) (desks : List Desk) (i : ℕ) (d : Desk) (rooms : List QueueRoom) (room : QueueRoom)
    → i < length desks → get_or desks i d ≡ d → IsRoomFor ends (seen d) room → Roomed ends desks i rooms → Roomed ends desks (i + 1) (rooms ++ room ∷ [])
room_more ends desks i d rooms room lt is fits h more rest =
    subst (AreRoomy ends (map seen desks)) (sym (append_assoc rooms (room ∷ []) more))
    (h (room ∷ more) (subst (λ (ds : List Desk). AreRoomy ends (map seen ds) (room ∷ more)) (sym (desk_at desks i d lt is)) (fits, subst (λ n. AreRoomy ends (map seen (drop n desks)) more) (add-one i) rest)))

none_left : (desks : List Desk) (i : ℕ) → length desks < suc i → drop i desks ≡ []
none_left [] zero h = refl
none_left [] (suc i) h = refl
none_left (x ∷ xs) zero h = absurd (omega (arith, h))
none_left (x ∷ xs) (suc i) h = none_left xs i (omega (arith, h))

pub roomed_all : (ends : List ClientEnd) (desks : List Desk) (i : ℕ) (rooms : List QueueRoom) → length desks < suc i → Roomed ends desks i rooms → AreRoomy ends (map seen desks) rooms
roomed_all ends desks i rooms end h = subst (AreRoomy ends (map seen desks)) (append-nil rooms) (h [] (subst (λ (ds : List Desk). AreRoomy ends (map seen ds) []) (sym (none_left desks i end)) tt))
