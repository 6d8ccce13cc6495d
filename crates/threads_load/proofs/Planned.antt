-- Which queues were opened, and whose lanes there are.
use Rattle.std.proofs.Common.{◌≡◌, ℕ, zero, suc, ◌+◌, ◌<◌, List, [], ◌∷◌, ◌++◌, length, take, get_or, length-append, refl, sym, ap, ◌∙◌, subst, arith}
use Rattle.std.specs.Prelude.{Bool, true, false, nat_lt, slice_index_or}
use Rattle.std.proofs.lemmas.Bool.Decides.{nat_tests}
use Rattle.std.proofs.lemmas.List.{take_more}
use mathlib.Core.List.{IsPrefix}
use Rattle.atomic_table.specs.Seated.{TableId}
use Rattle.aql_packet.specs.declared.ids.QueueId.{QueueId}
use Rattle.access_core.specs.Cores.{Core}
use Rattle.client_threads.specs.Boards.{FrontSeen}
use Rattle.client_threads.specs.Lanes.{LaneSeen}
use Rattle.client_threads.specs.Rings.{QueueRing}
use Rattle.client_threads.specs.Running.{EachGoesOn}
use Rattle.client_threads.specs.Sections.{IsSection}
use Rattle.client_threads.proofs.Fronts.{prefix_self, prefix_trans}
use Rattle.threads_load.specs.declared.opening.Stage.{Stage}
use Rattle.threads_load.specs.declared.plan.PlannedQueue.{PlannedQueue}
use Rattle.threads_load.specs.Grantings.{HasAllAllowed}
use Rattle.threads_load.specs.Stages.{AreOf, HasQueues, IsReady, WasLeft}

-- ---- items of a list

at_first : {X : Type 0} (xs : List X) (x : X) (place : ℕ) (d : X) → place < length xs → slice_index_or (xs ++ x ∷ []) place d ≡ slice_index_or xs place d
at_first [] x place d lt = absurd (omega (arith, lt))
at_first (y ∷ xs) x zero d lt = refl
at_first (y ∷ xs) x (suc place) d lt = at_first xs x place d (omega (arith, lt))

at_last : {X : Type 0} (xs : List X) (x : X) (d : X) → slice_index_or (xs ++ x ∷ []) (length xs) d ≡ x
at_last [] x d = refl
at_last (y ∷ xs) x d = at_last xs x d

one_longer : {X : Type 0} (xs : List X) (x : X) → length (xs ++ x ∷ []) ≡ length xs + 1
one_longer xs x = length-append xs (x ∷ [])

-- what holds of the items so far and the next holds of so many and one
pub next_too : {X : Type 0} (P : List X → Type 0) (xs : List X) (i : ℕ) (d : X) → i < length xs → P (take i xs ++ get_or xs i d ∷ []) → P (take (i + 1) xs)
next_too P xs i d lt h = subst P (sym (take_more xs i d lt)) h

-- ---- what sections leave

pub section_begins : {Did : Core → Core → Type 0} (opened : Core) (seen new : FrontSeen) → IsSection opened seen new Did → IsPrefix seen.left new.left
section_begins {Did} opened seen new s = prefix_trans seen.left s.before new.left s.begins (s.core ∷ [], sym (ap (λ (f : FrontSeen). f.left) s.new_is))

-- what was left was left still when more was seen
pub left_still : {Is : Core → Type 0} (seen more : List Core) → IsPrefix seen more → WasLeft seen Is → WasLeft more Is
left_still {Is} seen more p w = record { before = w.before; core = w.core; begins = prefix_trans (w.before ++ w.core ∷ []) seen more w.begins p; is = w.is }

-- the state that a section left was left
section_left : {Did : Core → Core → Type 0} {Is : Core → Type 0} (opened : Core) (seen new : FrontSeen) (s : IsSection opened seen new Did) → Is s.core → WasLeft new.left Is
section_left {Did} {Is} opened seen new s is =
    record { before = s.before; core = s.core; begins = subst (λ (left : List Core). IsPrefix (s.before ++ s.core ∷ []) left) (sym (ap (λ (f : FrontSeen). f.left) s.new_is)) (prefix_self (s.before ++ s.core ∷ [])); is = is }

-- ---- queues

-- one lane more
one_lane_of : (queues : ℕ) (lanes : List LaneSeen) (lane : LaneSeen) → AreOf queues lanes → lane.queue.0 ≡ length lanes + 1 → AreOf (queues + 1) (lanes ++ lane ∷ [])
one_lane_of queues lanes lane are number = record {
  count = one_longer lanes lane ∙ ap (λ n. n + 1) are.count;
  numbers = λ place d lt. by_order place d lt (nat_lt place (length lanes)) refl;
}
  where
    by_order : (place : ℕ) (d : LaneSeen) → place < length (lanes ++ lane ∷ []) → (t : Bool) → nat_lt place (length lanes) ≡ t → (slice_index_or (lanes ++ lane ∷ []) place d).queue.0 ≡ place + 1
    by_order place d lt true below =
        let low : place < length lanes = grind (arith, nat_tests) in
        ap (λ (l : LaneSeen). l.queue.0) (at_first lanes lane place d low) ∙ are.numbers place d low
    by_order place d lt false not_below =
        let longer = one_longer lanes lane in
        let at : length lanes ≡ place = grind (arith, nat_tests) in
        subst (λ n. (slice_index_or (lanes ++ lane ∷ []) n d).queue.0 ≡ n + 1) at (ap (λ (l : LaneSeen). l.queue.0) (at_last lanes lane d) ∙ number)

-- a planned queue was opened under the number of its place: the lanes are those of one queue more
pub opened_next : (planned : PlannedQueue) (queue : QueueId) (before : List PlannedQueue) (lanes more : List LaneSeen) (lane : LaneSeen)
    → queue.0 ≡ length lanes + 1 → lane.queue ≡ queue → more ≡ lanes ++ lane ∷ [] → AreOf (length before) lanes → AreOf (length (before ++ planned ∷ [])) more
opened_next planned queue before lanes more lane number own is are =
    subst (λ (ls : List LaneSeen). AreOf (length (before ++ planned ∷ [])) ls) (sym is)
    (subst (λ n. AreOf n (lanes ++ lane ∷ [])) (sym (one_longer before planned))
    (one_lane_of (length before) lanes lane are (ap (λ (q : QueueId). q.0) own ∙ number)))

-- lanes that ran are those of their queues still
pub lanes_stay : (opened : Core) (board : TableId) (rings : List QueueRing) (old new : List LaneSeen) (queues : ℕ) → length new ≡ length old → EachGoesOn opened board rings old new → AreOf queues old → AreOf queues new
lanes_stay opened board rings old new queues count each are = record {
  count = count ∙ are.count;
  numbers = λ place d lt.
      let low : place < length old = omega (arith, lt, count) in
      ap (λ (q : QueueId). q.0) (each place d low).on.queue ∙ are.numbers place d low;
}

-- ---- stages

pub no_lanes : AreOf 0 []
no_lanes = record { count = refl; numbers = λ place d lt. absurd (omega (arith, lt)) }

-- in the section in which all was granted it was left so
pub granted_left : (opened : Core) (seen new : FrontSeen) → IsSection opened seen new (λ old core. HasAllAllowed core.history) → WasLeft new.left (λ left. HasAllAllowed left.history)
granted_left opened seen new s = section_left opened seen new s s.did

-- a stage that is ready is so when more was seen, and its lanes stay
pub ready_still : {B : Type 0} (plan : List PlannedQueue) (old new : Stage B) → IsReady plan old → IsPrefix old.front.left new.front.left → (AreOf (length plan) old.lanes.items → AreOf (length plan) new.lanes.items) → IsReady plan new
ready_still plan old new r p lanes = record {
  granted = left_still old.front.left new.front.left p r.granted;
  queues = left_still old.front.left new.front.left p r.queues;
  lanes = lanes r.lanes;
}

-- in the section in which the queues of a plan were found it was left so
found_left : (opened : Core) (plan : List PlannedQueue) (seen new : FrontSeen) → IsSection opened seen new (λ old core. HasQueues core plan) → WasLeft new.left (λ left. HasQueues left plan)
found_left opened plan seen new s = section_left opened seen new s s.did

-- a stage is ready once the queues of its plan were opened behind the grants, and were found
pub is_ready : {B : Type 0} (opened : Core) (plan : List PlannedQueue) (seen : List Core) (mid : FrontSeen) (stage : Stage B) → WasLeft seen (λ left. HasAllAllowed left.history) → IsPrefix seen mid.left
    → IsSection opened mid stage.front (λ old core. HasQueues core plan) → (none : List LaneSeen) → none ≡ [] → (AreOf 0 none → AreOf (length plan) stage.lanes.items) → IsReady plan stage
is_ready opened plan seen mid stage granted p found none is are = record {
  granted = left_still seen stage.front.left (prefix_trans seen mid.left stage.front.left p (section_begins opened mid stage.front found)) granted;
  queues = found_left opened plan mid stage.front found;
  lanes = are (subst (λ (ls : List LaneSeen). AreOf 0 ls) (sym is) no_lanes);
}
