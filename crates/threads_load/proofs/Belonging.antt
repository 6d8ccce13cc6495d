-- What is of a broker stays so when a queue is opened, and the queue's ends and its lane are of it.
use Rattle.std.proofs.Common.{ℕ, Bool, true, false, List, ◌∷◌, [], ◌++◌, ◌≡◌, sym, subst, arith, ap, ◌∙◌}
use lib.ListN.{take}
use Rattle.std.proofs.Math.Seq.{take-append_seam}
use Rattle.std.specs.Prelude.{All, OnOk, Result, Ok, Err, is_ok, cond, ◌<◌, length, slice_index_or}
use Rattle.std.proofs.lemmas.List.Elements.{All-append, All-push}
use Rattle.atomic_table.specs.Seated.{TableId}
use Rattle.aql_packet.specs.declared.ids.QueueId.{QueueId}
use Rattle.client_threads.specs.declared.client_end.ClientEnd.{ClientEnd}
use Rattle.client_threads.specs.Boards.{FrontSeen}
use Rattle.client_threads.specs.HandedOver.{KeepsAll}
use Rattle.client_threads.specs.Lanes.{LaneSeen}
use Rattle.client_threads.specs.Opening.{IsOpened}
use Rattle.client_threads.specs.Rings.{QueueRing}
use Rattle.client_threads.specs.Running.{IsEndOf, IsLaneOf}
use Rattle.client_threads.proofs.Belonging.{ends_are_of, kept, lane_is_of}
use Rattle.threads_load.specs.Limits.{load_slots}
use Rattle.threads_load.specs.Publications.{EachProduces}
use Rattle.threads_load.specs.Stages.{EachStaysOf, IsLoadRing}
use Rattle.threads_load.specs.declared.plan.PlannedQueue.{PlannedQueue}

pub new_ends : (old new : List QueueRing) (size producers : ℕ) (front : FrontSeen) (queue : QueueId) (ends : List ClientEnd) (lane : LaneSeen)
    → IsOpened old size producers front queue ends lane new → All (λ end. IsEndOf new end) ends
new_ends old new size producers front queue ends lane h = ends_are_of old new size producers front queue ends lane h

pub new_lane : (board : TableId) (old new : List QueueRing) (size producers : ℕ) (front : FrontSeen) (queue : QueueId) (ends : List ClientEnd) (lane : LaneSeen)
    → IsOpened old size producers front queue ends lane new → front.board ≡ board → IsLaneOf board new lane
new_lane board old new size producers front queue ends lane h same = subst (λ (b : TableId). IsLaneOf b new lane) same (lane_is_of old new size producers front queue ends lane h)

pub kept_ends : (old new : List QueueRing) (size producers : ℕ) (front : FrontSeen) (queue : QueueId) (ends : List ClientEnd) (lane : LaneSeen) (before : List ClientEnd)
    → IsOpened old size producers front queue ends lane new → All (λ end. IsEndOf old end) before → All (λ end. IsEndOf new end) before
kept_ends old new size producers front queue ends lane before h all k d lt = record { is = kept old new size producers front queue ends lane h _ _ (all k d lt).is }

pub kept_lanes : (board : TableId) (old new : List QueueRing) (size producers : ℕ) (front : FrontSeen) (queue : QueueId) (ends : List ClientEnd) (lane : LaneSeen) (before : List LaneSeen)
    → IsOpened old size producers front queue ends lane new → All (λ lane. IsLaneOf board old lane) before → All (λ lane. IsLaneOf board new lane) before
kept_lanes board old new size producers front queue ends lane before h all k d lt =
    let one = all k d lt in record { is = kept old new size producers front queue ends lane h _ _ one.is; board_is = one.board_is; stands = one.stands }

-- a queue's lane keeps all that it served when it is opened, as the lanes before it do
pub all_keep : (old new : List QueueRing) (size producers : ℕ) (front : FrontSeen) (queue : QueueId) (ends : List ClientEnd) (lane : LaneSeen) (before more : List LaneSeen)
    → IsOpened old size producers front queue ends lane new → more ≡ before ++ lane ∷ [] → All KeepsAll before → All KeepsAll more
all_keep old new size producers front queue ends lane before more h is all =
    let keeps : KeepsAll lane = ap (λ (l : LaneSeen). l.kept) h.lane_is ∙ sym (ap (λ (l : LaneSeen). l.served) h.lane_is) in
    subst (λ (ls : List LaneSeen). All KeepsAll ls) (sym is) (All-push KeepsAll before lane all keeps)

pub none_keep : (lanes : List LaneSeen) → lanes ≡ [] → All KeepsAll lanes
none_keep lanes none = subst (λ (ls : List LaneSeen). All KeepsAll ls) (sym none) (λ k d lt. absurd (omega (arith, lt)))

-- ends behind others, or the others alone, where there was no memory
pub more_ends : (rings : List QueueRing) (made : Bool) (others more ends : List ClientEnd) → All (λ end. IsEndOf rings end) others → All (λ end. IsEndOf rings end) more
    → ends ≡ cond made (others ++ more) others → All (λ end. IsEndOf rings end) ends
more_ends rings true others more ends h k is = subst (λ xs. All (λ end. IsEndOf rings end) xs) (sym is) (All-append (λ end. IsEndOf rings end) others more h k)
more_ends rings false others more ends h k is = subst (λ xs. All (λ end. IsEndOf rings end) xs) (sym is) h

-- a lane behind others, or these alone
pub one_lane_more : (board : TableId) (rings : List QueueRing) (made : Bool) (others lanes : List LaneSeen) (lane : LaneSeen) → All (λ l. IsLaneOf board rings l) others → IsLaneOf board rings lane
    → lanes ≡ cond made (others ++ lane ∷ []) others → All (λ l. IsLaneOf board rings l) lanes
one_lane_more board rings true others lanes lane h k is = subst (λ xs. All (λ l. IsLaneOf board rings l) xs) (sym is) (All-push (λ l. IsLaneOf board rings l) others lane h k)
one_lane_more board rings false others lanes lane h k is = subst (λ xs. All (λ l. IsLaneOf board rings l) xs) (sym is) h

-- a lane that was put behind others is there
pub lane_put : {X E : Type 0} (result : Result X E) (others lanes : List LaneSeen) (lane : LaneSeen) → lanes ≡ cond (is_ok result) (others ++ lane ∷ []) others → OnOk result (lanes ≡ others ++ lane ∷ [])
lane_put (Ok x) others lanes lane is = is
lane_put (Err e) others lanes lane is = tt

-- ends that were put behind others are there
pub ends_put : {X E : Type 0} (result : Result X E) (others ends more : List ClientEnd) → ends ≡ cond (is_ok result) (others ++ more) others → OnOk result (ends ≡ others ++ more)
ends_put (Ok x) others ends more is = is
ends_put (Err e) others ends more is = tt

-- the end at a place is, and ends are where each at its place is
pub end_at : (rings : List QueueRing) (ends : List ClientEnd) (i : ℕ) (end : ClientEnd) → All (λ e. IsEndOf rings e) ends → i < length ends → end ≡ slice_index_or ends i end → IsEndOf rings end
end_at rings ends i end all lt is = subst (λ (e : ClientEnd). IsEndOf rings e) (sym is) (all i end lt)

pub ends_still : (rings : List QueueRing) (old new : List ClientEnd) → length new ≡ length old → EachStaysOf rings old new → All (λ e. IsEndOf rings e) new
ends_still rings old new same each = λ k d lt. (each k d (omega (arith, lt, same))).is

-- what is written back of ends are these, where none came or went
written_back : (len : ℕ) (new rest : List ClientEnd) → len ≡ length new → take len (new ++ rest) ≡ new
written_back len new rest is = ap (λ n. take n (new ++ rest)) is ∙ take-append_seam new rest

pub put_back : (rings : List QueueRing) (len : ℕ) (old new rest : List ClientEnd) → len ≡ length new → EachStaysOf rings old new → EachStaysOf rings old (take len (new ++ rest))
put_back rings len old new rest is each = subst (λ xs. EachStaysOf rings old xs) (sym (written_back len new rest is)) each

pub produced_back : (rings : List QueueRing) (plan : List PlannedQueue) (most len : ℕ) (old new rest : List ClientEnd) → len ≡ length new → EachProduces rings plan most old new → EachProduces rings plan most old (take len (new ++ rest))
produced_back rings plan most len old new rest is each = subst (λ xs. EachProduces rings plan most old xs) (sym (written_back len new rest is)) each

pub producers_still : (rings : List QueueRing) (plan : List PlannedQueue) (most : ℕ) (old new : List ClientEnd) → length new ≡ length old → EachProduces rings plan most old new → All (λ e. IsEndOf rings e) new
producers_still rings plan most old new same each = λ k d lt. (each k d (omega (arith, lt, same))).is

-- a queue more that was opened, and its ring is as those of a load are
pub rings_more : (producers : ℕ) (old new : List QueueRing) (front : FrontSeen) (queue : QueueId) (ends : List ClientEnd) (lane : LaneSeen) → IsOpened old load_slots producers front queue ends lane new → All (IsLoadRing producers) old → All (IsLoadRing producers) new
rings_more producers old new front queue ends lane h all =
    let own : IsLoadRing producers (record { queue = queue.0; ring = h.ring }) = record { size_is = h.size_is; producers_is = h.producers_is } in
    subst (λ (rs : List QueueRing). All (IsLoadRing producers) rs) (sym h.rings) (All-push (IsLoadRing producers) old (record { queue = queue.0; ring = h.ring }) all own)

pub no_rings : (producers : ℕ) (rings : List QueueRing) → rings ≡ [] → All (IsLoadRing producers) rings
no_rings producers rings none = subst (λ (rs : List QueueRing). All (IsLoadRing producers) rs) (sym none) (λ k d lt. absurd (omega (arith, lt)))
