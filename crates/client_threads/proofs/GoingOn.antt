-- What running does to a lane.
use Rattle.std.proofs.Common.{◌≡◌, ℕ, zero, suc, List, [], ◌∷◌, ◌++◌, refl, ap, ◌∙◌, sym, subst, rules, append_assoc, arith}
use lib.ListN.{take}
use Rattle.std.proofs.Math.Seq.{take-append_seam}
use Rattle.std.specs.Prelude.{All, Some, slice_index_or, length, ◌<◌}
use Rattle.std.specs.List.{sum_by}
use Rattle.std.proofs.lemmas.List.{append-nil}
use Rattle.std.proofs.lemmas.List.Sums.{sum_by-cons}
use Rattle.atomic_table.specs.Seated.{TableId}
use Rattle.core_model.specs.declared.served.Served.{Served}
use Rattle.access_core.specs.Cores.{Core}
use Rattle.ring.specs.Passes.{RingSeen}
use Rattle.client_threads.specs.Lanes.{LaneSeen, share_of}
use Rattle.client_threads.specs.Rings.{IsRingOf, QueueRing, ring_of}
use Rattle.client_threads.specs.Running.{EachGoesOn, GoesOn, IsLaneOf}
use Rattle.client_threads.specs.inner.Gatherings.{IsOnBoard}
use Rattle.client_threads.specs.inner.Turns.{HasSeen, Looks, StandsIn, StaysOn}

pub goes_on_none : (lane : LaneSeen) → GoesOn lane lane
goes_on_none lane = record { queue = refl; table = refl; share = refl; more = []; served = sym (append-nil lane.served); kept = sym (append-nil lane.kept) }

pub goes_on_both : (one two three : LaneSeen) → GoesOn one two → GoesOn two three → GoesOn one three
goes_on_both one two three a b =
    record {
      queue = b.queue ∙ a.queue;
      table = b.table ∙ a.table;
      share = b.share ∙ a.share;
      more = a.more ++ b.more;
      served = b.served ∙ ap (λ xs. xs ++ b.more) a.served ∙ append_assoc one.served a.more b.more;
      kept = b.kept ∙ ap (λ xs. xs ++ b.more) a.kept ∙ append_assoc one.kept a.more b.more;
    }

-- a lane of which the pass alone changed
passes_on : (old new : LaneSeen) → new.pass.table ≡ old.pass.table → new ≡ record old { pass = new.pass } → GoesOn old new
passes_on old new table is = record { queue = ap (λ l. l.queue) is; table = table; share = ap (λ l. l.front.share) is; more = []; served = ap (λ l. l.served) is ∙ sym (append-nil old.served); kept = ap (λ l. l.kept) is ∙ sym (append-nil old.kept) }

pub looked_on : (old new : LaneSeen) → Looks old new → GoesOn old new
looked_on old new looks = passes_on old new looks.table looks.lane

-- a lane that went on, with such a front, is still of the broker
pub keeps_on : (board : TableId) (rings : List QueueRing) (old new : LaneSeen) → IsLaneOf board rings old → GoesOn old new → new.front.board ≡ board → StandsIn new → StaysOn board rings old new
keeps_on board rings old new h on board_is stands = record {
  on = on;
  lane = record { is = (h.is.0, ap (λ q. ring_of q.0 rings) on.queue ∙ h.is.1, on.table ∙ h.is.2); board_is = board_is; stands = stands };
}

looked_stands : (old new : LaneSeen) → Looks old new → StandsIn old → StandsIn new
looked_stands old new looks stands = subst StandsIn (sym looks.lane) stands

pub looked_keeps_on : (board : TableId) (rings : List QueueRing) (old new : LaneSeen) → IsLaneOf board rings old → Looks old new → StaysOn board rings old new
looked_keeps_on board rings old new h looks =
    keeps_on board rings old new h (looked_on old new looks) (ap (λ l. l.front.board) looks.lane ∙ h.board_is) (looked_stands old new looks h.stands)

pub looked_of : (board : TableId) (rings : List QueueRing) (old new : LaneSeen) → IsLaneOf board rings old → Looks old new → IsLaneOf board rings new
looked_of board rings old new h looks = (looked_keeps_on board rings old new h looks).lane

pub stays_on_none : (board : TableId) (rings : List QueueRing) (lane : LaneSeen) → IsLaneOf board rings lane → StaysOn board rings lane lane
stays_on_none board rings lane h = record { on = goes_on_none lane; lane = h }

pub stays_on_both : (board : TableId) (rings : List QueueRing) (one two three : LaneSeen) → StaysOn board rings one two → StaysOn board rings two three → StaysOn board rings one three
stays_on_both board rings one two three a b = record { on = goes_on_both one two three a.on b.on; lane = b.lane }

-- a lane that looked and then went on went on
pub looked_then_on : (board : TableId) (rings : List QueueRing) (old mid new : LaneSeen) → Looks old mid → StaysOn board rings mid new → StaysOn board rings old new
looked_then_on board rings old mid new looks b = record { on = goes_on_both old mid new (looked_on old mid looks) b.on; lane = b.lane }

-- a lane that went on is on the same ring
pub still_on : (board : TableId) (rings : List QueueRing) (ring : RingSeen) (old new : LaneSeen) → StaysOn board rings old new → old.pass.table ≡ ring.table → new.pass.table ≡ ring.table
still_on board rings ring old new keeps of = keeps.on.table ∙ of

some_same : {X : Type 0} → (x y : X) → Some x ≡ Some y → x ≡ y
some_same x y e = cc

-- a lane of a broker is on the ring of its queue
pub table_of : (board : TableId) (rings : List QueueRing) (lane : LaneSeen) (ring : RingSeen) → IsLaneOf board rings lane → IsRingOf rings lane.queue.0 ring → lane.pass.table ≡ ring.table
table_of board rings lane ring h is = h.is.2 ∙ ap (λ (r : RingSeen). r.table) (some_same h.is.0 ring (sym h.is.1 ∙ is))

pub at_place : (board : TableId) (rings : List QueueRing) (lanes : List LaneSeen) (i : ℕ) (lane : LaneSeen) → All (λ l. IsLaneOf board rings l) lanes → i < length lanes → lane ≡ slice_index_or lanes i lane → IsLaneOf board rings lane
at_place board rings lanes i lane all lt is = subst (λ (l : LaneSeen). IsLaneOf board rings l) (sym is) (all i lane lt)

-- lanes that went on are still of the broker
pub all_still_of : (opened : Core) (board : TableId) (rings : List QueueRing) (old new : List LaneSeen) → length new ≡ length old → EachGoesOn opened board rings old new → All (λ l. IsLaneOf board rings l) new
all_still_of opened board rings old new same on = λ k d lt. (on k d (omega (arith, lt, same))).lane

-- what is written back of lanes are these, where none came or went
pub put_back : (opened : Core) (board : TableId) (rings : List QueueRing) (len : ℕ) (old new rest : List LaneSeen) → len ≡ length new → EachGoesOn opened board rings old new → EachGoesOn opened board rings old (take len (new ++ rest))
put_back opened board rings len old new rest is each = subst (λ (xs : List LaneSeen). EachGoesOn opened board rings old xs) (sym (ap (λ n. take n (new ++ rest)) is ∙ take-append_seam new rest)) each

-- and so has each its share
pub shares_stay : (opened : Core) (board : TableId) (rings : List QueueRing) (old new : List LaneSeen) → length new ≡ length old → EachGoesOn opened board rings old new → sum_by share_of new ≡ sum_by share_of old
shares_stay opened board rings [] [] same each = refl
shares_stay opened board rings [] (y ∷ ys) same each = absurd (omega (arith, same))
shares_stay opened board rings (x ∷ xs) [] same each = absurd (omega (arith, same))
shares_stay opened board rings (x ∷ xs) (y ∷ ys) same each =
    let here : share_of y ≡ share_of x = (each zero x (omega arith)).on.share in
    let rest = shares_stay opened board rings xs ys (omega (arith, same)) (λ k d lt. each (suc k) d (omega (arith, lt))) in
    omega (arith, here, rest, sum_by-cons share_of x xs, sum_by-cons share_of y ys)

pub all_seen : (board : TableId) (rings : List QueueRing) (lanes : List LaneSeen) → All (λ lane. IsLaneOf board rings lane) lanes → All (HasSeen board) lanes
all_seen board rings lanes all = λ k d lt. let one = all k d lt in record { board_is = one.board_is; stands = one.stands }

pub all_on_board : (board : TableId) (rings : List QueueRing) (lanes : List LaneSeen) → All (λ lane. IsLaneOf board rings lane) lanes → All (IsOnBoard board) lanes
all_on_board board rings lanes all = λ k d lt. (all k d lt).board_is
