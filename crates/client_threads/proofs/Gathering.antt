-- Fronts come back, one after another.
use Rattle.std.proofs.Common.{◌≡◌, ℕ, zero, suc, ◌+◌, ◌<◌, true, List, [], ◌∷◌, ◌++◌, length, get_or, refl, ap, ◌∙◌, sym, subst, arith, eqb-true}
use Rattle.std.specs.Prelude.{◌==◌, All}
use Rattle.std.specs.List.{flat_map, remove, sum_by}
use Rattle.std.proofs.lemmas.List.Sums.{sum_by-cons, sum_by-append}
use Rattle.atomic_table.specs.Seated.{TableId}
use Rattle.access_core.specs.Cores.{Core}
use Rattle.client_threads.specs.Boards.{AreAllBelow, FrontSeen, KeeperSeen, all_shares, resting_keeper, sum_to}
use Rattle.client_threads.specs.Lanes.{LaneSeen, own_of, share_of}
use Rattle.client_threads.specs.Settling.{IsClosed, IsEnd, have_all_shares}
use Rattle.client_threads.specs.inner.Gatherings.{EndsBy, HasGathered, IsOnBoard, KnowsAll, places_sum}

-- ---- one taken out

pub sum_removed : (g : LaneSeen → ℕ) (xs : List LaneSeen) (i : ℕ) (x : LaneSeen) → i < length xs → get_or xs i x ≡ x → sum_by g (remove xs i) + g x ≡ sum_by g xs
sum_removed g [] i x lt is = absurd (omega (arith, lt))
sum_removed g (y ∷ ys) zero x lt is = omega (arith, sum_by-cons g y ys, ap g is)
sum_removed g (y ∷ ys) (suc i) x lt is = omega (arith, sum_by-cons g y ys, sum_by-cons g y (remove ys i), sum_removed g ys i x (omega (arith, lt)) is)

all_first : (board : TableId) (x : LaneSeen) (xs : List LaneSeen) → IsOnBoard board x → All (IsOnBoard board) xs → All (IsOnBoard board) (x ∷ xs)
all_first board x xs here rest zero d lt = here
all_first board x xs here rest (suc k) d lt = rest k d (omega (arith, lt))

pub all_removed : (board : TableId) (xs : List LaneSeen) (i : ℕ) → All (IsOnBoard board) xs → All (IsOnBoard board) (remove xs i)
all_removed board [] zero all = all
all_removed board [] (suc i) all = all
all_removed board (y ∷ ys) zero all = λ k d lt. all (suc k) d (omega (arith, lt))
all_removed board (y ∷ ys) (suc i) all = all_first board y (remove ys i) (all zero y (omega arith)) (all_removed board ys i (λ j e l. all (suc j) e (omega (arith, l))))

pub on_board : (board : TableId) (xs : List LaneSeen) (i : ℕ) (x : LaneSeen) → i < length xs → get_or xs i x ≡ x → All (IsOnBoard board) xs → x.front.board ≡ board
on_board board xs i x lt is all = subst (IsOnBoard board) is (all i x lt)

-- ---- what came back

pub gathered_none : (keeper : KeeperSeen) (lanes : List LaneSeen) → HasGathered keeper lanes keeper lanes
gathered_none keeper lanes = record { board = refl; left = refl; share = refl; own = λ f. refl }

pub gathered_begins : (keeper : KeeperSeen) (lanes rest : List LaneSeen) → rest ≡ lanes → HasGathered keeper lanes keeper rest
gathered_begins keeper lanes rest is = subst (HasGathered keeper lanes keeper) (sym is) (gathered_none keeper lanes)

pub on_board_begins : (board : TableId) (lanes rest : List LaneSeen) → rest ≡ lanes → All (IsOnBoard board) lanes → All (IsOnBoard board) rest
on_board_begins board lanes rest is all = subst (λ (ls : List LaneSeen). All (IsOnBoard board) ls) (sym is) all

pub gathered_both : (one : KeeperSeen) (all : List LaneSeen) (two : KeeperSeen) (some : List LaneSeen) (three : KeeperSeen) (rest : List LaneSeen) → HasGathered one all two some → HasGathered two some three rest
    → HasGathered one all three rest
gathered_both one all two some three rest a b = record { board = b.board ∙ a.board; left = b.left ∙ a.left; share = b.share ∙ a.share; own = λ f. b.own f ∙ a.own f }

-- one front did
pub gathered_one : (old new : KeeperSeen) (lanes rest : List LaneSeen) (lane : LaneSeen) → ((g : LaneSeen → ℕ) → sum_by g rest + g lane ≡ sum_by g lanes)
    → new ≡ record old { share = old.share + lane.front.share; own = old.own ++ lane.front.own } → HasGathered old lanes new rest
gathered_one old new lanes rest lane sums is = record {
  board = ap (λ (k : KeeperSeen). k.board) is;
  left = ap (λ (k : KeeperSeen). k.left) is;
  share = omega (arith, ap (λ (k : KeeperSeen). k.share) is, sums share_of);
  own = λ f. omega (arith, ap (λ (k : KeeperSeen). sum_by f k.own) is, sum_by-append f old.own lane.front.own, sums (places_sum f));
}

pub first_sums : (lane : LaneSeen) (rest : List LaneSeen) (g : LaneSeen → ℕ) → sum_by g rest + g lane ≡ sum_by g (lane ∷ rest)
first_sums lane rest g = omega (arith, sum_by-cons g lane rest)

pub all_behind : (board : TableId) (lane : LaneSeen) (rest : List LaneSeen) → All (IsOnBoard board) (lane ∷ rest) → All (IsOnBoard board) rest
all_behind board lane rest all = λ k d lt. all (suc k) d (omega (arith, lt))

pub none_left : (xs : List LaneSeen) → 0 ≡ length xs → [] ≡ xs
none_left [] e = refl
none_left (x ∷ xs) e = absurd (omega (arith, e))

-- ---- all came back

sums_flat : (f : ℕ → ℕ) (lanes : List LaneSeen) → sum_by f (flat_map own_of lanes) ≡ sum_by (places_sum f) lanes
sums_flat f [] = refl
sums_flat f (l ∷ ls) = omega (arith, sum_by-append f (own_of l) (flat_map own_of ls), sum_by-cons (places_sum f) l ls, sums_flat f ls)

pub gathered_all : (board : TableId) (left : List Core) (front : FrontSeen) (lanes : List LaneSeen) (one last : KeeperSeen) → have_all_shares front lanes ≡ true
    → one ≡ record (resting_keeper board left) { share = 0 + front.share; own = [] ++ front.own } → HasGathered one lanes last [] → KnowsAll last → AreAllBelow (length left) (front.own ++ flat_map own_of lanes)
gathered_all board left front lanes one last full is h knows f =
    let total : front.share + sum_by share_of lanes ≡ all_shares = eqb-true (front.share + sum_by share_of lanes) all_shares full in
    let share : last.share ≡ all_shares = omega (arith, h.share, ap (λ (k : KeeperSeen). k.share) is, total) in
    let known : sum_by f last.own ≡ sum_to f (length left) = knows share f ∙ ap (λ (l : List Core). sum_to f (length l)) (h.left ∙ ap (λ (k : KeeperSeen). k.left) is) in
    omega (arith, known, h.own f, ap (λ (k : KeeperSeen). sum_by f k.own) is, sum_by-append f front.own (flat_map own_of lanes), sums_flat f lanes)

-- ---- the end

pub end_of : (opened : Core) (left seen : List Core) (lanes : List LaneSeen) (core : Core) → EndsBy opened left seen lanes core → IsEnd opened seen lanes core
end_of opened left seen lanes core h = record { left = left; first = h.first; all = h.all; last = h.last; begins = h.begins; shown = h.shown }

pub closed_of : (opened : Core) (left : List Core) (front : FrontSeen) (lanes : List LaneSeen) (core : Core) → EndsBy opened left front.left lanes core → AreAllBelow (length left) (front.own ++ flat_map own_of lanes)
    → IsClosed opened front lanes core
closed_of opened left front lanes core h only = record { end = record { left = left; first = h.first; all = h.all; last = h.last; begins = h.begins; shown = h.shown }; only = only }
