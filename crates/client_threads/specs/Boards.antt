-- What the passes of a board know: on it stands each state in which a section left the core, and whose section that was (own).
use Rattle.std.specs.Prelude.{◌≡◌, ◌⊎◌, ◌≤◌, ℕ, zero, suc, ◌+◌, ◌-◌, ◌==◌, if◌then◌else◌, true, false, List, [], ◌∷◌, ◌++◌, length}
use Rattle.std.specs.List.{sum_by}
use mathlib.Core.Option.{some}
use mathlib.Core.List.{IsPrefix}
use lib.ListN.{get_elem?}
use Rattle.atomic_table.specs.Table.{State, Step, Me}
use Rattle.atomic_table.specs.Seated.{TableId}
use Rattle.client_threads.specs.declared.board.View.{View}
use Rattle.access_core.specs.Cores.{Core}

-- how many shares there are of the right to make sections
abbrev pub all_shares : ℕ
all_shares = 4294967296

-- the seat that writes; at rest it has no share and no place
abbrev pub keeper_view : List Core → ℕ → List ℕ → View
keeper_view left share own = record { writes = true; left = left; shown = []; share = share; own = own }

-- any other: what it knows, its share of the right to make sections, and the places of those that were made through it
abbrev pub front_view : List Core → ℕ → List ℕ → View
front_view left share own = record { writes = false; left = left; shown = []; share = share; own = own }

abbrev pub spent : View
spent = front_view [] 0 []

-- what a seat has once another gave it all that it has
abbrev pub united : View → View → View
united v w = record { writes = v.writes; left = v.left; shown = w.left; share = v.share + w.share; own = v.own ++ w.own }

abbrev pub rested : View → View
rested v = record { writes = v.writes; left = v.left; shown = []; share = v.share; own = v.own }

-- f 0 + f 1 + .. so many
abbrev pub sum_to : (ℕ → ℕ) → ℕ → ℕ
sum_to f zero = 0
sum_to f (suc n) = sum_to f n + f n

-- each number below n stands among these, once, and no other: whatever is summed over them
abbrev pub AreAllBelow : ℕ → List ℕ → Type 0
AreAllBelow n places = (f : ℕ → ℕ) → sum_by f places ≡ sum_to f n

-- how often a place stands among these
abbrev pub times : ℕ → List ℕ → ℕ
times k places = sum_by (λ j. if j == k then 1 else 0) places

-- what the rule says of one view: only the seat with this number writes, and it knows all; any other knows a beginning; who has no
-- share has no place
pub record Fits (seat : ℕ) (all : List Core) (id : ℕ) (v : View) : Type 0 where
  pub one : v.writes ≡ true → (id ≡ seat) × (v.left ≡ all)
  pub begins : IsPrefix v.left all
  pub shown : IsPrefix v.shown all
  pub idle : v.share ≡ 0 → v.own ≡ []

-- there is a list of the states that were left, of which each seat knows a beginning; the shares of all seats are the whole; and each
-- place of that list is one seat's own, once
pub record IsKept (s : State Core View) : Type 0 where
  pub seat : ℕ
  pub all : List Core
  pub fits : (id : ℕ) (v : View) → get_elem? s.views id ≡ some v → Fits seat all id v
  pub whole : sum_by (λ v. v.share) s.views ≡ all_shares
  pub once : (f : ℕ → ℕ) → sum_by (λ v. sum_by f v.own) s.views ≡ sum_to f (length all)

-- the writer adds the state that is said, and has its place; what it was shown began the states
abbrev pub Written : Step Core → Me Core View → ℕ → Me Core View → Type 0
Written step me found after =
    ((core : Core) → step.said ≡ some core → after ≡ (keeper_view (me.0.left ++ core ∷ []) me.0.share (me.0.own ++ length me.0.left ∷ []), me.1))
    × IsPrefix me.0.shown me.0.left

-- the writer is told of what it was shown; and where it has the whole share, all places are its own
abbrev pub Checked : Step Core → Me Core View → ℕ → Me Core View → Type 0
Checked step me found after =
    (after ≡ (rested me.0, me.1)) × IsPrefix me.0.shown me.0.left × (me.0.share ≡ all_shares → AreAllBelow (length me.0.left) me.0.own)

-- one begins the other
abbrev pub Compared : List Core → List Core → Type 0
Compared xs ys = IsPrefix xs ys ⊎ IsPrefix ys xs

-- any seat is told how what it was shown stands to what it has seen, and that its share is at most the whole
abbrev pub Told : Step Core → Me Core View → ℕ → Me Core View → Type 0
Told step me found after = (after ≡ (rested me.0, me.1)) × Compared me.0.left me.0.shown × (me.0.share ≤ all_shares)

-- the pass that writes: of which board, the states that it knows of, and what of share and places it has been given back
pub record KeeperSeen : Type 0 where
  pub board : TableId
  pub left : List Core
  pub share : ℕ
  pub own : List ℕ

-- a front: of which board, the states that it has seen, its share, and the places of its own sections
pub record FrontSeen : Type 0 where
  pub board : TableId
  pub left : List Core
  pub share : ℕ
  pub own : List ℕ

-- what is seen without a share
pub record SightSeen : Type 0 where
  pub board : TableId
  pub left : List Core

abbrev pub resting_keeper : TableId → List Core → KeeperSeen
resting_keeper board left = record { board = board; left = left; share = 0; own = [] }

-- what a front has once its holder gave a share of it to another
abbrev pub one_less : FrontSeen → FrontSeen
one_less front = record front { share = front.share - 1 }

-- the front that got that share: it has seen the same, and made no section
abbrev pub fresh_of : FrontSeen → FrontSeen
fresh_of front = record front { share = 1; own = [] }

-- a front that got back all of another
abbrev pub united_with : FrontSeen → FrontSeen → FrontSeen
united_with front other = record front { share = front.share + other.share; own = front.own ++ other.own }

-- what is seen of a front without its share
abbrev pub sight_of : FrontSeen → SightSeen
sight_of front = record { board = front.board; left = front.left }

-- a front behind a section that left the core so: it has seen that, and the place of the section is its own
abbrev pub with_section : FrontSeen → List Core → Core → FrontSeen
with_section front before core = record { board = front.board; left = before ++ core ∷ []; share = front.share; own = front.own ++ length before ∷ [] }

-- the name of no board
abbrev pub no_board : TableId
no_board = record { words = 0; slots = 0; views_name = 0; atom = 0; block = 0; offset = 0; slot_names = [] }
