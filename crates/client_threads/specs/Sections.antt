-- Sections under the lock: what each leaves to the next, and what they come to in all (own).
use Rattle.std.specs.Prelude.{◌≡◌, ◌⊎◌, ℕ, zero, suc, ◌==◌, Bool, if◌then◌else◌, List, [], ◌∷◌, ◌++◌, drop, length, ⊤}
use mathlib.Core.List.{IsPrefix}
use Rattle.core_model.specs.History.{History, beginning}
use Rattle.core_model.specs.Legal.{IsLegal, IsOpening}
use Rattle.core_model.specs.States.{state_after}
use Rattle.core_model.specs.declared.entry.Entry.{Entry}
use Rattle.core_model.specs.declared.served.Served.{Served}
use Rattle.access_core.specs.Cores.{Core}
use Rattle.client_threads.specs.Boards.{FrontSeen, with_section}

-- a history goes on from another, with its kernels, room and declared policy: entries were added; or first all that the other has were
-- handed out, and it begins from the state behind them
pub record Follows (old new : History) : Type 0 where
  pub kernels : new.kernels ≡ old.kernels
  pub capacity : new.capacity ≡ old.capacity
  pub declared : new.origin.policy ≡ old.origin.policy
  pub goes : ((new.origin ≡ old.origin) × IsPrefix old.entries new.entries) ⊎ (beginning new ≡ state_after (beginning old) old.entries)

-- entries were added, and all else stays
pub record Appends (old new : History) : Type 0 where
  pub more : List Entry
  pub history : new ≡ record old { entries = old.entries ++ more }

-- each call of a function leaves a core that goes on from the one that it was lent
abbrev pub Continues : {X : Type 0} → (Core → X → Core → Type 0) → Type 0
Continues {X} Returns = (old new : Core) (x : X) → Returns old x new → Follows old.history new.history

-- a core is as one is opened: over its declared policy, with its kernels and its places for entries
abbrev pub IsFirst : Core → Type 0
IsFirst core = IsOpening core.history core.history.origin.policy core.history.kernels core.history.capacity

-- the last state in which a core was left: at first, that of the opening
abbrev pub last_of : Core → List Core → Core
last_of opened [] = opened
last_of opened (core ∷ rest) = last_of core rest

-- a state in which a section left a core: it goes on from the one before, and is legal
pub record IsNext (old new : Core) : Type 0 where
  pub follows : Follows old.history new.history
  pub legal : IsLegal (beginning new.history) new.history.entries

-- each of these states is next to the one before
abbrev pub AllFollow : Core → List Core → Type 0
AllFollow opened [] = ⊤
AllFollow opened (core ∷ rest) = IsNext opened core × AllFollow core rest

-- A section through a front: it began with what the last one left, which is legal; whatever the front had seen stands before it; it did
-- this; and it alone is the front's own beside those that were
pub record IsSection (opened : Core) (seen new : FrontSeen) (Did : Core → Core → Type 0) : Type 0 where
  pub before : List Core
  pub begins : IsPrefix seen.left before
  pub first : IsFirst opened
  pub all : AllFollow opened before
  pub legal : IsLegal (beginning (last_of opened before).history) (last_of opened before).history.entries
  pub core : Core
  pub did : Did (last_of opened before) core
  pub next : IsNext (last_of opened before) core
  pub new_is : new ≡ with_section seen before core

-- the core was looked at, as the last section left it, which is legal; this was seen
pub record IsLook (opened : Core) (Saw : Core → Type 0) : Type 0 where
  pub before : List Core
  pub first : IsFirst opened
  pub all : AllFollow opened before
  pub legal : IsLegal (beginning (last_of opened before).history) (last_of opened before).history.entries
  pub saw : Saw (last_of opened before)

-- what was handed out between two states
abbrev pub gone : Core → Core → List Entry
gone old new = if new.history.origin.before == old.history.origin.before then [] else old.history.entries

-- all entries of a core that was left so, behind those that were handed out before
abbrev pub whole : List Entry → Core → List Core → List Entry
whole earlier core [] = earlier ++ core.history.entries
whole earlier core (next ∷ rest) = whole (earlier ++ gone core next) next rest

-- the state before the section at a place
abbrev pub state_at : Core → List Core → ℕ → Core
state_at opened left zero = opened
state_at opened [] (suc k) = opened
state_at opened (core ∷ rest) (suc k) = state_at core rest k

-- all entries before the section at a place, handed out or not, behind those that were handed out before
abbrev pub whole_at : List Entry → Core → List Core → ℕ → List Entry
whole_at earlier core left zero = earlier ++ core.history.entries
whole_at earlier core [] (suc k) = earlier ++ core.history.entries
whole_at earlier core (next ∷ rest) (suc k) = whole_at (earlier ++ gone core next) next rest k

-- the entries that the section at a place entered
abbrev pub entered : Core → List Core → ℕ → List Entry
entered opened left k = drop (length (whole_at [] opened left k)) (whole_at [] opened left (suc k))

-- all entries since the opening, handed out or not, by the states that were seen
abbrev pub seen_entries : List Core → List Entry
seen_entries [] = []
seen_entries (core ∷ rest) = whole [] core rest

-- these packets are among those, in order, each at a place of its own
abbrev pub Stand : List Served → List Served → Type 0
Stand [] ys = ⊤
Stand (x ∷ xs) [] = ⊥
Stand (x ∷ xs) (y ∷ ys) = ((x ≡ y) × Stand xs ys) ⊎ Stand (x ∷ xs) ys

-- what lies under the lock: the core, and the states in which it was left
pub record HeldSeen : Type 0 where
  pub core : Core
  pub left : List Core
