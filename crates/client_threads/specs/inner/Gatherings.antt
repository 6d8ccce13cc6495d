-- Fronts come back at the end.
use Rattle.std.specs.Prelude.{◌≡◌, ℕ, ◌+◌, List, [], length, All}
use Rattle.std.specs.List.{sum_by}
use mathlib.Core.List.{IsPrefix}
use Rattle.atomic_table.specs.Seated.{TableId}
use Rattle.access_core.specs.Cores.{Core}
use Rattle.client_threads.specs.Boards.{AreAllBelow, KeeperSeen, all_shares}
use Rattle.client_threads.specs.Lanes.{LaneSeen, own_of, share_of}
use Rattle.client_threads.specs.Sections.{AllFollow, IsFirst, last_of}
use Rattle.client_threads.specs.Settling.{IsShown}

-- a broker ended with this core, by the states in which sections left it
pub record EndsBy (opened : Core) (left seen : List Core) (lanes : List LaneSeen) (core : Core) : Type 0 where
  pub first : IsFirst opened
  pub all : AllFollow opened left
  pub last : last_of opened left ≡ core
  pub begins : IsPrefix seen left
  pub shown : All (IsShown opened left) lanes

-- a lane's front is of a board
abbrev pub IsOnBoard : TableId → LaneSeen → Type 0
IsOnBoard board lane = lane.front.board ≡ board

-- the sum over the places of a lane's sections
abbrev pub places_sum : (ℕ → ℕ) → LaneSeen → ℕ
places_sum f lane = sum_by f (own_of lane)

-- where a pass has all shares, all places are its own
abbrev pub KnowsAll : KeeperSeen → Type 0
KnowsAll keeper = keeper.share ≡ all_shares → AreAllBelow (length keeper.left) keeper.own

-- lanes are fewer, and what these had of shares and places came back
pub record HasGathered (old : KeeperSeen) (lanes : List LaneSeen) (new : KeeperSeen) (rest : List LaneSeen) : Type 0 where
  pub board : new.board ≡ old.board
  pub left : new.left ≡ old.left
  pub share : new.share + sum_by share_of rest ≡ old.share + sum_by share_of lanes
  pub own : (f : ℕ → ℕ) → sum_by f new.own + sum_by (places_sum f) rest ≡ sum_by f old.own + sum_by (places_sum f) lanes
