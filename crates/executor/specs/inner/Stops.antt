-- Work-items that run from stop to stop, as a group sees them (own).
use Rattle.std.specs.Prelude.{◌≡◌, ℕ, zero, suc, ◌-◌, Bool, true, false, if◌then◌else◌, List, [], ◌∷◌, ◌++◌}
use Rattle.executor.specs.Group.{Standing, ready, waiting, ended, released}
use Rattle.executor.specs.declared.item.Item.{Item}
use Rattle.executor.specs.declared.item.Stop.{Stop}
use Rattle.executor.specs.declared.item.Stop.TheVariants as stop
use Rattle.executor.specs.declared.item.StoppedItem.{StoppedItem}
use Rattle.executor.specs.declared.limits.TheConstants.{BUDGET}

-- where an item stands that stopped
abbrev pub standing_at : Stop → Item → ℕ → Standing
standing_at stop.Barrier i executed = waiting i executed
standing_at stop.End i executed = ended

-- how many instructions an item executed, by how many it may still execute
abbrev pub executed_by : StoppedItem → ℕ
executed_by s = BUDGET - s.left

abbrev pub standing : StoppedItem → Standing
standing s = standing_at s.stop s.item (executed_by s)

abbrev pub is_barrier : Stop → Bool
is_barrier stop.Barrier = true
is_barrier stop.End = false

abbrev pub waits : StoppedItem → Bool
waits s = is_barrier s.stop

-- so many items that have ended, and others behind them
abbrev pub after : ℕ → List Standing → List Standing
after zero xs = xs
after (suc n) xs = ended ∷ after n xs

-- items with one more behind them; one that ended before any waits is left out
abbrev pub keep_stopped : List StoppedItem → StoppedItem → List StoppedItem
keep_stopped [] s = if waits s then s ∷ [] else []
keep_stopped (first ∷ rest) s = first ∷ (rest ++ s ∷ [])

-- none of some items can take a turn
abbrev pub AreStopped : List Standing → Type 0
AreStopped [] = Unit {0}
AreStopped (ready i executed ∷ rest) = ⊥
AreStopped (waiting i executed ∷ rest) = AreStopped rest
AreStopped (ended ∷ rest) = AreStopped rest

-- items that go on in turn: so many have stopped again, the others are still to take their first turn
abbrev pub stopped_again : ℕ → List StoppedItem → List Standing
stopped_again n [] = []
stopped_again zero (s ∷ rest) = released (standing s) ∷ stopped_again zero rest
stopped_again (suc n) (s ∷ rest) = standing s ∷ stopped_again n rest

-- an item that waits
pub record CanGoOn (s : StoppedItem) : Type 0 where
  pub at_barrier : waits s ≡ true

-- that all items but so many first ones can go on
abbrev pub CanGoOnFrom : ℕ → List StoppedItem → Type 0
CanGoOnFrom n [] = Unit {0}
CanGoOnFrom zero (s ∷ rest) = CanGoOn s × CanGoOnFrom zero rest
CanGoOnFrom (suc n) (s ∷ rest) = CanGoOnFrom n rest
