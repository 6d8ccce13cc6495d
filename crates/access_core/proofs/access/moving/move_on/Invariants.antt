-- The start moved on by the entries so far, and those behind them are as they were.
use Rattle.std.proofs.Common.{◌≡◌, ℕ, ◌≤◌, get_or, take}
use Rattle.core_model.specs.declared.entry.Entry.{Entry}
use Rattle.access_core.specs.inner.MovingOn.{MovesOn}
use Rattle.access_core.proofs.access.moving.move_on.Given as goal

abbrev pub invariant-loop-entry : goal.invariant-loop-entry
invariant-loop-entry l =
    MovesOn l.initial.start (take l.entry-index l.initial.entries) l.start
    × ((k : ℕ) (other : Entry) → l.entry-index ≤ k → get_or l.entries k other ≡ get_or l.initial.entries k other)
