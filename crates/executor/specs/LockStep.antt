-- Work-items of a group that take turns in any order over one memory, and when that comes to the same as always the least
-- one first (own; PRM, Work-Group; what conflicts is after PSA, Memory Consistency Model).
use Rattle.std.specs.Prelude.{◌≡◌, ℕ, zero, suc, ◌+◌, ◌<◌, ◌≤◌, IsTrue, List, [], ◌∷◌, ◌++◌, Some, is_some, slice_get, slice_set}
use Rattle.executor.specs.Footprints.{Bytes, Footprint, HasFootprint, Place, contents_of, with_writes}
use Rattle.executor.specs.Group.{Standing, ready, waiting, ended, Status, running, done, least_waiting, met}
use Rattle.executor.specs.Items.{Contents, Surroundings}
use Rattle.executor.specs.Runs.{GroupInput, begun, surroundings_of}
use Rattle.kernel_check.specs.Programs.{Program}

-- ---- marks, and conflicts

-- two marks of each place: 0, or 1 more than the number of the highest work-item that read it, and that wrote it
pub record Marks : Type 0 where
  pub read : Place → ℕ
  pub wrote : Place → ℕ

-- no conflict for the work-item of number n: what it reads no higher one wrote, and what it writes no higher one wrote or
-- read
pub record MeetsNoConflict (n : ℕ) (f : Footprint) (marks : Marks) : Type 0 where
  pub read_unwritten : (x : Place) → IsTrue (f.reads x) → marks.wrote x ≤ n + 1
  pub written_unwritten : (x : Place) → IsTrue (is_some (f.writes x)) → marks.wrote x ≤ n + 1
  pub written_unread : (x : Place) → IsTrue (is_some (f.writes x)) → marks.read x ≤ n + 1

-- marks after a turn of the work-item of number n: none has fallen, and those of what it touched are above n; they may be
-- higher than they need to be
pub record AreMarked (n : ℕ) (f : Footprint) (before after : Marks) : Type 0 where
  pub read_kept : (x : Place) → before.read x ≤ after.read x
  pub wrote_kept : (x : Place) → before.wrote x ≤ after.wrote x
  pub reader_marked : (x : Place) → IsTrue (f.reads x) → n < after.read x
  pub writer_marked : (x : Place) → IsTrue (is_some (f.writes x)) → n < after.wrote x

-- ---- turns in any order

-- work-items that stand together, their memory, and its marks
pub record Moment : Type 0 where
  pub items : List Standing
  pub memory : Bytes
  pub marks : Marks

-- the work-item at a place takes a turn without a conflict; the first of those that stand together has the number first
pub record TakesTurn (a : Surroundings) (p : Program) (size first place : ℕ) (before after : Moment) : Type 0 where
  pub item : Standing
  pub there : slice_get before.items place ≡ Some item
  pub next : Standing
  pub footprint : Footprint
  pub turns : HasFootprint a p size (first + place) item next before.memory footprint
  pub no_conflict : MeetsNoConflict (first + place) footprint before.marks
  pub items : after.items ≡ slice_set before.items place next
  pub memory : after.memory ≡ with_writes footprint.writes before.memory
  pub marks : AreMarked (first + place) footprint before.marks after.marks

-- the work-items at these places take turns one by one in this order, none with a conflict
abbrev pub TakeTurns : Surroundings → Program → ℕ → ℕ → List ℕ → Moment → Moment → Type 0
TakeTurns a p size first [] before after = before ≡ after
TakeTurns a p size first (place ∷ later) before after =
    (between : Moment) × TakesTurn a p size first place before between × TakeTurns a p size first later between after

-- each of some work-items has ended or waits at a barrier
abbrev pub HaveStopped : List Standing → Type 0
HaveStopped [] = Unit {0}
HaveStopped (ready i executed ∷ items) = ⊥
HaveStopped (waiting i executed ∷ items) = HaveStopped items
HaveStopped (ended ∷ items) = HaveStopped items

-- the work-items of a strip take turns without a conflict until each of them has stopped
abbrev pub RunsToStop : Surroundings → Program → ℕ → ℕ → Moment → Moment → Type 0
RunsToStop a p size first before after = (order : List ℕ) × TakeTurns a p size first order before after × HaveStopped after.items

-- ---- strips and groups

-- where a group stands of which a strip is at a moment, between those before it and those behind it
abbrev pub status_around : List Standing → List Standing → ℕ → Moment → Status
status_around earlier later size strip = running (earlier ++ (strip.items ++ later)) (contents_of size strip.memory)

-- so many phases from barrier to barrier: in each all work-items of the group run until they have stopped, in any order, so
-- also strip behind strip, and then they meet. Marks may be any as a phase begins (PRM, Barrier Operations)
abbrev pub PassesPhases : Surroundings → Program → ℕ → ℕ → Status → Status → Type 0
PassesPhases a p size zero from to = from ≡ to
PassesPhases a p size (suc n) from to =
    (before after : Moment) × (from ≡ running before.items (contents_of size before.memory)) × RunsToStop a p size 0 before after
    × PassesPhases a p size n (met p after.items (contents_of size after.memory) (least_waiting 0 after.items)) to

-- a group that ran so from its beginning is done, with this in memory
abbrev pub RunsInLockStep : GroupInput → Contents → Type 0
RunsInLockStep i m =
    (phases : ℕ) × PassesPhases (surroundings_of i) i.program i.group_segment_size phases (begun i) (done m)
