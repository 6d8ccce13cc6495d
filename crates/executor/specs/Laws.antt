-- What a work-group may write and depend on, in plain words: addresses in held regions, and bytes that are lent alike.
use Rattle.std.specs.Prelude.{◌≡◌, ℕ, ◌<◌, ◌≤◌, ◌^◌, true, length, slice_get, List, [], ◌∷◌, Some, All}
use Rattle.executor.specs.Accesses.{region_of}
use Rattle.executor.specs.Group.{Standing, Status, done, ended, faulted, ready, running, waiting}
use Rattle.executor.specs.Items.{LentRegion}
use Rattle.executor.specs.Results.{after_turns}
use Rattle.executor.specs.Runs.{GroupInput, begun, surroundings_of}
use Rattle.kernel_check.specs.Programs.{AreLaid, ArgumentPlace, HasItsClasses, LoadsOneOf, Program, StaysWithin}
use Rattle.kernel_check.specs.declared.step.Step.{Step}
use Rattle.aql_packet.specs.Memory.{covers}
use Rattle.executor.specs.declared.written_range.WrittenRange.{WrittenRange}
use Rattle.policy.specs.Rights.{has}
use Rattle.policy.specs.declared.rights.Right.{Right}
use Rattle.policy.specs.declared.rights.Right.TheVariants.{Read}
use Rattle.aql_packet.specs.Memory.{region_span}

-- an address lies in a held region, on which a right is held (own)
pub record IsHeldAt (view : List LentRegion) (right : Right) (address : ℕ) : Type 0 where
  pub region : LentRegion
  pub is_found : region_of view address ≡ Some region
  pub has_right : has region.rights right ≡ true

-- regions are as short as there is room between their first addresses (own)
abbrev pub AreShort : List LentRegion → Type 0
AreShort view = All (λ region. length region.bytes ≤ region_span) view

-- a run has bytes, and each of its addresses lies in a held region on which a right is held
pub record IsHeldRun (view : List LentRegion) (right : Right) (run : WrittenRange) : Type 0 where
  pub has_bytes : 0 < length run.bytes
  pub each : (x : ℕ) → covers run.address (length run.bytes) x ≡ true → IsHeldAt view right x

-- two regions are lent alike: of one number, with the same rights and as many bytes, and the same bytes where READ is held
pub record IsLentAlike (one other : LentRegion) : Type 0 where
  pub number_is : one.number ≡ other.number
  pub rights_are : one.rights ≡ other.rights
  pub length_is : length one.bytes ≡ length other.bytes
  pub bytes_are : has one.rights Read ≡ true → one.bytes ≡ other.bytes

-- regions that are lent alike, in order
abbrev pub AreLentAlike : List LentRegion → List LentRegion → Type 0
AreLentAlike [] [] = Unit {0}
AreLentAlike (one ∷ ones) (other ∷ others) = IsLentAlike one other × AreLentAlike ones others
AreLentAlike _ _ = ⊥

-- ---- a run of a checked kernel

-- a step has no wrong register, no label that isn't there and no constant that is wider than its place, and an argument
-- that it loads is one of these
pub record IsRight (p : Program) (arguments : List ArgumentPlace) (s : Step) : Type 0 where
  pub classes : HasItsClasses s
  pub stays : StaysWithin (length p.steps) p.argument_bytes s
  pub argument : LoadsOneOf arguments s

-- an item's next step is one of its kernel's, which is right; or the item is at the kernel's end
pub record StandsAt (p : Program) (arguments : List ArgumentPlace) (next : ℕ) : Type 0 where
  pub within : next ≤ length p.steps
  pub right : (s : Step) → slice_get p.steps next ≡ Some s → IsRight p arguments s

abbrev pub AllStand : Program → List ArgumentPlace → List Standing → Type 0
AllStand p arguments [] = Unit {0}
AllStand p arguments (ready i executed ∷ rest) = StandsAt p arguments i.next × AllStand p arguments rest
AllStand p arguments (waiting i executed ∷ rest) = StandsAt p arguments i.next × AllStand p arguments rest
AllStand p arguments (ended ∷ rest) = AllStand p arguments rest

-- all items of a group that still runs do
abbrev pub StandRight : Program → List ArgumentPlace → Status → Type 0
StandRight p arguments (running items m) = AllStand p arguments items
StandRight p arguments (done m) = Unit {0}
StandRight p arguments (faulted f) = Unit {0}

-- the kernel has arguments, which lie in its block, and after each number of turns of the group all of its items stand right
abbrev pub RunsRight : GroupInput → Type 0
RunsRight i = (arguments : List ArgumentPlace) × (AreLaid i.program.argument_bytes arguments
    × ((turns : ℕ) → StandRight i.program arguments (after_turns (surroundings_of i) i.program turns (begun i))))
