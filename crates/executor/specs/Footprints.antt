-- What the turn of a work-item touches of the memory that a group shares (own).
use Rattle.std.specs.Prelude.{◌≡◌, ℕ, zero, suc, ◌+◌, Bool, false, IsTrue, List, [], ◌∷◌, Option, Some, None, is_some, slice_get, unwrap_or}
use Rattle.aql_packet.specs.Memory.{covers}
use Rattle.executor.specs.Addresses.{address_of, group_address_of}
use Rattle.executor.specs.Atomics.{place_of}
use Rattle.executor.specs.Group.{Standing, ready, waiting, ended, context_of_item}
use Rattle.executor.specs.Items.{Contents, Surroundings}
use Rattle.executor.specs.Meaning.{Act, goes_on, arrives, ends, broke, turn}
use Rattle.executor.specs.declared.item.Item.{Item}
use Rattle.kernel_check.specs.Programs.{Program}
use Rattle.kernel_check.specs.Steps.{number_bytes}
use Rattle.kernel_check.specs.declared.step.Step.{Step}
use Rattle.kernel_check.specs.declared.step.Step.TheVariants as step
use Rattle.queue_error.specs.declared.error.SegmentAddress.{SegmentAddress}
use Rattle.queue_error.specs.declared.error.SegmentAddress.TheVariants as segment

-- ---- one memory

-- a byte that the work-items of a group share: one of group memory, or one at an address (PRM, Segments)
pub data Place : Type 0 where
  in_group : ℕ → Place
  at_address : ℕ → Place

-- what was written where, place by place
abbrev pub Bytes : Type 0
Bytes = Place → Option ℕ

-- so many bytes of group memory from a place on; one that was never written is 0
abbrev pub group_bytes : ℕ → ℕ → Bytes → List ℕ
group_bytes zero from m = []
group_bytes (suc n) from m = unwrap_or (m (in_group from)) 0 ∷ group_bytes n (from + 1) m

-- a group's contents, with group memory of so many bytes
abbrev pub contents_of : ℕ → Bytes → Contents
contents_of size m = record { group = group_bytes size 0 m; written = λ x. m (at_address x) }

-- memory after what a turn writes
abbrev pub with_writes : (Place → Option (Option ℕ)) → Bytes → Bytes
with_writes writes m x = unwrap_or (writes x) (m x)

-- ---- one turn, and what it touches

-- what a turn that breaks no rule leads to: where its work-item then stands, and what memory then has
abbrev pub LeadsTo : ℕ → Act → Standing → Contents → Type 0
LeadsTo executed (goes_on i m) next after = (next ≡ ready i (executed + 1)) × (m ≡ after)
LeadsTo executed (arrives i m) next after = (next ≡ waiting i (executed + 1)) × (m ≡ after)
LeadsTo executed (ends m) next after = (next ≡ ended) × (m ≡ after)
LeadsTo executed (broke rule address) next after = ⊥

-- the work-item of number n takes a turn that breaks no rule, over group memory of so many bytes
abbrev pub IsTurn : Surroundings → Program → ℕ → ℕ → Standing → Bytes → Standing → Contents → Type 0
IsTurn a p size n (ready i executed) m next after =
    LeadsTo executed (turn (context_of_item a n) p.steps i executed (contents_of size m)) next after
IsTurn a p size n (waiting i executed) m next after = ⊥
IsTurn a p size n ended m next after = ⊥

-- what a turn touches: the places that it reads, and what it writes
pub record Footprint : Type 0 where
  pub reads : Place → Bool
  pub writes : Place → Option (Option ℕ)

-- a turn has a footprint: over any memory with the same bytes where it reads, it leads to the same and writes the same
abbrev pub HasFootprint : Surroundings → Program → ℕ → ℕ → Standing → Standing → Bytes → Footprint → Type 0
HasFootprint a p size n item next m f =
    (seen : Bytes) → ((x : Place) → IsTrue (f.reads x) → seen x ≡ m x) → IsTurn a p size n item seen next (contents_of size (with_writes f.writes seen))

-- ---- what each step touches

-- the bytes of an access to global memory, so many from an address on
abbrev pub global_places : ℕ → ℕ → Place → Bool
global_places address n (in_group x) = false
global_places address n (at_address x) = covers address n x

-- those of one to group memory
abbrev pub group_places : ℕ → ℕ → Place → Bool
group_places address n (in_group x) = covers address n x
group_places address n (at_address x) = false

abbrev pub accessed : SegmentAddress → ℕ → Place → Bool
accessed (segment.Global x) n = global_places x n
accessed (segment.Group x) n = group_places x n

-- the places that a work-item reads at a step, and behind the last (PRM, Load (ld) Operation; Atomic Memory Operations)
abbrev pub places_read : Item → Option Step → Place → Bool
places_read i None x = false
places_read i (Some (step.Load l)) x = global_places (address_of i.registers l.pointer) (number_bytes l.kind) x
places_read i (Some (step.LoadGroup l)) x = group_places (group_address_of i.registers l.pointer) (number_bytes l.kind) x
places_read i (Some (step.Atomic32 s)) x = accessed (place_of i.registers s.pointer) 4 x
places_read i (Some (step.Atomic64 s)) x = accessed (place_of i.registers s.pointer) 8 x
places_read i (Some other) x = false

-- those that it may write (PRM, Store (st) Operation; Atomic Memory Operations)
abbrev pub places_written : Item → Option Step → Place → Bool
places_written i None x = false
places_written i (Some (step.Store s)) x = global_places (address_of i.registers s.pointer) (number_bytes s.kind) x
places_written i (Some (step.StoreGroup s)) x = group_places (group_address_of i.registers s.pointer) (number_bytes s.kind) x
places_written i (Some (step.Atomic32 s)) x = accessed (place_of i.registers s.pointer) 4 x
places_written i (Some (step.Atomic64 s)) x = accessed (place_of i.registers s.pointer) 8 x
places_written i (Some other) x = false

-- a turn of a work-item has a footprint that reads at these places alone, and writes at some of those
abbrev pub TouchesOnly : Surroundings → Program → ℕ → ℕ → Standing → Standing → Bytes → (Place → Bool) → (Place → Bool) → Type 0
TouchesOnly a p size n item next m reads written =
    (writes : Place → Option (Option ℕ)) × ((x : Place) → IsTrue (is_some (writes x)) → IsTrue (written x))
    × HasFootprint a p size n item next m (record { reads = reads; writes = writes })

-- it touches what its step names
abbrev pub TouchesAsNamed : Surroundings → Program → ℕ → ℕ → Item → ℕ → Standing → Bytes → Type 0
TouchesAsNamed a p size n i executed next m =
    TouchesOnly a p size n (ready i executed) next m (places_read i (slice_get p.steps i.next)) (places_written i (slice_get p.steps i.next))
