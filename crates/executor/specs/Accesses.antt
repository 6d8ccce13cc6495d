-- Accesses to global and group memory: which rule one breaks first, what a load sees and what a store leaves (PRM,
-- Load (ld) Operation; Store (st) Operation; the rules are (own)).
use Rattle.std.specs.Prelude.{ℕ, Bool, ◌+◌, ◌/◌, ◌%◌, ◌^◌, ◌==◌, ◌&&◌, nat_le, nat_lt, not, if◌then◌else◌, List, [], length, take, drop, Option, Some, None, Result, Ok, Err, find}
use Rattle.std.specs.Int.{w64, to_le_bytes}
use Rattle.std.specs.List.{splice}
use Rattle.byteorder.specs.Endian.{little_number}
use Rattle.executor.specs.Items.{LentRegion}
use Rattle.executor.specs.Written.{laid, seen}
use Rattle.policy.specs.Rights.{has}
use Rattle.policy.specs.declared.rights.Right.{Right}
use Rattle.policy.specs.declared.rights.Right.TheVariants.{Read, Write}
use Rattle.queue_error.specs.declared.rule.Rule.{Rule}
use Rattle.queue_error.specs.declared.rule.Rule.TheVariants.{A1, A2, A3, A4, A7}
use Rattle.aql_packet.specs.Memory.{region_span}

-- whether an address lies in a region: region h covers addresses from h * 2^32, as many as its length (own)
abbrev pub covers_address : LentRegion → ℕ → Bool
covers_address region address = region.number == address / region_span && nat_lt (address % region_span) (length region.bytes)

-- the held region in which an address lies
abbrev pub region_of : List LentRegion → ℕ → Option LentRegion
region_of view address = find (λ region. covers_address region address) view

-- the rule that an access of n bytes breaks first: A1, A2, A3 (own)
abbrev pub broken_in : Option LentRegion → Right → ℕ → ℕ → Option Rule
broken_in None right address n = Some A1
broken_in (Some region) right address n =
    if not (has region.rights right) then Some A2
    else if not (nat_le (address % region_span + n) (length region.bytes)) then Some A3
    else None

-- the bytes that are lent for an access
abbrev pub lent_in : Option LentRegion → ℕ → ℕ → List ℕ
lent_in None address n = []
lent_in (Some region) address n = take n (drop (address % region_span) region.bytes)

abbrev pub broken : List LentRegion → Right → ℕ → ℕ → Option Rule
broken view right address n = broken_in (region_of view address) right address n

abbrev pub lent : List LentRegion → ℕ → ℕ → List ℕ
lent view address n = lent_in (region_of view address) address n

abbrev pub unless_broken : {X : Type 0} → Option Rule → X → Result X Rule
unless_broken None x = Ok x
unless_broken (Some rule) x = Err rule

-- a load of n bytes: the written byte, else the lent one, at each address; the lowest byte first
abbrev pub loaded : List LentRegion → (ℕ → Option ℕ) → ℕ → ℕ → Result ℕ Rule
loaded view written address n =
    unless_broken (broken view Read address n) (little_number n (seen written address (lent view address n)))

-- a store of a value's low n bytes, the lowest first
abbrev pub stored : List LentRegion → (ℕ → Option ℕ) → ℕ → ℕ → ℕ → Result (ℕ → Option ℕ) Rule
stored view written address n value =
    unless_broken (broken view Write address n) (laid written address (take n (to_le_bytes w64 value)))

-- ---- group memory

-- the rule that an access of n bytes of group memory breaks: A7, where it doesn't lie inside its bytes (own)
abbrev pub group_broken : List ℕ → ℕ → ℕ → Option Rule
group_broken group address n = if nat_le (address + n) (length group) then None else Some A7

-- a load of n bytes, the lowest byte first
abbrev pub group_loaded : List ℕ → ℕ → ℕ → Result ℕ Rule
group_loaded group address n = unless_broken (group_broken group address n) (little_number n (drop address group))

-- group memory with bytes laid over it from an address on
abbrev pub overlaid : List ℕ → ℕ → List ℕ → List ℕ
overlaid group address bytes = splice group address (address + length bytes) bytes

-- a store of a value's low n bytes, the lowest first
abbrev pub group_stored : List ℕ → ℕ → ℕ → ℕ → Result (List ℕ) Rule
group_stored group address n value =
    unless_broken (group_broken group address n) (overlaid group address (take n (to_le_bytes w64 value)))

-- ---- atomic accesses

-- a rule that is broken already, or A4, where the address isn't a multiple of the n bytes that are accessed (own)
abbrev pub or_misaligned : Option Rule → ℕ → ℕ → Option Rule
or_misaligned (Some rule) address n = Some rule
or_misaligned None address n = if address % n == 0 then None else Some A4

-- the rule that an atomic access of n bytes breaks first: A1, A2, which asks for READ and WRITE, A3, A4 (own)
abbrev pub atomic_broken_in : Option LentRegion → ℕ → ℕ → Option Rule
atomic_broken_in None address n = Some A1
atomic_broken_in (Some region) address n =
    if has region.rights Read then or_misaligned (broken_in (Some region) Write address n) address n else Some A2

abbrev pub atomic_broken : List LentRegion → ℕ → ℕ → Option Rule
atomic_broken view address n = atomic_broken_in (region_of view address) address n

-- the rule that one of group memory breaks first: A7, A4 (own)
abbrev pub group_atomic_broken : List ℕ → ℕ → ℕ → Option Rule
group_atomic_broken group address n = or_misaligned (group_broken group address n) address n
