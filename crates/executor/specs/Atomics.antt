-- Atomic operations: what they find, and what they leave in its place (PRM, Atomic Memory Operations).
use Rattle.std.specs.Prelude.{ℕ, ◌==◌, if◌then◌else◌, List, take, drop, Option, Some, None, Result, bit_and, bit_or, bit_xor}
use Rattle.std.specs.Int.{Width, w32, w64, to_le_bytes}
use Rattle.executor.specs.Accesses.{atomic_broken, group_atomic_broken, lent, overlaid, unless_broken}
use Rattle.executor.specs.Addresses.{address_of, group_address_of}
use Rattle.executor.specs.Items.{Contents, LentRegion}
use Rattle.executor.specs.Numbers.{unsigned, signed, computed, sum, difference, least, greatest}
use Rattle.executor.specs.Registers.{read32, read64, with32, with64}
use Rattle.executor.specs.Written.{laid, seen}
use Rattle.executor.specs.declared.registers.Registers.{Registers}
use Rattle.kernel_check.specs.declared.step.AtomicChange.{AtomicChange}
use Rattle.kernel_check.specs.declared.step.AtomicChange.TheVariants as change
use Rattle.kernel_check.specs.declared.step.AtomicPointer.{AtomicPointer}
use Rattle.kernel_check.specs.declared.step.AtomicPointer.TheVariants as pointer
use Rattle.kernel_check.specs.declared.step.Source.{Source}
use Rattle.queue_error.specs.declared.error.SegmentAddress.{SegmentAddress}
use Rattle.queue_error.specs.declared.error.SegmentAddress.TheVariants as segment
use Rattle.queue_error.specs.declared.rule.Rule.{Rule}

-- where an atomic operation takes place (PRM, Address Expressions)
abbrev pub place_of : Registers → AtomicPointer → SegmentAddress
place_of r (pointer.Global p) = segment.Global (address_of r p)
place_of r (pointer.Group p) = segment.Group (group_address_of r p)

-- the n bytes at a place, or the rule that is broken first
abbrev pub bytes_found : List LentRegion → Contents → SegmentAddress → ℕ → Result (List ℕ) Rule
bytes_found view m (segment.Global x) n = unless_broken (atomic_broken view x n) (seen m.written x (lent view x n))
bytes_found view m (segment.Group x) n = unless_broken (group_atomic_broken m.group x n) (take n (drop x m.group))

-- memory with bytes at a place
abbrev pub put : Contents → SegmentAddress → List ℕ → Contents
put m (segment.Global x) bytes = record m { written = laid m.written x bytes }
put m (segment.Group x) bytes = record m { group = overlaid m.group x bytes }

-- what an operation leaves in place of an old value of a width, by what it reads; a cas that finds another than the
-- expected one stores nothing (PRM, Atomic (atomic) Operations)
abbrev pub replacing : {S : Type 0} → Width → (S → ℕ) → AtomicChange S → ℕ → Option ℕ
replacing width read (change.Add s) old = Some (computed sum unsigned width old (read s))
replacing width read (change.Subtract s) old = Some (computed difference unsigned width old (read s))
replacing width read (change.LeastUnsigned s) old = Some (computed least unsigned width old (read s))
replacing width read (change.LeastSigned s) old = Some (computed least signed width old (read s))
replacing width read (change.GreatestUnsigned s) old = Some (computed greatest unsigned width old (read s))
replacing width read (change.GreatestSigned s) old = Some (computed greatest signed width old (read s))
replacing width read (change.And s) old = Some (bit_and old (read s))
replacing width read (change.Or s) old = Some (bit_or old (read s))
replacing width read (change.Xor s) old = Some (bit_xor old (read s))
replacing width read (change.Exchange s) old = Some (read s)
replacing width read (change.CompareAndSwap p) old = if old == read p.expected then Some (read p.replacement) else None

abbrev pub replacing32 : Registers → AtomicChange (Source ℕ) → ℕ → Option ℕ
replacing32 r operation old = replacing w32 (read32 r) operation old

abbrev pub replacing64 : Registers → AtomicChange (Source ℕ) → ℕ → Option ℕ
replacing64 r operation old = replacing w64 (read64 r) operation old

-- memory after an operation of 32 bits, by what it leaves
abbrev pub left32 : Contents → SegmentAddress → Option ℕ → Contents
left32 m x None = m
left32 m x (Some value) = put m x (to_le_bytes w32 value)

-- memory after one of 64 bits
abbrev pub left64 : Contents → SegmentAddress → Option ℕ → Contents
left64 m x None = m
left64 m x (Some value) = put m x (to_le_bytes w64 value)

-- the old value in the target of 32 bits, if the operation has one (PRM, Atomic No Return (atomicnoret) Operations)
abbrev pub told32 : Registers → Option ℕ → ℕ → Registers
told32 r None old = r
told32 r (Some target) old = with32 r target old

-- in that of 64 bits
abbrev pub told64 : Registers → Option ℕ → ℕ → Registers
told64 r None old = r
told64 r (Some target) old = with64 r target old
