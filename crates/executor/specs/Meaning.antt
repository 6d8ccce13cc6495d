-- What one instruction does to a work-item and to memory, an equation an instruction.
use Rattle.std.specs.Prelude.{ℕ, ◌+◌, ◌==◌, if◌then◌else◌, List, drop, slice_get, Option, Some, None, Result, Ok, Err}
use Rattle.byteorder.specs.Endian.{little_number}
use Rattle.executor.specs.Accesses.{loaded, stored, group_loaded, group_stored}
use Rattle.executor.specs.Addresses.{address_of, group_address_of}
use Rattle.executor.specs.Atomics.{bytes_found, place_of, replacing32, replacing64, left32, left64, told32, told64}
use Rattle.executor.specs.Conversions.{converted}
use Rattle.executor.specs.Items.{Contents, Surroundings}
use Rattle.executor.specs.Locations.{answer}
use Rattle.executor.specs.Registers.{read1, read_any, with1, with32, with64, with_any}
use Rattle.executor.specs.Values.{value1, value32, value64}
use Rattle.executor.specs.declared.item.Item.{Item}
use Rattle.executor.specs.declared.registers.Registers.{Registers}
use Rattle.kernel_check.specs.Steps.{number_bytes}
use Rattle.kernel_check.specs.declared.step.AnyRegister.{AnyRegister}
use Rattle.kernel_check.specs.declared.step.AtomicStep.{AtomicStep}
use Rattle.kernel_check.specs.declared.step.NumberType.{NumberType}
use Rattle.kernel_check.specs.declared.step.Source.{Source}
use Rattle.kernel_check.specs.declared.step.Step.{Step}
use Rattle.kernel_check.specs.declared.step.Step.TheVariants as step
use Rattle.queue_error.specs.declared.error.SegmentAddress.{SegmentAddress}
use Rattle.queue_error.specs.declared.error.SegmentAddress.TheVariants as segment
use Rattle.queue_error.specs.declared.rule.Rule.{Rule}
use Rattle.queue_error.specs.declared.rule.Rule.TheVariants.{A5}
use Rattle.executor.specs.Limits.{budget}

-- what comes of a turn: the item goes on, it arrives at a barrier, it has ended, or it broke a rule, by an access to an
-- address or by none
pub data Act : Type 0 where
  goes_on : Item → Contents → Act
  arrives : Item → Contents → Act
  ends : Contents → Act
  broke : Rule → Option SegmentAddress → Act

-- the item with other registers, at the next step
abbrev pub onward : Item → Registers → Item
onward i r = record { registers = r; next = i.next + 1 }

-- a load from an address goes on with the value that it saw, extended as its type says
abbrev pub after_load : Item → Contents → AnyRegister → NumberType → SegmentAddress → Result ℕ Rule → Act
after_load i m target kind address (Ok value) = goes_on (onward i (with_any i.registers target (converted kind kind value))) m
after_load i m target kind address (Err rule) = broke rule (Some address)

-- a store to one goes on with what is then written
abbrev pub after_store : Item → Contents → SegmentAddress → Result (ℕ → Option ℕ) Rule → Act
after_store i m address (Ok written) = goes_on (onward i i.registers) (record m { written = written })
after_store i m address (Err rule) = broke rule (Some address)

-- one to group memory goes on with its bytes then
abbrev pub after_group_store : Item → Contents → SegmentAddress → Result (List ℕ) Rule → Act
after_group_store i m address (Ok group) = goes_on (onward i i.registers) (record m { group = group })
after_group_store i m address (Err rule) = broke rule (Some address)

-- an atomic operation goes on with the old value in its target, and in its place what it leaves
abbrev pub after_atomic32 : Item → Contents → AtomicStep (Source ℕ) → Result (List ℕ) Rule → Act
after_atomic32 i m s (Ok bytes) =
    let old = little_number 4 bytes in
    goes_on (onward i (told32 i.registers s.target old))
    (left32 m (place_of i.registers s.pointer) (replacing32 i.registers s.operation old))
after_atomic32 i m s (Err rule) = broke rule (Some (place_of i.registers s.pointer))

abbrev pub after_atomic64 : Item → Contents → AtomicStep (Source ℕ) → Result (List ℕ) Rule → Act
after_atomic64 i m s (Ok bytes) =
    let old = little_number 8 bytes in
    goes_on (onward i (told64 i.registers s.target old))
    (left64 m (place_of i.registers s.pointer) (replacing64 i.registers s.operation old))
after_atomic64 i m s (Err rule) = broke rule (Some (place_of i.registers s.pointer))

-- PRM, Arithmetic Operations; Conversion (cvt) Operation; Load (ld) Operation; Store (st) Operation; Atomic Memory
-- Operations; Branch Operations; Barrier Operations; Dispatch Packet Operations
abbrev pub act : Surroundings → Item → Contents → Step → Act
act a i m (step.Control s) = goes_on (onward i (with1 i.registers s.target (value1 i.registers s.operation))) m
act a i m (step.Single s) = goes_on (onward i (with32 i.registers s.target (value32 i.registers s.operation))) m
act a i m (step.Double s) = goes_on (onward i (with64 i.registers s.target (value64 i.registers s.operation))) m
act a i m (step.Convert c) =
    goes_on (onward i (with_any i.registers c.target (converted c.from c.to (read_any i.registers c.source)))) m
act a i m (step.Argument l) =
    goes_on (onward i (with_any i.registers l.target
    (converted l.kind l.kind (little_number (number_bytes l.kind) (drop l.offset a.arguments))))) m
act a i m (step.Load l) =
    let address = address_of i.registers l.pointer in
    after_load i m l.target l.kind (segment.Global address) (loaded a.view m.written address (number_bytes l.kind))
act a i m (step.Store s) =
    let address = address_of i.registers s.pointer in
    after_store i m (segment.Global address) (stored a.view m.written address (number_bytes s.kind) (read_any i.registers s.source))
act a i m (step.LoadGroup l) =
    let address = group_address_of i.registers l.pointer in
    after_load i m l.target l.kind (segment.Group address) (group_loaded m.group address (number_bytes l.kind))
act a i m (step.StoreGroup s) =
    let address = group_address_of i.registers s.pointer in
    after_group_store i m (segment.Group address)
    (group_stored m.group address (number_bytes s.kind) (read_any i.registers s.source))
act a i m (step.Atomic32 s) = after_atomic32 i m s (bytes_found a.view m (place_of i.registers s.pointer) 4)
act a i m (step.Atomic64 s) = after_atomic64 i m s (bytes_found a.view m (place_of i.registers s.pointer) 8)
act a i m (step.Branch next) = goes_on (record i { next = next }) m
act a i m (step.ConditionalBranch b) =
    goes_on (record i { next = if read1 i.registers b.condition then b.next else i.next + 1 }) m
act a i m step.Return = ends m
act a i m step.Barrier = arrives (onward i i.registers) m
act a i m (step.WorkItemQuery q) =
    goes_on (onward i (with_any i.registers q.target (answer a.location q.query q.dimension))) m

-- the turn of an item at a step, or behind the last of them, where it ends without a step (own); an item that
-- executed 65,536 instructions and has not ended breaks A5, by no access (own)
abbrev pub turn_at : Surroundings → Item → ℕ → Contents → Option Step → Act
turn_at a i executed m None = ends m
turn_at a i executed m (Some s) = if executed == budget then broke A5 None else act a i m s

abbrev pub turn : Surroundings → List Step → Item → ℕ → Contents → Act
turn a steps i executed m = turn_at a i executed m (slice_get steps i.next)
