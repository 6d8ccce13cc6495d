-- The step that an instruction comes to. Where nothing is wrong with the instruction, each register's
-- number is below 64, each constant fits its place and each name stands for something (the law
-- `law_steps_are_faithful`), so the zeros below never come in. An operation, of whatever module, is of a row of the table
-- (the law `operations_are_of_rows` of `hsail_reader`), and has what its step needs (the law
-- `law_steps_have_what_they_need`), so neither do the moves, the returns and what else stands for an operation that hasn't.
use Rattle.std.specs.Prelude.{ℕ, ◌+◌, ◌%◌, ◌^◌, List, [], ◌∷◌, Bool, true, false, ◌==◌, nat_lt, if◌then◌else◌, Option, Some, None, unwrap_or}
use Rattle.kernel_check.specs.Constants.{constant_bits}
use Rattle.kernel_check.specs.declared.layout.Placed.{Placed}
use Rattle.kernel_check.specs.declared.step.AddressForms.{AddressForms}
use Rattle.kernel_check.specs.declared.step.AnyRegister.{AnyRegister}
use Rattle.kernel_check.specs.declared.step.AnyRegister.TheVariants as register
use Rattle.kernel_check.specs.declared.step.AnySource.{AnySource}
use Rattle.kernel_check.specs.declared.step.AnySource.TheVariants as any
use Rattle.kernel_check.specs.declared.step.AtomicChange.{AtomicChange}
use Rattle.kernel_check.specs.declared.step.AtomicChange.TheVariants as change
use Rattle.kernel_check.specs.declared.step.AtomicPointer.{AtomicPointer}
use Rattle.kernel_check.specs.declared.step.AtomicPointer.TheVariants as places
use Rattle.kernel_check.specs.declared.step.ControlOperation.{ControlOperation}
use Rattle.kernel_check.specs.declared.step.ControlOperation.TheVariants as control
use Rattle.kernel_check.specs.declared.step.Dimension.{Dimension}
use Rattle.kernel_check.specs.declared.step.Dimension.TheVariants.{X, Y, Z}
use Rattle.kernel_check.specs.declared.step.DoubleOperation.{DoubleOperation}
use Rattle.kernel_check.specs.declared.step.DoubleOperation.TheVariants as double
use Rattle.kernel_check.specs.declared.step.GroupPointer.{GroupPointer}
use Rattle.kernel_check.specs.declared.step.NumberType.{NumberType}
use Rattle.kernel_check.specs.declared.step.NumberType.TheVariants as number
use Rattle.kernel_check.specs.declared.step.Pair.{Pair}
use Rattle.kernel_check.specs.declared.step.Pointer.{Pointer}
use Rattle.kernel_check.specs.declared.step.Shift64.{Shift64}
use Rattle.kernel_check.specs.declared.step.SingleOperation.{SingleOperation}
use Rattle.kernel_check.specs.declared.step.SingleOperation.TheVariants as single
use Rattle.kernel_check.specs.declared.step.Source.{Source as StepSource}
use Rattle.kernel_check.specs.declared.step.Source.TheVariants as step_source
use Rattle.kernel_check.specs.declared.step.Step.{Step}
use Rattle.kernel_check.specs.declared.step.Step.TheVariants as step
use Rattle.hsail_reader.specs.Types.{type_class}
use Rattle.hsail_reader.specs.declared.module.Address.{Address}
use Rattle.hsail_reader.specs.declared.module.Address.TheVariants as address
use Rattle.kernel_check.specs.declared.memory.Atomic.{Atomic}
use Rattle.kernel_check.specs.declared.translate.Binary.{Binary}
use Rattle.hsail_reader.specs.declared.module.Access.{Access}
use Rattle.hsail_reader.specs.declared.module.Operand.{Operand}
use Rattle.hsail_reader.specs.declared.module.Operand.TheVariants as operand
use Rattle.hsail_reader.specs.declared.module.Operation.{Operation}
use Rattle.hsail_reader.specs.declared.module.TypedSource.{TypedSource}
use Rattle.hsail_reader.specs.declared.rows.Form.{Form}
use Rattle.hsail_reader.specs.declared.rows.Form.TheVariants as form
use Rattle.hsail_reader.specs.declared.module.SegmentPlace.{SegmentPlace}
use Rattle.hsail_reader.specs.declared.module.SegmentPlace.TheVariants as place
use Rattle.kernel_check.specs.declared.translate.Ternary.{Ternary}
use Rattle.kernel_check.specs.declared.translate.Unary.{Unary}
use Rattle.hsail_reader.specs.declared.types.AtomicOperation.{AtomicOperation}
use Rattle.hsail_reader.specs.declared.types.AtomicOperation.TheVariants as atomic
use Rattle.hsail_reader.specs.declared.types.BinaryOperation.{BinaryOperation}
use Rattle.hsail_reader.specs.declared.types.BinaryOperation.TheVariants.{Add, Subtract, Multiply, Divide, Remainder, Minimum, Maximum, And, Or, Xor, ShiftLeft, ShiftRight, Compare}
use Rattle.hsail_reader.specs.declared.types.Comparison.{Comparison}
use Rattle.hsail_reader.specs.declared.types.Constant.{Constant}
use Rattle.hsail_reader.specs.declared.types.DataType.{DataType}
use Rattle.hsail_reader.specs.declared.types.DataType.TheVariants.{B1, B8, B16, B32, B64, U8, U16, U32, U64, S8, S16, S32, S64}
use Rattle.hsail_reader.specs.declared.types.Register.{Register}
use Rattle.hsail_reader.specs.declared.types.RegisterClass.{RegisterClass}
use Rattle.hsail_reader.specs.declared.types.RegisterClass.TheVariants as class
use Rattle.hsail_reader.specs.declared.types.Segment.{Segment}
use Rattle.hsail_reader.specs.declared.types.Segment.TheVariants as segment
use Rattle.hsail_reader.specs.declared.types.Source.{Source}
use Rattle.hsail_reader.specs.declared.types.Source.TheVariants as source
use Rattle.hsail_reader.specs.declared.types.TernaryOperation.{TernaryOperation}
use Rattle.hsail_reader.specs.declared.types.TernaryOperation.TheVariants.{MultiplyAdd, ConditionalMove}
use Rattle.hsail_reader.specs.declared.types.UnaryOperation.{UnaryOperation}
use Rattle.hsail_reader.specs.declared.types.UnaryOperation.TheVariants.{Not, Convert}
use Rattle.kernel_check.specs.Limits.{greatest_register}

-- ---- types

-- the type of a number in memory; a b type is that of its width without a sign (own)
abbrev pub number_type : DataType → NumberType
number_type B1 = number.B1
number_type B8 = number.U8
number_type B16 = number.U16
number_type B32 = number.U32
number_type B64 = number.U64
number_type U8 = number.U8
number_type U16 = number.U16
number_type U32 = number.U32
number_type U64 = number.U64
number_type S8 = number.S8
number_type S16 = number.S16
number_type S32 = number.S32
number_type S64 = number.S64

-- the bytes that a number takes in memory (PRM, Base Data Types)
abbrev pub number_bytes : NumberType → ℕ
number_bytes number.B1 = 1
number_bytes number.U8 = 1
number_bytes number.U16 = 2
number_bytes number.U32 = 4
number_bytes number.U64 = 8
number_bytes number.S8 = 1
number_bytes number.S16 = 2
number_bytes number.S32 = 4
number_bytes number.S64 = 8

abbrev pub is_signed : DataType → Bool
is_signed S8 = true
is_signed S16 = true
is_signed S32 = true
is_signed S64 = true
is_signed _ = false

-- ---- operands

-- a register by its number
abbrev pub register_number : Register → ℕ
register_number r = if nat_lt greatest_register r.number then 0 else r.number

abbrev pub register_in : RegisterClass → Register → AnyRegister
register_in class.Control r = register.Control (register_number r)
register_in class.Single r = register.Single (register_number r)
register_in class.Double r = register.Double (register_number r)

-- the register of a value of a type
abbrev pub register_of : DataType → Register → AnyRegister
register_of kind r = register_in (type_class kind) r

-- a constant at its type, as a source of 1 bit has it, and one of 32; one of 64 has all its bits
abbrev pub one_bit : DataType → Constant → Bool
one_bit kind c = constant_bits kind c == 1

abbrev pub low_bits : DataType → Constant → ℕ
low_bits kind c = constant_bits kind c % 2 ^ 32

-- sources: registers, and constants at their types
abbrev pub source_at : {N : Type 0} → (DataType → Constant → N) → DataType → Source → StepSource N
source_at bits kind (source.Register r) = step_source.Register (register_number r)
source_at bits kind (source.Constant c) = step_source.Constant (bits kind c)

abbrev pub source1_of : TypedSource → StepSource Bool
source1_of t = source_at one_bit t.kind t.source

abbrev pub source32_of : TypedSource → StepSource ℕ
source32_of t = source_at low_bits t.kind t.source

abbrev pub source64_of : TypedSource → StepSource ℕ
source64_of t = source_at constant_bits t.kind t.source

abbrev pub source_in : RegisterClass → TypedSource → AnySource
source_in class.Control t = any.Control (source1_of t)
source_in class.Single t = any.Single (source32_of t)
source_in class.Double t = any.Double (source64_of t)

abbrev pub source_of : TypedSource → AnySource
source_of t = source_in (type_class t.kind) t

-- the addresses that a segment has (PRM, Address Expressions): [%x]; [n] and [r+n], for base registers r of a
-- class; [%x][..], with one of these in the second brackets
abbrev pub forms_of : Segment → AddressForms
forms_of segment.Kernarg = record { variable = true; base = None; indexed = false }
forms_of segment.Global = record { variable = false; base = Some class.Double; indexed = false }
forms_of segment.Group = record { variable = true; base = Some class.Single; indexed = true }

-- a place of global memory; what is taken away is added modulo 2^64
abbrev pub pointer_of : SegmentPlace → Pointer
pointer_of (place.Absolute n) = record { base = None; offset = n }
pointer_of (place.Relative r) =
    record { base = Some (register_number r.register); offset = constant_bits U64 r.offset }

abbrev pub pointer_in : Address → Pointer
pointer_in (address.Place p) = pointer_of p
pointer_in _ = record { base = None; offset = 0 }

-- where a known variable lies
abbrev pub known_offset : Option Placed → ℕ
known_offset None = 0
known_offset (Some p) = p.offset

abbrev pub offset_of : (List ℕ → Option Placed) → Address → ℕ
offset_of variables (address.Variable x) = known_offset (variables x)
offset_of variables _ = 0

-- a place of group memory, counted from a number of bytes; sums wrap at 2^32 (own)
abbrev pub group_place : ℕ → SegmentPlace → GroupPointer
group_place start (place.Absolute n) = record { base = None; offset = (start + n) % 2 ^ 32 }
group_place start (place.Relative r) =
    record { base = Some (register_number r.register); offset = (start + constant_bits U64 r.offset) % 2 ^ 32 }

-- a variable stands for where it lies
abbrev pub group_pointer : (List ℕ → Option Placed) → Address → GroupPointer
group_pointer variables (address.Variable x) = record { base = None; offset = known_offset (variables x) }
group_pointer variables (address.Place p) = group_place 0 p
group_pointer variables (address.Indexed i) = group_place (known_offset (variables i.variable)) i.place

-- the dimensions by number
abbrev pub dimension_of : ℕ → Dimension
dimension_of n = if n == 0 then X else if n == 1 then Y else Z

-- the number of the step behind a label
abbrev pub next_of : (List ℕ → Option ℕ) → List ℕ → ℕ
next_of labels x = unwrap_or (labels x) 0

-- ---- operations by how many sources they have

-- the register that an operand is, and the source
abbrev pub target_in : Operand → Register
target_in (operand.Target t) = t.register
target_in _ = record { class = class.Control; number = 0 }

abbrev pub read_in : Operand → TypedSource
read_in (operand.Source s) = s
read_in _ = record { kind = B1; source = source.Constant (record { negative = false; magnitude = 0 }) }

abbrev pub as_unary : UnaryOperation → Operation → Unary
as_unary f op = record {
  operation = f;
  kind = op.kind;
  target = target_in op.operands.first;
  source = read_in op.operands.second;
}

abbrev pub as_binary : BinaryOperation → Operation → Binary
as_binary f op = record {
  operation = f;
  kind = op.kind;
  target = target_in op.operands.first;
  left = read_in op.operands.second;
  right = read_in op.operands.third;
}

abbrev pub as_ternary : TernaryOperation → Operation → Ternary
as_ternary f op = record {
  operation = f;
  kind = op.kind;
  target = target_in op.operands.first;
  first = read_in op.operands.second;
  second = read_in op.operands.third;
  third = read_in op.operands.fourth;
}

-- ---- steps that set a register

abbrev pub sets1 : ℕ → ControlOperation → Step
sets1 target op = step.Control (record { target = target; operation = op })

abbrev pub sets32 : ℕ → SingleOperation → Step
sets32 target op = step.Single (record { target = target; operation = op })

abbrev pub sets64 : ℕ → DoubleOperation → Step
sets64 target op = step.Double (record { target = target; operation = op })

-- mov and not by the class of their type
abbrev pub unary_in : RegisterClass → UnaryOperation → ℕ → TypedSource → Step
unary_in class.Control Not target s = sets1 target (control.Not (source1_of s))
unary_in class.Control _ target s = sets1 target (control.Move (source1_of s))
unary_in class.Single Not target s = sets32 target (single.Not (source32_of s))
unary_in class.Single _ target s = sets32 target (single.Move (source32_of s))
unary_in class.Double Not target s = sets64 target (double.Not (source64_of s))
unary_in class.Double _ target s = sets64 target (double.Move (source64_of s))

abbrev pub unary_by : UnaryOperation → Unary → Step
unary_by (Convert to) u = step.Convert (record {
  from = number_type u.source.kind;
  to = number_type to;
  target = register_of to u.target;
  source = source_of u.source;
})
unary_by op u = unary_in (type_class u.kind) op (register_number u.target) u.source

abbrev pub unary_of : Unary → Step
unary_of u = unary_by u.operation u

-- the operations of one bit
abbrev pub control_operation : BinaryOperation → Pair (StepSource Bool) → ControlOperation
control_operation And p = control.And p
control_operation Or p = control.Or p
control_operation Xor p = control.Xor p
control_operation (Compare c) p = control.Compare (record { comparison = c; left = p.left; right = p.right })
control_operation _ p = control.Move p.left

-- the operations of 32 bits, for types with a sign and without
abbrev pub single_operation : BinaryOperation → Bool → Pair (StepSource ℕ) → SingleOperation
single_operation Add signed p = single.Add p
single_operation Subtract signed p = single.Subtract p
single_operation Multiply signed p = single.Multiply p
single_operation Divide false p = single.DivideUnsigned p
single_operation Divide true p = single.DivideSigned p
single_operation Remainder false p = single.RemainderUnsigned p
single_operation Remainder true p = single.RemainderSigned p
single_operation Minimum false p = single.LeastUnsigned p
single_operation Minimum true p = single.LeastSigned p
single_operation Maximum false p = single.GreatestUnsigned p
single_operation Maximum true p = single.GreatestSigned p
single_operation And signed p = single.And p
single_operation Or signed p = single.Or p
single_operation Xor signed p = single.Xor p
single_operation ShiftLeft signed p = single.ShiftLeft p
single_operation ShiftRight false p = single.ShiftRightUnsigned p
single_operation ShiftRight true p = single.ShiftRightSigned p
single_operation (Compare c) signed p = single.Move p.left

-- the operations of 64 bits, for types with a sign and without
abbrev pub double_operation : BinaryOperation → Bool → Pair (StepSource ℕ) → Shift64 → DoubleOperation
double_operation Add signed p s = double.Add p
double_operation Subtract signed p s = double.Subtract p
double_operation Multiply signed p s = double.Multiply p
double_operation Divide false p s = double.DivideUnsigned p
double_operation Divide true p s = double.DivideSigned p
double_operation Remainder false p s = double.RemainderUnsigned p
double_operation Remainder true p s = double.RemainderSigned p
double_operation Minimum false p s = double.LeastUnsigned p
double_operation Minimum true p s = double.LeastSigned p
double_operation Maximum false p s = double.GreatestUnsigned p
double_operation Maximum true p s = double.GreatestSigned p
double_operation And signed p s = double.And p
double_operation Or signed p s = double.Or p
double_operation Xor signed p s = double.Xor p
double_operation ShiftLeft signed p s = double.ShiftLeft s
double_operation ShiftRight false p s = double.ShiftRightUnsigned s
double_operation ShiftRight true p s = double.ShiftRightSigned s
double_operation (Compare c) signed p s = double.Move p.left

-- cmp of 32 bits
abbrev pub compare32 : Comparison → Bool → Pair (StepSource ℕ) → ControlOperation
compare32 c false p = control.CompareUnsigned32 (record { comparison = c; left = p.left; right = p.right })
compare32 c true p = control.CompareSigned32 (record { comparison = c; left = p.left; right = p.right })

-- cmp of 64 bits
abbrev pub compare64 : Comparison → Bool → Pair (StepSource ℕ) → ControlOperation
compare64 c false p = control.CompareUnsigned64 (record { comparison = c; left = p.left; right = p.right })
compare64 c true p = control.CompareSigned64 (record { comparison = c; left = p.left; right = p.right })

abbrev pub binary1 : Binary → Step
binary1 b = sets1 (register_number b.target)
    (control_operation b.operation (record { left = source1_of b.left; right = source1_of b.right }))

abbrev pub binary32 : BinaryOperation → Bool → ℕ → Pair (StepSource ℕ) → Step
binary32 (Compare c) signed target p = sets1 target (compare32 c signed p)
binary32 op signed target p = sets32 target (single_operation op signed p)

abbrev pub binary64 : BinaryOperation → Bool → ℕ → Pair (StepSource ℕ) → Shift64 → Step
binary64 (Compare c) signed target p s = sets1 target (compare64 c signed p)
binary64 op signed target p s = sets64 target (double_operation op signed p s)

abbrev pub pair32_of : Binary → Pair (StepSource ℕ)
pair32_of b = record { left = source32_of b.left; right = source32_of b.right }

abbrev pub pair64_of : Binary → Pair (StepSource ℕ)
pair64_of b = record { left = source64_of b.left; right = source64_of b.right }

-- the count of a shift has 32 bits
abbrev pub shift64_of : Binary → Shift64
shift64_of b = record { value = source64_of b.left; count = source32_of b.right }

abbrev pub binary_in : RegisterClass → Binary → Step
binary_in class.Control b = binary1 b
binary_in class.Single b = binary32 b.operation (is_signed b.kind) (register_number b.target) (pair32_of b)
binary_in class.Double b =
    binary64 b.operation (is_signed b.kind) (register_number b.target) (pair64_of b) (shift64_of b)

abbrev pub binary_of : Binary → Step
binary_of b = binary_in (type_class b.kind) b

-- mad and cmov, whose condition is one bit, by the class of their type
abbrev pub ternary_in : RegisterClass → TernaryOperation → Ternary → Step
ternary_in class.Control MultiplyAdd t = sets1 (register_number t.target) (control.Move (source1_of t.first))
ternary_in class.Control ConditionalMove t = sets1 (register_number t.target)
    (control.Choose (record { condition = source1_of t.first; one = source1_of t.second; zero = source1_of t.third }))
ternary_in class.Single MultiplyAdd t = sets32 (register_number t.target)
    (single.MultiplyAdd (record { first = source32_of t.first; second = source32_of t.second; third = source32_of t.third }))
ternary_in class.Single ConditionalMove t = sets32 (register_number t.target)
    (single.Choose (record { condition = source1_of t.first; one = source32_of t.second; zero = source32_of t.third }))
ternary_in class.Double MultiplyAdd t = sets64 (register_number t.target)
    (double.MultiplyAdd (record { first = source64_of t.first; second = source64_of t.second; third = source64_of t.third }))
ternary_in class.Double ConditionalMove t = sets64 (register_number t.target)
    (double.Choose (record { condition = source1_of t.first; one = source64_of t.second; zero = source64_of t.third }))

abbrev pub ternary_of : Ternary → Step
ternary_of t = ternary_in (type_class t.kind) t.operation t

-- ---- the other steps

abbrev pub load_from : (List ℕ → Option Placed) → Segment → Register → Access → Step
load_from variables segment.Kernarg d a = step.Argument (record {
  kind = number_type a.kind;
  target = register_of a.kind d;
  offset = offset_of variables a.address;
})
load_from variables segment.Global d a = step.Load (record {
  kind = number_type a.kind;
  target = register_of a.kind d;
  pointer = pointer_in a.address;
})
load_from variables segment.Group d a = step.LoadGroup (record {
  kind = number_type a.kind;
  target = register_of a.kind d;
  pointer = group_pointer variables a.address;
})

abbrev pub load_at : (List ℕ → Option Placed) → Register → Operand → Step
load_at variables d (operand.Address a) = load_from variables a.segment d a
load_at variables d _ = step.Return

abbrev pub store_from : (List ℕ → Option Placed) → Segment → TypedSource → Access → Step
store_from variables segment.Group s a = step.StoreGroup (record {
  kind = number_type s.kind;
  source = source_of s;
  pointer = group_pointer variables a.address;
})
store_from variables _ s a = step.Store (record {
  kind = number_type s.kind;
  source = source_of s;
  pointer = pointer_in a.address;
})

abbrev pub store_at : (List ℕ → Option Placed) → TypedSource → Operand → Step
store_at variables s (operand.Address a) = store_from variables a.segment s a
store_at variables s _ = step.Return

-- ---- atomic operations

-- the place of one in its segment
abbrev pub atomic_pointer : (List ℕ → Option Placed) → Segment → Address → AtomicPointer
atomic_pointer variables segment.Group a = places.Group (group_pointer variables a)
atomic_pointer variables _ a = places.Global (pointer_in a)

-- the operations on sources of a width, for types with a sign and without
abbrev pub change_of : {S : Type 0} → AtomicOperation → Bool → S → S → AtomicChange S
change_of atomic.Add signed s r = change.Add s
change_of atomic.Subtract signed s r = change.Subtract s
change_of atomic.Minimum false s r = change.LeastUnsigned s
change_of atomic.Minimum true s r = change.LeastSigned s
change_of atomic.Maximum false s r = change.GreatestUnsigned s
change_of atomic.Maximum true s r = change.GreatestSigned s
change_of atomic.And signed s r = change.And s
change_of atomic.Or signed s r = change.Or s
change_of atomic.Xor signed s r = change.Xor s
change_of atomic.Exchange signed s r = change.Exchange s
change_of atomic.CompareAndSwap signed s r = change.CompareAndSwap (record { expected = s; replacement = r })

-- atomic has its target first, its address second and its sources behind them
abbrev pub as_atomic : AtomicOperation → Operation → Atomic
as_atomic f op = record {
  operation = f;
  kind = op.kind;
  target = Some (register_number (target_in op.operands.first));
  first = read_in op.operands.third;
  second = read_in op.operands.fourth;
}

-- atomicnoret has its address first
abbrev pub as_no_return : AtomicOperation → Operation → Atomic
as_no_return f op = record {
  operation = f;
  kind = op.kind;
  target = None;
  first = read_in op.operands.second;
  second = read_in op.operands.third;
}

abbrev pub atomic_in : RegisterClass → Atomic → AtomicPointer → Step
atomic_in class.Double a p = step.Atomic64 (record {
  target = a.target;
  pointer = p;
  operation = change_of a.operation (is_signed a.kind) (source64_of a.first) (source64_of a.second);
})
atomic_in _ a p = step.Atomic32 (record {
  target = a.target;
  pointer = p;
  operation = change_of a.operation (is_signed a.kind) (source32_of a.first) (source32_of a.second);
})

abbrev pub atomic_at : (List ℕ → Option Placed) → Atomic → Operand → Step
atomic_at variables a (operand.Address x) =
    atomic_in (type_class a.kind) a (atomic_pointer variables x.segment x.address)
atomic_at variables a _ = step.Return

-- ---- branches and places in the grid

abbrev pub next_at : (List ℕ → Option ℕ) → Operand → ℕ
next_at labels (operand.Label x) = next_of labels x
next_at labels _ = 0

abbrev pub dimension_in : Operand → Dimension
dimension_in (operand.Dimension n) = dimension_of n
dimension_in _ = X

-- the step of an operation by what it does
abbrev pub form_step : (List ℕ → Option Placed) → (List ℕ → Option ℕ) → Form → Operation → Step
form_step variables labels (form.Unary f) op = unary_of (as_unary f op)
form_step variables labels (form.Binary f) op = binary_of (as_binary f op)
form_step variables labels (form.Ternary f) op = ternary_of (as_ternary f op)
form_step variables labels form.Load op = load_at variables (target_in op.operands.first) op.operands.second
form_step variables labels form.Store op = store_at variables (read_in op.operands.first) op.operands.second
form_step variables labels (form.Atomic f) op = atomic_at variables (as_atomic f op) op.operands.second
form_step variables labels (form.AtomicNoReturn f) op = atomic_at variables (as_no_return f op) op.operands.first
form_step variables labels form.Branch op = step.Branch (next_at labels op.operands.first)
form_step variables labels form.ConditionalBranch op = step.ConditionalBranch
    (record { condition = source1_of (read_in op.operands.first); next = next_at labels op.operands.second })
form_step variables labels form.Return op = step.Return
form_step variables labels form.Barrier op = step.Barrier
form_step variables labels (form.WorkItemQuery q) op = step.WorkItemQuery (record {
  query = q;
  target = register_of op.kind (target_in op.operands.first);
  dimension = dimension_in op.operands.second;
})

-- the step that an instruction comes to, by what the kernel's names stand for
abbrev pub step_of : (List ℕ → Option Placed) → (List ℕ → Option ℕ) → Operation → Step
step_of variables labels op = form_step variables labels op.form op

-- ---- what a step reads and sets

abbrev pub two : {S : Type 0} → (S → AnySource) → S → S → List AnySource
two of_width left right = of_width left ∷ of_width right ∷ []

-- what the operations of one bit read, in order
abbrev pub control_reads : ControlOperation → List AnySource
control_reads (control.Move s) = any.Control s ∷ []
control_reads (control.Not s) = any.Control s ∷ []
control_reads (control.And p) = two any.Control p.left p.right
control_reads (control.Or p) = two any.Control p.left p.right
control_reads (control.Xor p) = two any.Control p.left p.right
control_reads (control.Choose c) = any.Control c.condition ∷ two any.Control c.one c.zero
control_reads (control.Compare c) = two any.Control c.left c.right
control_reads (control.CompareUnsigned32 c) = two any.Single c.left c.right
control_reads (control.CompareSigned32 c) = two any.Single c.left c.right
control_reads (control.CompareUnsigned64 c) = two any.Double c.left c.right
control_reads (control.CompareSigned64 c) = two any.Double c.left c.right

-- what those of 32 bits read
abbrev pub single_reads : SingleOperation → List AnySource
single_reads (single.Move s) = any.Single s ∷ []
single_reads (single.Not s) = any.Single s ∷ []
single_reads (single.MultiplyAdd t) = any.Single t.first ∷ two any.Single t.second t.third
single_reads (single.Choose c) = any.Control c.condition ∷ two any.Single c.one c.zero
single_reads (single.Add p) = two any.Single p.left p.right
single_reads (single.Subtract p) = two any.Single p.left p.right
single_reads (single.Multiply p) = two any.Single p.left p.right
single_reads (single.DivideUnsigned p) = two any.Single p.left p.right
single_reads (single.DivideSigned p) = two any.Single p.left p.right
single_reads (single.RemainderUnsigned p) = two any.Single p.left p.right
single_reads (single.RemainderSigned p) = two any.Single p.left p.right
single_reads (single.LeastUnsigned p) = two any.Single p.left p.right
single_reads (single.LeastSigned p) = two any.Single p.left p.right
single_reads (single.GreatestUnsigned p) = two any.Single p.left p.right
single_reads (single.GreatestSigned p) = two any.Single p.left p.right
single_reads (single.And p) = two any.Single p.left p.right
single_reads (single.Or p) = two any.Single p.left p.right
single_reads (single.Xor p) = two any.Single p.left p.right
single_reads (single.ShiftLeft p) = two any.Single p.left p.right
single_reads (single.ShiftRightUnsigned p) = two any.Single p.left p.right
single_reads (single.ShiftRightSigned p) = two any.Single p.left p.right

-- what those of 64 bits read
abbrev pub double_reads : DoubleOperation → List AnySource
double_reads (double.Move s) = any.Double s ∷ []
double_reads (double.Not s) = any.Double s ∷ []
double_reads (double.MultiplyAdd t) = any.Double t.first ∷ two any.Double t.second t.third
double_reads (double.Choose c) = any.Control c.condition ∷ two any.Double c.one c.zero
double_reads (double.Add p) = two any.Double p.left p.right
double_reads (double.Subtract p) = two any.Double p.left p.right
double_reads (double.Multiply p) = two any.Double p.left p.right
double_reads (double.DivideUnsigned p) = two any.Double p.left p.right
double_reads (double.DivideSigned p) = two any.Double p.left p.right
double_reads (double.RemainderUnsigned p) = two any.Double p.left p.right
double_reads (double.RemainderSigned p) = two any.Double p.left p.right
double_reads (double.LeastUnsigned p) = two any.Double p.left p.right
double_reads (double.LeastSigned p) = two any.Double p.left p.right
double_reads (double.GreatestUnsigned p) = two any.Double p.left p.right
double_reads (double.GreatestSigned p) = two any.Double p.left p.right
double_reads (double.And p) = two any.Double p.left p.right
double_reads (double.Or p) = two any.Double p.left p.right
double_reads (double.Xor p) = two any.Double p.left p.right
double_reads (double.ShiftLeft s) = any.Double s.value ∷ any.Single s.count ∷ []
double_reads (double.ShiftRightUnsigned s) = any.Double s.value ∷ any.Single s.count ∷ []
double_reads (double.ShiftRightSigned s) = any.Double s.value ∷ any.Single s.count ∷ []

-- what an atomic operation reads beside memory
abbrev pub change_reads : {S : Type 0} → (S → AnySource) → AtomicChange S → List AnySource
change_reads of_width (change.Add s) = of_width s ∷ []
change_reads of_width (change.Subtract s) = of_width s ∷ []
change_reads of_width (change.LeastUnsigned s) = of_width s ∷ []
change_reads of_width (change.LeastSigned s) = of_width s ∷ []
change_reads of_width (change.GreatestUnsigned s) = of_width s ∷ []
change_reads of_width (change.GreatestSigned s) = of_width s ∷ []
change_reads of_width (change.And s) = of_width s ∷ []
change_reads of_width (change.Or s) = of_width s ∷ []
change_reads of_width (change.Xor s) = of_width s ∷ []
change_reads of_width (change.Exchange s) = of_width s ∷ []
change_reads of_width (change.CompareAndSwap p) = two of_width p.expected p.replacement

-- the sources that a step reads, in order
abbrev pub reads : Step → List AnySource
reads (step.Control s) = control_reads s.operation
reads (step.Single s) = single_reads s.operation
reads (step.Double s) = double_reads s.operation
reads (step.Convert c) = c.source ∷ []
reads (step.Store s) = s.source ∷ []
reads (step.StoreGroup s) = s.source ∷ []
reads (step.Atomic32 a) = change_reads any.Single a.operation
reads (step.Atomic64 a) = change_reads any.Double a.operation
reads (step.ConditionalBranch b) = any.Control b.condition ∷ []
reads _ = []

abbrev pub number_in : AnyRegister → ℕ
number_in (register.Control n) = n
number_in (register.Single n) = n
number_in (register.Double n) = n

-- the number of the register that a step sets
abbrev pub sets : Step → Option ℕ
sets (step.Control s) = Some s.target
sets (step.Single s) = Some s.target
sets (step.Double s) = Some s.target
sets (step.Convert c) = Some (number_in c.target)
sets (step.Argument a) = Some (number_in a.target)
sets (step.Load l) = Some (number_in l.target)
sets (step.LoadGroup l) = Some (number_in l.target)
sets (step.Atomic32 a) = a.target
sets (step.Atomic64 a) = a.target
sets (step.WorkItemQuery i) = Some (number_in i.target)
sets _ = None

-- the sources of an instruction, in the order of the text
abbrev pub sources_of : Form → Operation → List TypedSource
sources_of (form.Unary f) op = read_in op.operands.second ∷ []
sources_of (form.Binary f) op = read_in op.operands.second ∷ read_in op.operands.third ∷ []
sources_of (form.Ternary f) op =
    read_in op.operands.second ∷ read_in op.operands.third ∷ read_in op.operands.fourth ∷ []
sources_of form.Store op = read_in op.operands.first ∷ []
sources_of (form.Atomic f) op = read_in op.operands.third ∷ read_in op.operands.fourth ∷ []
sources_of (form.AtomicNoReturn f) op = read_in op.operands.second ∷ read_in op.operands.third ∷ []
sources_of form.ConditionalBranch op = read_in op.operands.first ∷ []
sources_of _ op = []
