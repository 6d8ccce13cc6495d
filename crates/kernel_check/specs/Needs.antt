-- What the step of an operation needs of it (PRM, the chapters on instructions): registers and sources of the classes
-- that the step has at their places, an address, a label or a dimension where the step has one, and a width for which
-- there are such steps. Which types a row has is the row's (`IsOfRow` of `hsail_reader`), and that names, addresses and
-- numbers stand for something is the check's (`IsFaithful`).
use Rattle.std.specs.Prelude.{Bool, true, false, not, ◌&&◌, ◌||◌, ◌==◌}
use Rattle.kernel_check.specs.Causes.{is_same_segment}
use Rattle.kernel_check.specs.Operands.{is_same_class}
use Rattle.hsail_reader.specs.Types.{type_bits, type_class}
use Rattle.hsail_reader.specs.declared.module.Operand.{Operand}
use Rattle.hsail_reader.specs.declared.module.Operand.TheVariants as operand
use Rattle.hsail_reader.specs.declared.module.Operands.{Operands}
use Rattle.hsail_reader.specs.declared.module.Operation.{Operation}
use Rattle.hsail_reader.specs.declared.rows.Form.{Form}
use Rattle.hsail_reader.specs.declared.rows.Form.TheVariants as form
use Rattle.hsail_reader.specs.declared.types.AtomicOperation.{AtomicOperation}
use Rattle.hsail_reader.specs.declared.types.AtomicOperation.TheVariants as atomic
use Rattle.hsail_reader.specs.declared.types.BinaryOperation.{BinaryOperation}
use Rattle.hsail_reader.specs.declared.types.BinaryOperation.TheVariants.{And, Or, Xor, ShiftLeft, ShiftRight, Compare}
use Rattle.hsail_reader.specs.declared.types.DataType.{DataType}
use Rattle.hsail_reader.specs.declared.types.RegisterClass.{RegisterClass}
use Rattle.hsail_reader.specs.declared.types.RegisterClass.TheVariants as class
use Rattle.hsail_reader.specs.declared.types.Segment.TheVariants as segment
use Rattle.hsail_reader.specs.declared.types.TernaryOperation.TheVariants.{MultiplyAdd, ConditionalMove}
use Rattle.hsail_reader.specs.declared.types.UnaryOperation.TheVariants.{Convert}

-- a register to set, at a type of this class
abbrev pub is_set : RegisterClass → Operand → Bool
is_set c (operand.Target t) = is_same_class (type_class t.kind) c
is_set c _ = false

-- a source to read, at a type of this class
abbrev pub is_read : RegisterClass → Operand → Bool
is_read c (operand.Source s) = is_same_class (type_class s.kind) c
is_read c _ = false

-- an address to load from
abbrev pub is_loaded : Operand → Bool
is_loaded (operand.Address a) = true
is_loaded _ = false

-- an address to write to, which the arguments have none of
abbrev pub is_written : Operand → Bool
is_written (operand.Address a) = not (is_same_segment a.segment segment.Kernarg)
is_written _ = false

abbrev pub is_label : Operand → Bool
is_label (operand.Label x) = true
is_label _ = false

abbrev pub is_dimension : Operand → Bool
is_dimension (operand.Dimension n) = true
is_dimension _ = false

-- the types of 32 and 64 bits
abbrev pub is_wide : DataType → Bool
is_wide t = (type_bits t == 32) || (type_bits t == 64)

-- these, and that of one bit
abbrev pub is_whole : DataType → Bool
is_whole t = (type_bits t == 1) || is_wide t

-- the types of the operations with two sources: of one bit are and, or, xor and the comparisons
abbrev pub has_type : BinaryOperation → DataType → Bool
has_type And t = is_whole t
has_type Or t = is_whole t
has_type Xor t = is_whole t
has_type (Compare c) t = is_whole t
has_type _ t = is_wide t

-- the answer of a comparison has one bit
abbrev pub answer_class : BinaryOperation → DataType → RegisterClass
answer_class (Compare c) t = class.Control
answer_class _ t = type_class t

-- the count of a shift has 32 bits
abbrev pub second_class : BinaryOperation → DataType → RegisterClass
second_class ShiftLeft t = class.Single
second_class ShiftRight t = class.Single
second_class _ t = type_class t

-- what cas puts in the place of what it expects; other atomic operations have no second source
abbrev pub is_replacement : AtomicOperation → DataType → Operand → Bool
is_replacement atomic.CompareAndSwap t o = is_read (type_class t) o
is_replacement _ t o = true

-- what an operation of a type has for its step, by what it does
abbrev pub has_needed : Form → DataType → Operands → Bool
has_needed (form.Unary (Convert to)) t o = is_set (type_class to) o.first && is_read (type_class t) o.second
has_needed (form.Unary _) t o = is_whole t && is_set (type_class t) o.first && is_read (type_class t) o.second
has_needed (form.Binary f) t o =
    has_type f t && is_set (answer_class f t) o.first && is_read (type_class t) o.second && is_read (second_class f t) o.third
has_needed (form.Ternary MultiplyAdd) t o =
    is_wide t && is_set (type_class t) o.first && is_read (type_class t) o.second && is_read (type_class t) o.third
    && is_read (type_class t) o.fourth
has_needed (form.Ternary ConditionalMove) t o =
    is_whole t && is_set (type_class t) o.first && is_read class.Control o.second && is_read (type_class t) o.third
    && is_read (type_class t) o.fourth
has_needed form.Load t o = is_set (type_class t) o.first && is_loaded o.second
has_needed form.Store t o = is_read (type_class t) o.first && is_written o.second
has_needed (form.Atomic f) t o =
    is_wide t && is_set (type_class t) o.first && is_written o.second && is_read (type_class t) o.third
    && is_replacement f t o.fourth
has_needed (form.AtomicNoReturn f) t o =
    is_wide t && is_written o.first && is_read (type_class t) o.second && is_replacement f t o.third
has_needed form.Branch t o = is_label o.first
has_needed form.ConditionalBranch t o = is_read class.Control o.first && is_label o.second
has_needed form.Return t o = true
has_needed form.Barrier t o = true
has_needed (form.WorkItemQuery q) t o = is_wide t && is_set (type_class t) o.first && is_dimension o.second

-- an operation of which its step has all that it needs
abbrev pub leaves_nothing_out : Operation → Bool
leaves_nothing_out op = has_needed op.form op.kind op.operands
