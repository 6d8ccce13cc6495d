-- The table of instructions (PRM, the chapters on instructions; which rows and types there are is (own)), and what
-- its rows name.
use Rattle.std.specs.Prelude.{ℕ, List, [], ◌∷◌, ◌++◌, Bool, true, false, codes}
use Rattle.hsail_reader.specs.Nouns.{DataType, Form, KindAt, Modifier, ModifierEnd, ModifierRow, Modifiers, ModifierSet, Row, Shape, Shapes, TypeSet, All, Number, WaveSize, Bit, Bits, Bits32And64, BitsAndIntegers, Convertible, Integers, Memory, Unsigned32, Unsigned32And64, Untyped}
use Rattle.hsail_reader.specs.declared.rows.Form.TheVariants as form
use Rattle.hsail_reader.specs.declared.rows.KindAt.TheVariants.{Given, Own}
use Rattle.hsail_reader.specs.declared.rows.Shape.TheVariants.{Absent as no, Address, Dimension, Label, Source, Target}
use Rattle.hsail_reader.specs.declared.rows.ModifierEnd.TheVariants as end
use Rattle.hsail_reader.specs.declared.rows.ModifierSet.TheVariants.{Align, AlignAndWidth, OrderAndScope, Plain, Width}
use Rattle.hsail_reader.specs.declared.types.AtomicOperation.TheVariants as atomic
use Rattle.hsail_reader.specs.declared.types.MemoryOrder.TheVariants as order
use Rattle.hsail_reader.specs.declared.types.MemoryScope.TheVariants as scope
use Rattle.hsail_reader.specs.declared.types.Modifier.TheVariants as modifier
use Rattle.hsail_reader.specs.declared.types.Modifiers.TheVariants as modifiers
use Rattle.hsail_reader.specs.declared.types.DataType.TheVariants as type
use Rattle.hsail_reader.specs.declared.types.UnaryOperation.TheVariants as unary
use Rattle.hsail_reader.specs.declared.types.BinaryOperation.TheVariants as binary
use Rattle.hsail_reader.specs.declared.types.TernaryOperation.TheVariants as ternary
use Rattle.hsail_reader.specs.declared.types.Comparison.TheVariants as comparison
use Rattle.hsail_reader.specs.declared.types.Segment.TheVariants as segment
use Rattle.hsail_reader.specs.declared.types.WorkItemQuery.TheVariants as query

-- a row: the front of its words, the modifiers and the types that may stand behind it, what it does, and its
-- operands, each with the type at its place
pub record InstructionRow : Type 0 where
  pub stem : List ℕ
  pub modifiers : ModifierSet
  pub types : TypeSet
  pub form : Form
  pub operands : Shapes

abbrev pub shapes : Shape → Shape → Shape → Shape → Shapes
shapes first second third fourth = record { 0 = first; 1 = second; 2 = third; 3 = fourth }

abbrev pub row : List ℕ → ModifierSet → TypeSet → Form → Shape → Shape → Shape → Shape → InstructionRow
row stem modifiers types form first second third fourth = record {
  stem = stem;
  modifiers = modifiers;
  types = types;
  form = form;
  operands = shapes first second third fourth;
}

-- the types of a set
abbrev pub types_of : TypeSet → List DataType
types_of Bit = type.B1 ∷ []
types_of Bits = type.B1 ∷ type.B32 ∷ type.B64 ∷ []
types_of Bits32And64 = type.B32 ∷ type.B64 ∷ []
types_of Integers = type.U32 ∷ type.S32 ∷ type.U64 ∷ type.S64 ∷ []
types_of BitsAndIntegers =
    type.B1 ∷ type.B32 ∷ type.B64 ∷ type.U32 ∷ type.S32 ∷ type.U64 ∷ type.S64 ∷ []
types_of Convertible =
    type.B1 ∷ type.U8 ∷ type.U16 ∷ type.U32 ∷ type.U64 ∷ type.S8 ∷ type.S16 ∷ type.S32 ∷ type.S64 ∷ []
types_of Memory =
    type.U8 ∷ type.U16 ∷ type.U32 ∷ type.U64 ∷ type.S8 ∷ type.S16 ∷ type.S32 ∷ type.S64
    ∷ type.B8 ∷ type.B16 ∷ type.B32 ∷ type.B64 ∷ []
types_of Unsigned32 = type.U32 ∷ []
types_of Unsigned32And64 = type.U32 ∷ type.U64 ∷ []
types_of Untyped = []

-- how a modifier is spelled: a text, and behind it nothing, or a number and `)`
pub record ModifierSpelling : Type 0 where
  pub text : List ℕ
  pub end : ModifierEnd

abbrev pub spelling : List ℕ → ModifierEnd → ModifierSpelling
spelling text e = record { text = text; end = e }

-- the modifier with this number in its brackets, if it has some
abbrev pub with_number : Modifier → ℕ → Modifier
with_number (modifier.Align _) n = modifier.Align n
with_number (modifier.Width _) n = modifier.Width (Number n)
with_number m n = m

-- the modifiers with brackets (PRM, Width Modifier; Align Modifier): _align(n), and _width(n), _width(all) and
-- _width(WAVESIZE); a word's lexeme has them inside or at its end
abbrev pub bracketed_rows : List ModifierSpelling
bracketed_rows =
    spelling (codes "_align(") (end.Number (modifier.Align 0))
    ∷ spelling (codes "_width(all)") (end.Whole (modifier.Width All))
    ∷ spelling (codes "_width(WAVESIZE)") (end.Whole (modifier.Width WaveSize))
    ∷ spelling (codes "_width(") (end.Number (modifier.Width (Number 0))) ∷ []

-- all modifiers that an instruction's row may name: those, the orders and the scopes of atomic operations (PRM,
-- Memory Order; Memory Scope)
abbrev pub modifier_rows : List ModifierSpelling
modifier_rows =
    bracketed_rows
    ++ spelling (codes "_rlx") (end.Whole (modifier.Order order.Relaxed))
    ∷ spelling (codes "_scacq") (end.Whole (modifier.Order order.Acquire))
    ∷ spelling (codes "_screl") (end.Whole (modifier.Order order.Release))
    ∷ spelling (codes "_scar") (end.Whole (modifier.Order order.AcquireRelease))
    ∷ spelling (codes "_wave") (end.Whole (modifier.Scope scope.Wavefront))
    ∷ spelling (codes "_wg") (end.Whole (modifier.Scope scope.WorkGroup))
    ∷ spelling (codes "_agent") (end.Whole (modifier.Scope scope.Agent))
    ∷ spelling (codes "_system") (end.Whole (modifier.Scope scope.System)) ∷ []

-- a row of the code's table of modifiers, with its text as bytes
abbrev pub modifier_view : ModifierRow → ModifierSpelling
modifier_view r = spelling r.0.now r.1

-- whether a row takes these modifiers, in their order: each at most once, and no others; an atomic operation has
-- an order, and behind it a scope
abbrev pub allows : ModifierSet → Modifiers → Bool
allows Plain modifiers.Plain = true
allows Align modifiers.Plain = true
allows Align (modifiers.One (modifier.Align n)) = true
allows Width modifiers.Plain = true
allows Width (modifiers.One (modifier.Width w)) = true
allows AlignAndWidth modifiers.Plain = true
allows AlignAndWidth (modifiers.One (modifier.Align n)) = true
allows AlignAndWidth (modifiers.One (modifier.Width w)) = true
allows AlignAndWidth (modifiers.Two (modifier.Align n) (modifier.Width w)) = true
allows AlignAndWidth (modifiers.Two (modifier.Width w) (modifier.Align n)) = true
allows OrderAndScope (modifiers.Two (modifier.Order o) (modifier.Scope s)) = true
allows _ _ = false

-- the type at a place: that of the word, or the row's
abbrev pub kind_at : KindAt → DataType → DataType
kind_at Own kind = kind
kind_at (Given t) kind = t

-- d, a register of the word's type; d_of, of another
abbrev pub d : Shape
d = Target Own

abbrev pub d_of : DataType → Shape
d_of kind = Target (Given kind)

-- a, a source of the word's type; a_of, of another
abbrev pub a : Shape
a = Source Own

abbrev pub a_of : DataType → Shape
a_of kind = Source (Given kind)

-- how a type is spelled (PRM, Data Types)
abbrev pub type_name : DataType → List ℕ
type_name type.B1 = codes "b1"
type_name type.B8 = codes "b8"
type_name type.B16 = codes "b16"
type_name type.B32 = codes "b32"
type_name type.B64 = codes "b64"
type_name type.U8 = codes "u8"
type_name type.U16 = codes "u16"
type_name type.U32 = codes "u32"
type_name type.U64 = codes "u64"
type_name type.S8 = codes "s8"
type_name type.S16 = codes "s16"
type_name type.S32 = codes "s32"
type_name type.S64 = codes "s64"

-- the table, in the order of the format (a shift's count has 32 bits; cmp answers one bit, and cmov asks one)
abbrev pub rows : List InstructionRow
rows =
    row (codes "mov") Plain BitsAndIntegers (form.Unary unary.Move) d a no no
    ∷ row (codes "add") Plain Integers (form.Binary binary.Add) d a a no
    ∷ row (codes "sub") Plain Integers (form.Binary binary.Subtract) d a a no
    ∷ row (codes "mul") Plain Integers (form.Binary binary.Multiply) d a a no
    ∷ row (codes "mad") Plain Integers (form.Ternary ternary.MultiplyAdd) d a a a
    ∷ row (codes "div") Plain Integers (form.Binary binary.Divide) d a a no
    ∷ row (codes "rem") Plain Integers (form.Binary binary.Remainder) d a a no
    ∷ row (codes "min") Plain Integers (form.Binary binary.Minimum) d a a no
    ∷ row (codes "max") Plain Integers (form.Binary binary.Maximum) d a a no
    ∷ row (codes "and") Plain Bits (form.Binary binary.And) d a a no
    ∷ row (codes "or") Plain Bits (form.Binary binary.Or) d a a no
    ∷ row (codes "xor") Plain Bits (form.Binary binary.Xor) d a a no
    ∷ row (codes "not") Plain Bits (form.Unary unary.Not) d a no no
    ∷ row (codes "shl") Plain Integers (form.Binary binary.ShiftLeft) d a (a_of type.U32) no
    ∷ row (codes "shr") Plain Integers (form.Binary binary.ShiftRight) d a (a_of type.U32) no
    ∷ row (codes "cmp_eq_b1") Plain BitsAndIntegers (form.Binary (binary.Compare comparison.Equal)) (d_of type.B1) a a no
    ∷ row (codes "cmp_ne_b1") Plain BitsAndIntegers (form.Binary (binary.Compare comparison.NotEqual)) (d_of type.B1) a a no
    ∷ row (codes "cmp_lt_b1") Plain Integers (form.Binary (binary.Compare comparison.Less)) (d_of type.B1) a a no
    ∷ row (codes "cmp_le_b1") Plain Integers (form.Binary (binary.Compare comparison.LessOrEqual)) (d_of type.B1) a a no
    ∷ row (codes "cmp_gt_b1") Plain Integers (form.Binary (binary.Compare comparison.Greater)) (d_of type.B1) a a no
    ∷ row (codes "cmp_ge_b1") Plain Integers (form.Binary (binary.Compare comparison.GreaterOrEqual)) (d_of type.B1) a a no
    ∷ row (codes "cmov") Plain Bits (form.Ternary ternary.ConditionalMove) d (a_of type.B1) a a
    ∷ row (codes "cvt_b1") Plain Convertible (form.Unary (unary.Convert type.B1)) (d_of type.B1) a no no
    ∷ row (codes "cvt_u8") Plain Convertible (form.Unary (unary.Convert type.U8)) (d_of type.U8) a no no
    ∷ row (codes "cvt_u16") Plain Convertible (form.Unary (unary.Convert type.U16)) (d_of type.U16) a no no
    ∷ row (codes "cvt_u32") Plain Convertible (form.Unary (unary.Convert type.U32)) (d_of type.U32) a no no
    ∷ row (codes "cvt_u64") Plain Convertible (form.Unary (unary.Convert type.U64)) (d_of type.U64) a no no
    ∷ row (codes "cvt_s8") Plain Convertible (form.Unary (unary.Convert type.S8)) (d_of type.S8) a no no
    ∷ row (codes "cvt_s16") Plain Convertible (form.Unary (unary.Convert type.S16)) (d_of type.S16) a no no
    ∷ row (codes "cvt_s32") Plain Convertible (form.Unary (unary.Convert type.S32)) (d_of type.S32) a no no
    ∷ row (codes "cvt_s64") Plain Convertible (form.Unary (unary.Convert type.S64)) (d_of type.S64) a no no
    ∷ row (codes "ld_kernarg") AlignAndWidth Memory form.Load d (Address segment.Kernarg) no no
    ∷ row (codes "ld_global") AlignAndWidth Memory form.Load d (Address segment.Global) no no
    ∷ row (codes "ld_group") AlignAndWidth Memory form.Load d (Address segment.Group) no no
    ∷ row (codes "st_global") Align Memory form.Store a (Address segment.Global) no no
    ∷ row (codes "st_group") Align Memory form.Store a (Address segment.Group) no no
    ∷ row (codes "atomic_add_global") OrderAndScope Integers (form.Atomic atomic.Add) d (Address segment.Global) a no
    ∷ row (codes "atomic_sub_global") OrderAndScope Integers (form.Atomic atomic.Subtract) d (Address segment.Global) a no
    ∷ row (codes "atomic_min_global") OrderAndScope Integers (form.Atomic atomic.Minimum) d (Address segment.Global) a no
    ∷ row (codes "atomic_max_global") OrderAndScope Integers (form.Atomic atomic.Maximum) d (Address segment.Global) a no
    ∷ row (codes "atomic_and_global") OrderAndScope Bits32And64 (form.Atomic atomic.And) d (Address segment.Global) a no
    ∷ row (codes "atomic_or_global") OrderAndScope Bits32And64 (form.Atomic atomic.Or) d (Address segment.Global) a no
    ∷ row (codes "atomic_xor_global") OrderAndScope Bits32And64 (form.Atomic atomic.Xor) d (Address segment.Global) a no
    ∷ row (codes "atomic_exch_global") OrderAndScope Bits32And64 (form.Atomic atomic.Exchange) d (Address segment.Global) a no
    ∷ row (codes "atomic_cas_global") OrderAndScope Bits32And64 (form.Atomic atomic.CompareAndSwap) d (Address segment.Global) a a
    ∷ row (codes "atomic_add_group") OrderAndScope Integers (form.Atomic atomic.Add) d (Address segment.Group) a no
    ∷ row (codes "atomic_sub_group") OrderAndScope Integers (form.Atomic atomic.Subtract) d (Address segment.Group) a no
    ∷ row (codes "atomic_min_group") OrderAndScope Integers (form.Atomic atomic.Minimum) d (Address segment.Group) a no
    ∷ row (codes "atomic_max_group") OrderAndScope Integers (form.Atomic atomic.Maximum) d (Address segment.Group) a no
    ∷ row (codes "atomic_and_group") OrderAndScope Bits32And64 (form.Atomic atomic.And) d (Address segment.Group) a no
    ∷ row (codes "atomic_or_group") OrderAndScope Bits32And64 (form.Atomic atomic.Or) d (Address segment.Group) a no
    ∷ row (codes "atomic_xor_group") OrderAndScope Bits32And64 (form.Atomic atomic.Xor) d (Address segment.Group) a no
    ∷ row (codes "atomic_exch_group") OrderAndScope Bits32And64 (form.Atomic atomic.Exchange) d (Address segment.Group) a no
    ∷ row (codes "atomic_cas_group") OrderAndScope Bits32And64 (form.Atomic atomic.CompareAndSwap) d (Address segment.Group) a a
    ∷ row (codes "atomicnoret_add_global") OrderAndScope Integers (form.AtomicNoReturn atomic.Add) (Address segment.Global) a no no
    ∷ row (codes "atomicnoret_sub_global") OrderAndScope Integers (form.AtomicNoReturn atomic.Subtract) (Address segment.Global) a no no
    ∷ row (codes "atomicnoret_min_global") OrderAndScope Integers (form.AtomicNoReturn atomic.Minimum) (Address segment.Global) a no no
    ∷ row (codes "atomicnoret_max_global") OrderAndScope Integers (form.AtomicNoReturn atomic.Maximum) (Address segment.Global) a no no
    ∷ row (codes "atomicnoret_and_global") OrderAndScope Bits32And64 (form.AtomicNoReturn atomic.And) (Address segment.Global) a no no
    ∷ row (codes "atomicnoret_or_global") OrderAndScope Bits32And64 (form.AtomicNoReturn atomic.Or) (Address segment.Global) a no no
    ∷ row (codes "atomicnoret_xor_global") OrderAndScope Bits32And64 (form.AtomicNoReturn atomic.Xor) (Address segment.Global) a no no
    ∷ row (codes "atomicnoret_add_group") OrderAndScope Integers (form.AtomicNoReturn atomic.Add) (Address segment.Group) a no no
    ∷ row (codes "atomicnoret_sub_group") OrderAndScope Integers (form.AtomicNoReturn atomic.Subtract) (Address segment.Group) a no no
    ∷ row (codes "atomicnoret_min_group") OrderAndScope Integers (form.AtomicNoReturn atomic.Minimum) (Address segment.Group) a no no
    ∷ row (codes "atomicnoret_max_group") OrderAndScope Integers (form.AtomicNoReturn atomic.Maximum) (Address segment.Group) a no no
    ∷ row (codes "atomicnoret_and_group") OrderAndScope Bits32And64 (form.AtomicNoReturn atomic.And) (Address segment.Group) a no no
    ∷ row (codes "atomicnoret_or_group") OrderAndScope Bits32And64 (form.AtomicNoReturn atomic.Or) (Address segment.Group) a no no
    ∷ row (codes "atomicnoret_xor_group") OrderAndScope Bits32And64 (form.AtomicNoReturn atomic.Xor) (Address segment.Group) a no no
    ∷ row (codes "br") Plain Untyped form.Branch Label no no no
    ∷ row (codes "cbr") Width Bit form.ConditionalBranch a Label no no
    ∷ row (codes "ret") Plain Untyped form.Return no no no no
    ∷ row (codes "barrier") Width Untyped form.Barrier no no no no
    ∷ row (codes "workitemid") Plain Unsigned32 (form.WorkItemQuery query.WorkItemId) d Dimension no no
    ∷ row (codes "workgroupid") Plain Unsigned32 (form.WorkItemQuery query.WorkGroupId) d Dimension no no
    ∷ row (codes "workgroupsize") Plain Unsigned32 (form.WorkItemQuery query.WorkGroupSize) d Dimension no no
    ∷ row (codes "currentworkgroupsize") Plain Unsigned32 (form.WorkItemQuery query.CurrentWorkGroupSize) d Dimension no no
    ∷ row (codes "workitemabsid") Plain Unsigned32And64 (form.WorkItemQuery query.WorkItemAbsoluteId) d Dimension no no
    ∷ row (codes "gridsize") Plain Unsigned32And64 (form.WorkItemQuery query.GridSize) d Dimension no no ∷ []

-- a row of the code, with its stem as bytes
abbrev pub row_view : Row → InstructionRow
row_view r = row r.0.now r.1 r.2 r.3 r.4.0 r.4.1 r.4.2 r.4.3
