-- An operation of a row leaves out nothing that its step needs, and has no further operands.
use Rattle.std.proofs.Common.{◌≡◌, List, [], ◌∷◌, Bool, true, false, not, ◌&&◌, refl, sym, ap, ◌∙◌, arith}
use Rattle.std.specs.List.{Contains}
use Rattle.kernel_check.specs.Causes.{is_same_segment}
use Rattle.kernel_check.specs.Needs.{is_set, is_read, is_loaded, is_written, is_label, is_dimension, has_needed, leaves_nothing_out}
use Rattle.kernel_check.specs.Operands.{is_same_class}
use Rattle.hsail_reader.specs.RowOperations.{HasShape, HasType, IsOfRow}
use Rattle.hsail_reader.specs.Rows.{InstructionRow, kind_at, rows, types_of}
use Rattle.hsail_reader.specs.Types.{type_class}
use Rattle.hsail_reader.specs.declared.module.Address.TheVariants as address
use Rattle.hsail_reader.specs.declared.module.Operand.{Operand}
use Rattle.hsail_reader.specs.declared.module.Operand.TheVariants as operand
use Rattle.hsail_reader.specs.declared.module.Operands.{Operands}
use Rattle.hsail_reader.specs.declared.module.Operation.{Operation}
use Rattle.hsail_reader.specs.declared.rows.Form.{Form}
use Rattle.hsail_reader.specs.declared.rows.Form.TheVariants as form
use Rattle.hsail_reader.specs.declared.rows.Shape.{Shape}
use Rattle.hsail_reader.specs.declared.rows.Shape.TheVariants as shape
use Rattle.hsail_reader.specs.declared.rows.Shapes.{Shapes}
use Rattle.hsail_reader.specs.declared.rows.TypeSet.{TypeSet}
use Rattle.hsail_reader.specs.declared.rows.TypeSet.TheVariants as types
use Rattle.hsail_reader.specs.declared.types.AtomicOperation.TheVariants as atomic
use Rattle.hsail_reader.specs.declared.types.DataType.{DataType}
use Rattle.hsail_reader.specs.declared.types.DataType.TheVariants as type
use Rattle.hsail_reader.specs.declared.types.Register.{Register}
use Rattle.hsail_reader.specs.declared.types.RegisterClass.{RegisterClass}
use Rattle.hsail_reader.specs.declared.types.RegisterClass.TheVariants as class
use Rattle.hsail_reader.specs.declared.types.Segment.TheVariants as segment
use Rattle.hsail_reader.specs.declared.types.Source.TheVariants as source
use Rattle.hsail_reader.specs.declared.types.TernaryOperation.TheVariants.{MultiplyAdd, ConditionalMove}
use Rattle.hsail_reader.specs.declared.types.UnaryOperation.TheVariants.{Convert}
use Rattle.hsail_reader.proofs.WordRows.{every, every_passes}

-- an operand as a row has it at its place, with some register, address, name and number
abbrev pub some_register : Register
some_register = record { class = class.Control; number = 0 }

abbrev pub sample : Shape → DataType → Operand
sample shape.Absent kind = operand.Absent
sample (shape.Target at) kind = operand.Target (record { kind = kind_at at kind; register = some_register })
sample (shape.Source at) kind = operand.Source (record { kind = kind_at at kind; source = source.Register some_register })
sample (shape.Address s) kind = operand.Address (record { segment = s; kind = kind; address = address.Variable [] })
sample shape.Label kind = operand.Label []
sample shape.Dimension kind = operand.Dimension 0

abbrev pub samples : Shapes → DataType → Operands
samples s kind = record {
  first = sample s.0 kind;
  second = sample s.1 kind;
  third = sample s.2 kind;
  fourth = sample s.3 kind;
}

abbrev pub is_absent : Operand → Bool
is_absent operand.Absent = true
is_absent _ = false

-- two operands of which each test tells the same
pub record Alike (a b : Operand) : Type 0 where
  set : (c : RegisterClass) → is_set c a ≡ is_set c b
  read : (c : RegisterClass) → is_read c a ≡ is_read c b
  loaded : is_loaded a ≡ is_loaded b
  written : is_written a ≡ is_written b
  label : is_label a ≡ is_label b
  dimension : is_dimension a ≡ is_dimension b
  absent : is_absent a ≡ is_absent b

alike : (s : Shape) (kind : DataType) (o : Operand) → HasShape s kind o → Alike o (sample s kind)
alike (shape.Target at) kind (operand.Target t) has = record {
  set = λ c. ap (λ k. is_same_class (type_class k) c) has;
  read = λ c. refl;
  loaded = refl;
  written = refl;
  label = refl;
  dimension = refl;
  absent = refl;
}
alike (shape.Source at) kind (operand.Source s) has = record {
  set = λ c. refl;
  read = λ c. ap (λ k. is_same_class (type_class k) c) has;
  loaded = refl;
  written = refl;
  label = refl;
  dimension = refl;
  absent = refl;
}
alike (shape.Address s) kind (operand.Address a) has = record {
  set = λ c. refl;
  read = λ c. refl;
  loaded = refl;
  written = ap (λ g. not (is_same_segment g segment.Kernarg)) has.0;
  label = refl;
  dimension = refl;
  absent = refl;
}
alike shape.Absent kind operand.Absent has =
    record { set = λ c. refl; read = λ c. refl; loaded = refl; written = refl; label = refl; dimension = refl; absent = refl }
alike shape.Label kind (operand.Label x) has =
    record { set = λ c. refl; read = λ c. refl; loaded = refl; written = refl; label = refl; dimension = refl; absent = refl }
alike shape.Dimension kind (operand.Dimension n) has =
    record { set = λ c. refl; read = λ c. refl; loaded = refl; written = refl; label = refl; dimension = refl; absent = refl }
alike _ kind _ has = absurd has

-- nothing stands behind the operands of a form
abbrev pub has_no_more : Form → Operands → Bool
has_no_more (form.Unary f) o = is_absent o.third && is_absent o.fourth
has_no_more (form.Binary f) o = is_absent o.fourth
has_no_more (form.Ternary f) o = true
has_no_more (form.Atomic atomic.CompareAndSwap) o = true
has_no_more (form.Atomic _) o = is_absent o.fourth
has_no_more (form.AtomicNoReturn atomic.CompareAndSwap) o = is_absent o.fourth
has_no_more (form.AtomicNoReturn _) o = is_absent o.third && is_absent o.fourth
has_no_more form.Branch o = is_absent o.second && is_absent o.third && is_absent o.fourth
has_no_more form.Return o = is_absent o.first && is_absent o.second && is_absent o.third && is_absent o.fourth
has_no_more form.Barrier o = is_absent o.first && is_absent o.second && is_absent o.third && is_absent o.fourth
has_no_more _ o = is_absent o.third && is_absent o.fourth

module _ (t : DataType) (o p : Operands) (a : Alike o.first p.first) (b : Alike o.second p.second) (c : Alike o.third p.third)
    (d : Alike o.fourth p.fourth) where
  -- operands that are alike have the same of what a step needs
  needed_alike : (f : Form) → has_needed f t o ≡ has_needed f t p
  needed_alike (form.Unary (Convert to)) = rw (a.set (type_class to), b.read (type_class t)) refl
  needed_alike (form.Unary f) = rw (a.set (type_class t), b.read (type_class t)) refl
  needed_alike (form.Binary f) = search (a.set, b.read, c.read)
  needed_alike (form.Ternary MultiplyAdd) =
      rw (a.set (type_class t), b.read (type_class t), c.read (type_class t), d.read (type_class t)) refl
  needed_alike (form.Ternary ConditionalMove) =
      rw (a.set (type_class t), b.read class.Control, c.read (type_class t), d.read (type_class t)) refl
  needed_alike form.Load = rw (a.set (type_class t), b.loaded) refl
  needed_alike form.Store = rw (a.read (type_class t), b.written) refl
  needed_alike (form.Atomic atomic.CompareAndSwap) =
      rw (a.set (type_class t), b.written, c.read (type_class t), d.read (type_class t)) refl
  needed_alike (form.Atomic _) = rw (a.set (type_class t), b.written, c.read (type_class t)) refl
  needed_alike (form.AtomicNoReturn atomic.CompareAndSwap) =
      rw (a.written, b.read (type_class t), c.read (type_class t)) refl
  needed_alike (form.AtomicNoReturn _) = rw (a.written, b.read (type_class t)) refl
  needed_alike form.Branch = a.label
  needed_alike form.ConditionalBranch = rw (a.read class.Control, b.label) refl
  needed_alike (form.WorkItemQuery q) = rw (a.set (type_class t), b.dimension) refl
  needed_alike _ = refl

  -- what stands behind the operands of a form
  no_more_alike : (f : Form) → has_no_more f o ≡ has_no_more f p
  no_more_alike (form.Unary f) = rw (c.absent, d.absent) refl
  no_more_alike (form.Binary f) = d.absent
  no_more_alike (form.Ternary f) = refl
  no_more_alike (form.Atomic atomic.CompareAndSwap) = refl
  no_more_alike (form.Atomic _) = d.absent
  no_more_alike (form.AtomicNoReturn atomic.CompareAndSwap) = d.absent
  no_more_alike (form.AtomicNoReturn _) = rw (c.absent, d.absent) refl
  no_more_alike form.Branch = rw (b.absent, c.absent, d.absent) refl
  no_more_alike form.Return = rw (a.absent, b.absent, c.absent, d.absent) refl
  no_more_alike form.Barrier = rw (a.absent, b.absent, c.absent, d.absent) refl
  no_more_alike _ = rw (c.absent, d.absent) refl

-- the types of a row's words
abbrev pub word_types : TypeSet → List DataType
word_types types.Untyped = type.B1 ∷ []
word_types set = types_of set

pub is_word_type : (set : TypeSet) (t : DataType) → HasType set t → Contains (word_types set) t
is_word_type types.Untyped t has = (0, omega arith, sym has)
is_word_type set t has = has

-- a test of operations tells the same of operands that are alike
abbrev pub TellsAlike : (Form → DataType → Operands → Bool) → Type 0
TellsAlike test =
    (t : DataType) (o p : Operands) → Alike o.first p.first → Alike o.second p.second → Alike o.third p.third
    → Alike o.fourth p.fourth → (f : Form) → test f t o ≡ test f t p

-- a row passes a test, at each of its types
abbrev pub row_passes : (Form → DataType → Operands → Bool) → InstructionRow → Bool
row_passes test row = every (λ t. test row.form t (samples row.operands t)) (word_types row.types)

-- what all rows pass is passed by an operation of a row
pub passes : (test : Form → DataType → Operands → Bool) → TellsAlike test → every (row_passes test) rows ≡ true
    → (op : Operation) → IsOfRow op → test op.form op.kind op.operands ≡ true
passes test same all op is =
    let row = is.row in
    let o = op.operands in
    let shapes = row.operands in
    let there : row_passes test row ≡ true = every_passes (row_passes test) rows row all is.listed in
    same op.kind o (samples shapes op.kind) (alike shapes.0 op.kind o.first is.first)
    (alike shapes.1 op.kind o.second is.second) (alike shapes.2 op.kind o.third is.third)
    (alike shapes.3 op.kind o.fourth is.fourth) op.form
    ∙ ap (λ f. test f op.kind (samples shapes op.kind)) (sym is.form)
    ∙ every_passes (λ t. test row.form t (samples shapes t)) (word_types row.types) op.kind there
    (is_word_type row.types op.kind is.type)

pub nothing_is_left_out : (op : Operation) → IsOfRow op → leaves_nothing_out op ≡ true
nothing_is_left_out op is = passes has_needed needed_alike refl op is

pub nothing_is_more : (op : Operation) → IsOfRow op → has_no_more op.form op.operands ≡ true
nothing_is_more op is = passes (λ f t o. has_no_more f o) no_more_alike refl op is
