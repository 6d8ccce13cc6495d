-- A step sets the first operand of its instruction, and reads the others in their order.
use Rattle.std.proofs.Common.{◌≡◌, ℕ, Bool, true, false, List, [], ◌∷◌, Option, refl}
use Rattle.hsail_reader.specs.Types.{type_class}
use Rattle.hsail_reader.specs.declared.module.Access.{Access}
use Rattle.hsail_reader.specs.declared.module.Operand.{Operand}
use Rattle.hsail_reader.specs.declared.module.Operand.TheVariants as operand
use Rattle.hsail_reader.specs.declared.module.Operation.{Operation}
use Rattle.hsail_reader.specs.declared.module.TypedSource.{TypedSource}
use Rattle.hsail_reader.specs.declared.rows.Form.{Form}
use Rattle.hsail_reader.specs.declared.rows.Form.TheVariants as form
use Rattle.hsail_reader.specs.declared.types.AtomicOperation.{AtomicOperation}
use Rattle.hsail_reader.specs.declared.types.AtomicOperation.TheVariants as atomic
use Rattle.hsail_reader.specs.declared.types.BinaryOperation.{BinaryOperation}
use Rattle.hsail_reader.specs.declared.types.BinaryOperation.TheVariants.{And, Or, Xor, ShiftLeft, ShiftRight, Compare}
use Rattle.hsail_reader.specs.declared.types.Constant.{Constant}
use Rattle.hsail_reader.specs.declared.types.DataType.{DataType}
use Rattle.hsail_reader.specs.declared.types.Register.{Register}
use Rattle.hsail_reader.specs.declared.types.RegisterClass.{RegisterClass}
use Rattle.hsail_reader.specs.declared.types.RegisterClass.TheVariants as class
use Rattle.hsail_reader.specs.declared.types.Segment.{Segment}
use Rattle.hsail_reader.specs.declared.types.Segment.TheVariants as segment
use Rattle.hsail_reader.specs.declared.types.Source.{Source}
use Rattle.hsail_reader.specs.declared.types.Source.TheVariants as source
use Rattle.hsail_reader.specs.declared.types.TernaryOperation.{TernaryOperation}
use Rattle.hsail_reader.specs.declared.types.TernaryOperation.TheVariants.{MultiplyAdd, ConditionalMove}
use Rattle.hsail_reader.specs.declared.types.UnaryOperation.{UnaryOperation}
use Rattle.hsail_reader.specs.declared.types.UnaryOperation.TheVariants.{Move, Not, Convert}
use Rattle.kernel_check.specs.Constants.{constant_bits}
use Rattle.kernel_check.specs.Reads.{IsAt, IsSource, AreSources, IsTarget, KeepsOrder}
use Rattle.kernel_check.specs.Steps.{reads, sets, number_in, sources_of, step_of, form_step, register_number, register_in, one_bit, low_bits, source_at, source1_of, source32_of, source64_of, source_in, unary_in, unary_by, binary1, binary32, binary64, binary_in, ternary_in, is_signed, load_from, load_at, store_from, store_at, atomic_pointer, change_of, change_reads, atomic_in, atomic_at, as_atomic, as_no_return, target_in, read_in, as_unary, as_binary, as_ternary}
use Rattle.kernel_check.specs.declared.layout.Placed.{Placed}
use Rattle.kernel_check.specs.declared.memory.Atomic.{Atomic}
use Rattle.kernel_check.specs.declared.step.AnySource.{AnySource}
use Rattle.kernel_check.specs.declared.step.AnySource.TheVariants as any
use Rattle.kernel_check.specs.declared.step.AtomicPointer.{AtomicPointer}
use Rattle.kernel_check.specs.declared.step.Step.{Step}
use Rattle.kernel_check.specs.declared.translate.Binary.{Binary}
use Rattle.kernel_check.specs.declared.translate.Ternary.{Ternary}
use Rattle.kernel_check.specs.declared.translate.Unary.{Unary}

is_at : {N : Type 0} (bits : DataType → Constant → N) (kind : DataType) (s : Source) → IsAt bits (source_at bits kind s) kind s
is_at bits kind (source.Register r) = refl
is_at bits kind (source.Constant c) = refl

pub is1 : (t : TypedSource) → IsSource (any.Control (source1_of t)) t
is1 t = is_at one_bit t.kind t.source

is32 : (t : TypedSource) → IsSource (any.Single (source32_of t)) t
is32 t = is_at low_bits t.kind t.source

is64 : (t : TypedSource) → IsSource (any.Double (source64_of t)) t
is64 t = is_at constant_bits t.kind t.source

pub is_source : (k : RegisterClass) (t : TypedSource) → IsSource (source_in k t) t
is_source class.Control t = is1 t
is_source class.Single t = is32 t
is_source class.Double t = is64 t

pub same_number : (k : RegisterClass) (r : Register) → number_in (register_in k r) ≡ register_number r
same_number class.Control r = refl
same_number class.Single r = refl
same_number class.Double r = refl

-- a step sets this register and reads these sources
abbrev pub Keeps : Step → Register → List TypedSource → Type 0
Keeps s r sources = IsTarget (sets s) r × AreSources (reads s) sources

unary_keeps_in : (k : RegisterClass) (f : UnaryOperation) (r : Register) (s : TypedSource)
    → Keeps (unary_in k f (register_number r) s) r (s ∷ [])
unary_keeps_in class.Control Not r s = (refl, (is1 s, tt))
unary_keeps_in class.Control Move r s = (refl, (is1 s, tt))
unary_keeps_in class.Control (Convert to) r s = (refl, (is1 s, tt))
unary_keeps_in class.Single Not r s = (refl, (is32 s, tt))
unary_keeps_in class.Single Move r s = (refl, (is32 s, tt))
unary_keeps_in class.Single (Convert to) r s = (refl, (is32 s, tt))
unary_keeps_in class.Double Not r s = (refl, (is64 s, tt))
unary_keeps_in class.Double Move r s = (refl, (is64 s, tt))
unary_keeps_in class.Double (Convert to) r s = (refl, (is64 s, tt))

pub unary_keeps : (f : UnaryOperation) (u : Unary) → Keeps (unary_by f u) u.target (u.source ∷ [])
unary_keeps (Convert to) u = (same_number (type_class to) u.target, (is_source (type_class u.source.kind) u.source, tt))
unary_keeps Move u = unary_keeps_in (type_class u.kind) Move u.target u.source
unary_keeps Not u = unary_keeps_in (type_class u.kind) Not u.target u.source

-- the operations of one bit
bits_keep : (f : BinaryOperation) (kind : DataType) (r : Register) (left right : TypedSource)
    → Keeps (binary1 (record { operation = f; kind = kind; target = r; left = left; right = right })) r (left ∷ right ∷ [])
bits_keep And kind r left right = (refl, (is1 left, (is1 right, tt)))
bits_keep Or kind r left right = (refl, (is1 left, (is1 right, tt)))
bits_keep Xor kind r left right = (refl, (is1 left, (is1 right, tt)))
bits_keep (Compare c) kind r left right = (refl, (is1 left, (is1 right, tt)))
bits_keep _ kind r left right = (refl, (is1 left, tt))

singles_keep : (f : BinaryOperation) (signed : Bool) (r : Register) (left right : TypedSource)
    → Keeps (binary32 f signed (register_number r) (record { left = source32_of left; right = source32_of right })) r (left ∷ right ∷ [])
singles_keep (Compare c) true r left right = (refl, (is32 left, (is32 right, tt)))
singles_keep (Compare c) false r left right = (refl, (is32 left, (is32 right, tt)))
singles_keep _ true r left right = (refl, (is32 left, (is32 right, tt)))
singles_keep _ false r left right = (refl, (is32 left, (is32 right, tt)))

doubles_keep : (f : BinaryOperation) (signed : Bool) (r : Register) (left right : TypedSource)
    → Keeps (binary64 f signed (register_number r) (record { left = source64_of left; right = source64_of right })
    (record { value = source64_of left; count = source32_of right })) r (left ∷ right ∷ [])
doubles_keep ShiftLeft signed r left right = (refl, (is64 left, (is32 right, tt)))
doubles_keep ShiftRight true r left right = (refl, (is64 left, (is32 right, tt)))
doubles_keep ShiftRight false r left right = (refl, (is64 left, (is32 right, tt)))
doubles_keep _ true r left right = (refl, (is64 left, (is64 right, tt)))
doubles_keep _ false r left right = (refl, (is64 left, (is64 right, tt)))

pub binary_keeps : (k : RegisterClass) (b : Binary) → Keeps (binary_in k b) b.target (b.left ∷ b.right ∷ [])
binary_keeps class.Control b = bits_keep b.operation b.kind b.target b.left b.right
binary_keeps class.Single b = singles_keep b.operation (is_signed b.kind) b.target b.left b.right
binary_keeps class.Double b = doubles_keep b.operation (is_signed b.kind) b.target b.left b.right

pub ternary_keeps : (k : RegisterClass) (f : TernaryOperation) (t : Ternary) → Keeps (ternary_in k f t) t.target (t.first ∷ t.second ∷ t.third ∷ [])
ternary_keeps class.Control MultiplyAdd t = (refl, (is1 t.first, tt))
ternary_keeps class.Control ConditionalMove t = (refl, (is1 t.first, (is1 t.second, (is1 t.third, tt))))
ternary_keeps class.Single MultiplyAdd t = (refl, (is32 t.first, (is32 t.second, (is32 t.third, tt))))
ternary_keeps class.Single ConditionalMove t = (refl, (is1 t.first, (is32 t.second, (is32 t.third, tt))))
ternary_keeps class.Double MultiplyAdd t = (refl, (is64 t.first, (is64 t.second, (is64 t.third, tt))))
ternary_keeps class.Double ConditionalMove t = (refl, (is1 t.first, (is64 t.second, (is64 t.third, tt))))

pub load_keeps : (variables : List ℕ → Option Placed) (s : Segment) (r : Register) (a : Access) → Keeps (load_from variables s r a) r []
load_keeps variables segment.Kernarg r a = (same_number (type_class a.kind) r, tt)
load_keeps variables _ r a = (same_number (type_class a.kind) r, tt)

load_at_keeps : (variables : List ℕ → Option Placed) (r : Register) (o : Operand) → Keeps (load_at variables r o) r []
load_at_keeps variables r (operand.Address a) = load_keeps variables a.segment r a
load_at_keeps variables r _ = (tt, tt)

store_keeps : (variables : List ℕ → Option Placed) (g : Segment) (s : TypedSource) (r : Register) (a : Access) → Keeps (store_from variables g s a) r (s ∷ [])
store_keeps variables segment.Group s r a = (tt, (is_source (type_class s.kind) s, tt))
store_keeps variables _ s r a = (tt, (is_source (type_class s.kind) s, tt))

store_at_keeps : (variables : List ℕ → Option Placed) (s : TypedSource) (r : Register) (o : Operand) → Keeps (store_at variables s o) r (s ∷ [])
store_at_keeps variables s r (operand.Address a) = store_keeps variables a.segment s r a
store_at_keeps variables s r _ = (tt, tt)

change_keeps : {S : Type 0} (of_width : S → AnySource) (read : TypedSource → S) (is : (t : TypedSource) → IsSource (of_width (read t)) t)
    (f : AtomicOperation) (signed : Bool) (s t : TypedSource)
    → AreSources (change_reads of_width (change_of f signed (read s) (read t))) (s ∷ t ∷ [])
change_keeps of_width read is atomic.CompareAndSwap signed s t = (is s, (is t, tt))
change_keeps of_width read is _ true s t = (is s, tt)
change_keeps of_width read is _ false s t = (is s, tt)

pub atomic_keeps : (k : RegisterClass) (a : Atomic) (p : AtomicPointer) (r : Register) → IsTarget a.target r
    → Keeps (atomic_in k a p) r (a.first ∷ a.second ∷ [])
atomic_keeps class.Double a p r target = (target, change_keeps any.Double source64_of is64 a.operation (is_signed a.kind) a.first a.second)
atomic_keeps _ a p r target = (target, change_keeps any.Single source32_of is32 a.operation (is_signed a.kind) a.first a.second)

atomic_at_keeps : (variables : List ℕ → Option Placed) (a : Atomic) (r : Register) → IsTarget a.target r
    → (o : Operand) → Keeps (atomic_at variables a o) r (a.first ∷ a.second ∷ [])
atomic_at_keeps variables a r target (operand.Address x) =
    atomic_keeps (type_class a.kind) a (atomic_pointer variables x.segment x.address) r target
atomic_at_keeps variables a r target _ = (tt, tt)

form_keeps : (variables : List ℕ → Option Placed) (labels : List ℕ → Option ℕ) (f : Form) (op : Operation)
    → Keeps (form_step variables labels f op) (target_in op.operands.first) (sources_of f op)
form_keeps variables labels (form.Unary f) op = unary_keeps f (as_unary f op)
form_keeps variables labels (form.Binary f) op = binary_keeps (type_class op.kind) (as_binary f op)
form_keeps variables labels (form.Ternary f) op = ternary_keeps (type_class op.kind) f (as_ternary f op)
form_keeps variables labels form.Load op = load_at_keeps variables (target_in op.operands.first) op.operands.second
form_keeps variables labels form.Store op = store_at_keeps variables (read_in op.operands.first) (target_in op.operands.first) op.operands.second
form_keeps variables labels (form.Atomic f) op =
    atomic_at_keeps variables (as_atomic f op) (target_in op.operands.first) refl op.operands.second
form_keeps variables labels (form.AtomicNoReturn f) op =
    atomic_at_keeps variables (as_no_return f op) (target_in op.operands.first) tt op.operands.first
form_keeps variables labels _ op = search (same_number, is_source, is1, is32, is64)

pub keeps_order : (variables : List ℕ → Option Placed) (labels : List ℕ → Option ℕ) (op : Operation)
    → KeepsOrder op (step_of variables labels op)
keeps_order variables labels op = form_keeps variables labels op.form op
