-- Each register of a step is of the class that the step's types ask.
use Rattle.std.proofs.Common.{◌≡◌, ℕ, List, Bool, true, Option, refl, sym, ap, ◌∙◌}
use Rattle.hsail_reader.specs.RowOperations.{IsOfRow}
use Rattle.hsail_reader.specs.Types.{type_class}
use Rattle.hsail_reader.specs.declared.module.Access.{Access}
use Rattle.hsail_reader.specs.declared.module.Operand.{Operand}
use Rattle.hsail_reader.specs.declared.module.Operand.TheVariants as operand
use Rattle.hsail_reader.specs.declared.module.Operation.{Operation}
use Rattle.hsail_reader.specs.declared.module.TypedSource.{TypedSource}
use Rattle.hsail_reader.specs.declared.rows.Form.{Form}
use Rattle.hsail_reader.specs.declared.rows.Form.TheVariants as form
use Rattle.hsail_reader.specs.declared.types.DataType.{DataType}
use Rattle.hsail_reader.specs.declared.types.DataType.TheVariants as type
use Rattle.hsail_reader.specs.declared.types.Register.{Register}
use Rattle.hsail_reader.specs.declared.types.RegisterClass.{RegisterClass}
use Rattle.hsail_reader.specs.declared.types.RegisterClass.TheVariants as class
use Rattle.hsail_reader.specs.declared.types.Segment.{Segment}
use Rattle.hsail_reader.specs.declared.types.Segment.TheVariants as segment
use Rattle.hsail_reader.specs.declared.types.UnaryOperation.{UnaryOperation}
use Rattle.hsail_reader.specs.declared.types.UnaryOperation.TheVariants.{Move, Not, Convert}
use Rattle.kernel_check.specs.Programs.{HasItsClasses, answers_in, number_class, register_class, source_class}
use Rattle.kernel_check.specs.Steps.{as_atomic, as_binary, as_no_return, as_ternary, as_unary, atomic_at, form_step, load_at, load_from, number_type, read_in, register_in, register_of, register_number, source_in, source_of, step_of, store_at, store_from, target_in, unary_by}
use Rattle.kernel_check.specs.declared.layout.Placed.{Placed}
use Rattle.kernel_check.specs.declared.memory.Atomic.{Atomic}
use Rattle.kernel_check.specs.declared.translate.Unary.{Unary}
use Rattle.kernel_check.proofs.NeedLemmas.{passes}
use Rattle.kernel_check.proofs.StepCases.{of_unary, of_binary, of_ternary, of_atomic}

-- the registers for a number are those for its type
number_class_is : (kind : DataType) → type_class kind ≡ number_class (number_type kind)
number_class_is type.B1 = refl
number_class_is type.B8 = refl
number_class_is type.B16 = refl
number_class_is type.B32 = refl
number_class_is type.B64 = refl
number_class_is type.U8 = refl
number_class_is type.U16 = refl
number_class_is type.U32 = refl
number_class_is type.U64 = refl
number_class_is type.S8 = refl
number_class_is type.S16 = refl
number_class_is type.S32 = refl
number_class_is type.S64 = refl

register_in_is : (k : RegisterClass) (r : Register) → register_class (register_in k r) ≡ k
register_in_is class.Control r = refl
register_in_is class.Single r = refl
register_in_is class.Double r = refl

source_in_is : (k : RegisterClass) (t : TypedSource) → source_class (source_in k t) ≡ k
source_in_is class.Control t = refl
source_in_is class.Single t = refl
source_in_is class.Double t = refl

-- the register of a value of a type
register_is : (kind : DataType) (r : Register) → register_class (register_of kind r) ≡ number_class (number_type kind)
register_is kind r = register_in_is (type_class kind) r ∙ number_class_is kind

-- and a source at its type
source_is : (t : TypedSource) → source_class (source_of t) ≡ number_class (number_type t.kind)
source_is t = source_in_is (type_class t.kind) t ∙ number_class_is t.kind

load_from_is : (variables : List ℕ → Option Placed) (s : Segment) (d : Register) (a : Access) → HasItsClasses (load_from variables s d a)
load_from_is variables segment.Kernarg d a = register_is a.kind d
load_from_is variables segment.Global d a = register_is a.kind d
load_from_is variables segment.Group d a = register_is a.kind d

load_is : (variables : List ℕ → Option Placed) (d : Register) (o : Operand) → HasItsClasses (load_at variables d o)
load_is variables d (operand.Address a) = load_from_is variables a.segment d a
load_is variables d operand.Absent = tt
load_is variables d (operand.Target t) = tt
load_is variables d (operand.Source s) = tt
load_is variables d (operand.Label x) = tt
load_is variables d (operand.Dimension n) = tt

store_from_is : (variables : List ℕ → Option Placed) (g : Segment) (s : TypedSource) (a : Access) → HasItsClasses (store_from variables g s a)
store_from_is variables segment.Kernarg s a = source_is s
store_from_is variables segment.Global s a = source_is s
store_from_is variables segment.Group s a = source_is s

store_is : (variables : List ℕ → Option Placed) (s : TypedSource) (o : Operand) → HasItsClasses (store_at variables s o)
store_is variables s (operand.Address a) = store_from_is variables a.segment s a
store_is variables s operand.Absent = tt
store_is variables s (operand.Target t) = tt
store_is variables s (operand.Source r) = tt
store_is variables s (operand.Label x) = tt
store_is variables s (operand.Dimension n) = tt

unary_is : (op : UnaryOperation) (u : Unary) → HasItsClasses (unary_by op u)
unary_is (Convert to) u = (register_is to u.target, source_is u.source)
unary_is Move u = of_unary HasItsClasses (λ s. tt) (λ s. tt) (λ s. tt) (λ s. tt) (λ s. tt) tt (type_class u.kind) Move (register_number u.target) u.source
unary_is Not u = of_unary HasItsClasses (λ s. tt) (λ s. tt) (λ s. tt) (λ s. tt) (λ s. tt) tt (type_class u.kind) Not (register_number u.target) u.source

atomic_is : (variables : List ℕ → Option Placed) (a : Atomic) (o : Operand) → HasItsClasses (atomic_at variables a o)
atomic_is variables a o = of_atomic HasItsClasses (λ s. tt) (λ s. tt) (λ s. tt) (λ s. tt) (λ s. tt) tt variables a o

-- a query has a type whose registers hold what it asks
abbrev query_fits : Form → DataType → Bool
query_fits (form.WorkItemQuery q) t = answers_in q (type_class t)
query_fits _ t = true

form_is : (variables : List ℕ → Option Placed) (labels : List ℕ → Option ℕ) (f : Form) (op : Operation) → query_fits f op.kind ≡ true
    → HasItsClasses (form_step variables labels f op)
form_is variables labels (form.Unary u) op fits = unary_is u (as_unary u op)
form_is variables labels (form.Binary b) op fits =
    of_binary HasItsClasses (λ s. tt) (λ s. tt) (λ s. tt) (λ s. tt) (λ s. tt) tt (type_class op.kind) (as_binary b op)
form_is variables labels (form.Ternary t) op fits =
    of_ternary HasItsClasses (λ s. tt) (λ s. tt) (λ s. tt) (λ s. tt) (λ s. tt) tt (type_class op.kind) t (as_ternary t op)
form_is variables labels form.Load op fits = load_is variables (target_in op.operands.first) op.operands.second
form_is variables labels form.Store op fits = store_is variables (read_in op.operands.first) op.operands.second
form_is variables labels (form.Atomic f) op fits = atomic_is variables (as_atomic f op) op.operands.second
form_is variables labels (form.AtomicNoReturn f) op fits = atomic_is variables (as_no_return f op) op.operands.first
form_is variables labels form.Branch op fits = tt
form_is variables labels form.ConditionalBranch op fits = tt
form_is variables labels form.Return op fits = tt
form_is variables labels form.Barrier op fits = tt
form_is variables labels (form.WorkItemQuery q) op fits =
    ap (answers_in q) (register_in_is (type_class op.kind) (target_in op.operands.first)) ∙ fits

-- the step of an operation of a row
pub has_its_classes : (variables : List ℕ → Option Placed) (labels : List ℕ → Option ℕ) (op : Operation) → IsOfRow op
    → HasItsClasses (step_of variables labels op)
has_its_classes variables labels op is =
    form_is variables labels op.form op (passes (λ f t o. query_fits f t) (λ t o p a b c d f. refl) refl op is)
