-- The step of an operation of a row sets what its text sets, and reads all that its text reads.
use Rattle.std.proofs.Common.{◌≡◌, ℕ, List, [], ◌∷◌, ◌++◌, Bool, true, false, ◌&&◌, Option, Some, None, is_some, length, refl, sym, ap, subst, ◌∙◌, arith}
use Rattle.kernel_check.specs.Needs.{is_set, is_read, is_loaded, is_written, is_label, is_dimension, is_wide, has_type, has_needed}
use Rattle.kernel_check.specs.Reads.{AreSources, AreAllSources, IsTarget, KeepsAll, sources_by}
use Rattle.kernel_check.specs.Steps.{change_of, change_reads, atomic_in, atomic_pointer, as_atomic, as_no_return, as_ternary, as_unary, binary1, binary32, binary64, binary_of, is_signed, load_from, read_in, reads, sets, register_number, step_of, store_from, ternary_in, unary_by, unary_in}
use Rattle.kernel_check.specs.declared.layout.Placed.{Placed}
use Rattle.kernel_check.specs.declared.memory.Atomic.{Atomic}
use Rattle.kernel_check.specs.declared.step.AnySource.{AnySource}
use Rattle.kernel_check.specs.declared.step.AnySource.TheVariants as any
use Rattle.kernel_check.specs.declared.step.AtomicPointer.{AtomicPointer}
use Rattle.kernel_check.specs.declared.step.Pair.{Pair}
use Rattle.kernel_check.specs.declared.step.Shift64.{Shift64}
use Rattle.kernel_check.specs.declared.step.Source.{Source as StepSource}
use Rattle.kernel_check.specs.declared.step.Step.{Step}
use Rattle.kernel_check.specs.declared.translate.Binary.{Binary}
use Rattle.kernel_check.specs.declared.translate.Ternary.{Ternary}
use Rattle.kernel_check.specs.declared.translate.Unary.{Unary}
use Rattle.hsail_reader.specs.Operations.{operation}
use Rattle.hsail_reader.specs.RowOperations.{IsOfRow}
use Rattle.hsail_reader.specs.Types.{type_class}
use Rattle.hsail_reader.specs.declared.module.Access.{Access}
use Rattle.hsail_reader.specs.declared.module.Operand.{Operand}
use Rattle.hsail_reader.specs.declared.module.Operand.TheVariants as operand
use Rattle.hsail_reader.specs.declared.module.Operands.{Operands}
use Rattle.hsail_reader.specs.declared.module.Operation.{Operation}
use Rattle.hsail_reader.specs.declared.module.Target.{Target}
use Rattle.hsail_reader.specs.declared.module.TypedSource.{TypedSource}
use Rattle.hsail_reader.specs.declared.rows.Form.{Form}
use Rattle.hsail_reader.specs.declared.rows.Form.TheVariants as form
use Rattle.hsail_reader.specs.declared.types.AtomicOperation.{AtomicOperation}
use Rattle.hsail_reader.specs.declared.types.AtomicOperation.TheVariants as atomic
use Rattle.hsail_reader.specs.declared.types.BinaryOperation.{BinaryOperation}
use Rattle.hsail_reader.specs.declared.types.BinaryOperation.TheVariants.{And, Or, Xor, Compare}
use Rattle.hsail_reader.specs.declared.types.DataType.{DataType}
use Rattle.hsail_reader.specs.declared.types.DataType.TheVariants as type
use Rattle.hsail_reader.specs.declared.types.Modifiers.{Modifiers}
use Rattle.hsail_reader.specs.declared.types.Register.{Register}
use Rattle.hsail_reader.specs.declared.types.RegisterClass.{RegisterClass}
use Rattle.hsail_reader.specs.declared.types.RegisterClass.TheVariants as class
use Rattle.hsail_reader.specs.declared.types.Segment.{Segment}
use Rattle.hsail_reader.specs.declared.types.Segment.TheVariants as segment
use Rattle.hsail_reader.specs.declared.types.TernaryOperation.TheVariants.{MultiplyAdd, ConditionalMove}
use Rattle.hsail_reader.specs.declared.types.UnaryOperation.{UnaryOperation}
use Rattle.hsail_reader.specs.declared.types.UnaryOperation.TheVariants.{Not, Convert}
use Rattle.kernel_check.proofs.NeedLemmas.{is_absent, has_no_more, nothing_is_left_out, nothing_is_more}
use Rattle.kernel_check.proofs.OrderLemmas.{Keeps, atomic_keeps, binary_keeps, is1, is_source, load_keeps, same_number, ternary_keeps, unary_keeps}

-- ---- which operand passes a test

on_set : (P : Operand → Type 0) (k : RegisterClass) (o : Operand) → is_set k o ≡ true → ((t : Target) → P (operand.Target t)) → P o
on_set P k (operand.Target t) is f = f t
on_set P k _ is f = cc

on_read : (P : Operand → Type 0) (k : RegisterClass) (o : Operand) → is_read k o ≡ true → ((s : TypedSource) → P (operand.Source s)) → P o
on_read P k (operand.Source s) is f = f s
on_read P k _ is f = cc

on_loaded : (P : Operand → Type 0) (o : Operand) → is_loaded o ≡ true → ((a : Access) → P (operand.Address a)) → P o
on_loaded P (operand.Address a) is f = f a
on_loaded P _ is f = cc

on_written : (P : Operand → Type 0) (o : Operand) → is_written o ≡ true → ((a : Access) → P (operand.Address a)) → P o
on_written P (operand.Address a) is f = f a
on_written P _ is f = cc

on_label : (P : Operand → Type 0) (o : Operand) → is_label o ≡ true → ((x : List ℕ) → P (operand.Label x)) → P o
on_label P (operand.Label x) is f = f x
on_label P _ is f = cc

on_dimension : (P : Operand → Type 0) (o : Operand) → is_dimension o ≡ true → ((n : ℕ) → P (operand.Dimension n)) → P o
on_dimension P (operand.Dimension n) is f = f n
on_dimension P _ is f = cc

on_absent : (P : Operand → Type 0) (o : Operand) → is_absent o ≡ true → P operand.Absent → P o
on_absent P operand.Absent is p = p
on_absent P _ is p = cc

two : (p q : Bool) → (p && q) ≡ true → (p ≡ true) × (q ≡ true)
two true true e = (refl, refl)
two _ _ e = cc

three : (p q r : Bool) → (p && q && r) ≡ true → (p ≡ true) × (q ≡ true) × (r ≡ true)
three true true true e = (refl, refl, refl)
three _ _ _ e = cc

four : (p q r s : Bool) → (p && q && r && s) ≡ true → (p ≡ true) × (q ≡ true) × (r ≡ true) × (s ≡ true)
four true true true true e = (refl, refl, refl, refl)
four _ _ _ _ e = cc

five : (p q r s t : Bool) → (p && q && r && s && t) ≡ true
    → (p ≡ true) × (q ≡ true) × (r ≡ true) × (s ≡ true) × (t ≡ true)
five true true true true true e = (refl, refl, refl, refl, refl)
five _ _ _ _ _ e = cc

-- ---- how many sources a step reads

all_read : (found : List AnySource) (sources more : List TypedSource) → length found ≡ length sources
    → AreSources found (sources ++ more) → AreAllSources found sources
all_read [] [] more e are = tt
all_read [] (t ∷ sources) more e are = absurd (omega (arith, e))
all_read (a ∷ found) [] more e are = absurd (omega (arith, e))
all_read (a ∷ found) (t ∷ sources) more e are = (are.0, all_read found sources more (omega (arith, e)) are.1)

set_all : (o : Option ℕ) (r : Register) → is_some o ≡ true → IsTarget o r → o ≡ Some (register_number r)
set_all None r some is = cc
set_all (Some n) r some is = ap Some is

-- a step reads so many sources, and sets a register
abbrev Counts : Step → ℕ → Type 0
Counts s n = (length (reads s) ≡ n) × (is_some (sets s) ≡ true)

-- what keeps the order, and has as many, keeps all
all_kept : (s : Step) (r : Register) (sources more : List TypedSource) → Keeps s r (sources ++ more)
    → Counts s (length sources) → (sets s ≡ Some (register_number r)) × AreAllSources (reads s) sources
all_kept s r sources more keeps counts =
    (set_all (sets s) r counts.1 keeps.0, all_read (reads s) sources more counts.0 keeps.1)

unary_in_counts : (k : RegisterClass) (f : UnaryOperation) (n : ℕ) (s : TypedSource) → Counts (unary_in k f n s) 1
unary_in_counts class.Control Not n s = (refl, refl)
unary_in_counts class.Control _ n s = (refl, refl)
unary_in_counts class.Single Not n s = (refl, refl)
unary_in_counts class.Single _ n s = (refl, refl)
unary_in_counts class.Double Not n s = (refl, refl)
unary_in_counts class.Double _ n s = (refl, refl)

unary_counts : (f : UnaryOperation) (u : Unary) → Counts (unary_by f u) 1
unary_counts (Convert to) u = (refl, refl)
unary_counts f u = unary_in_counts (type_class u.kind) f (register_number u.target) u.source

abbrev binary : BinaryOperation → DataType → Register → TypedSource → TypedSource → Binary
binary f t r left right = record { operation = f; kind = t; target = r; left = left; right = right }

bit_counts : (f : BinaryOperation) (r : Register) (left right : TypedSource) → has_type f type.B1 ≡ true
    → Counts (binary1 (binary f type.B1 r left right)) 2
bit_counts And r left right has = (refl, refl)
bit_counts Or r left right has = (refl, refl)
bit_counts Xor r left right has = (refl, refl)
bit_counts (Compare c) r left right has = (refl, refl)
bit_counts _ r left right has = cc

single_counts : (f : BinaryOperation) (signed : Bool) (n : ℕ) (p : Pair (StepSource ℕ)) → Counts (binary32 f signed n p) 2
single_counts (Compare c) true n p = (refl, refl)
single_counts (Compare c) false n p = (refl, refl)
single_counts _ true n p = (refl, refl)
single_counts _ false n p = (refl, refl)

double_counts : (f : BinaryOperation) (signed : Bool) (n : ℕ) (p : Pair (StepSource ℕ)) (s : Shift64) → Counts (binary64 f signed n p s) 2
double_counts (Compare c) true n p s = (refl, refl)
double_counts (Compare c) false n p s = (refl, refl)
double_counts _ true n p s = (refl, refl)
double_counts _ false n p s = (refl, refl)

binary_counts : (f : BinaryOperation) (t : DataType) (r : Register) (left right : TypedSource) → has_type f t ≡ true
    → Counts (binary_of (binary f t r left right)) 2
binary_counts f type.B1 r left right has = bit_counts f r left right has
binary_counts f type.B64 r left right has = double_counts f false (register_number r) _ _
binary_counts f type.U64 r left right has = double_counts f false (register_number r) _ _
binary_counts f type.S64 r left right has = double_counts f true (register_number r) _ _
binary_counts f t r left right has = single_counts f (is_signed t) (register_number r) _

add_counts : (t : DataType) (u : Ternary) → is_wide t ≡ true → Counts (ternary_in (type_class t) MultiplyAdd u) 3
add_counts type.B1 u is = cc
add_counts _ u is = (refl, refl)

choice_counts : (k : RegisterClass) (u : Ternary) → Counts (ternary_in k ConditionalMove u) 3
choice_counts class.Control u = (refl, refl)
choice_counts _ u = (refl, refl)

abbrev atomic_count : AtomicOperation → ℕ
atomic_count atomic.CompareAndSwap = 2
atomic_count _ = 1

change_counts : {S : Type 0} (of_width : S → AnySource) (f : AtomicOperation) (signed : Bool) (s r : S)
    → length (change_reads of_width (change_of f signed s r)) ≡ atomic_count f
change_counts of_width atomic.CompareAndSwap signed s r = refl
change_counts of_width _ true s r = refl
change_counts of_width _ false s r = refl

atomic_counts : (k : RegisterClass) (a : Atomic) (p : AtomicPointer) → length (reads (atomic_in k a p)) ≡ atomic_count a.operation
atomic_counts class.Double a p = change_counts any.Double a.operation (is_signed a.kind) _ _
atomic_counts _ a p = change_counts any.Single a.operation (is_signed a.kind) _ _

atomic_sets : (k : RegisterClass) (a : Atomic) (p : AtomicPointer) → sets (atomic_in k a p) ≡ a.target
atomic_sets class.Double a p = refl
atomic_sets _ a p = refl

load_counts : (variables : List ℕ → Option Placed) (g : Segment) (r : Register) (a : Access) → Counts (load_from variables g r a) 0
load_counts variables segment.Kernarg r a = (refl, refl)
load_counts variables _ r a = (refl, refl)

-- ---- operations, by what they do

abbrev four_of : Operand → Operand → Operand → Operand → Operands
four_of a b c d = record { first = a; second = b; third = c; fourth = d }

module _ (variables : List ℕ → Option Placed) (labels : List ℕ → Option ℕ) (m : Modifiers) where
  abbrev with_operands : Form → DataType → Operand → Operand → Operand → Operand → Operation
  with_operands f t a b c d = operation f m t (four_of a b c d)

  -- the step of an operation of this form keeps all
  abbrev Exact : Form → DataType → Operand → Operand → Operand → Operand → Type 0
  Exact f t a b c d = KeepsAll (with_operands f t a b c d) (step_of variables labels (with_operands f t a b c d))

  unary_exact : (f : UnaryOperation) (t : DataType) (r : Target) (s : TypedSource)
      → Exact (form.Unary f) t (operand.Target r) (operand.Source s) operand.Absent operand.Absent
  unary_exact f t r s =
      let u = as_unary f (with_operands (form.Unary f) t (operand.Target r) (operand.Source s) operand.Absent operand.Absent) in
      all_kept (unary_by f u) r.register (s ∷ []) [] (unary_keeps f u) (unary_counts f u)

  binary_exact : (f : BinaryOperation) (t : DataType) (r : Target) (left right : TypedSource) → has_type f t ≡ true
      → Exact (form.Binary f) t (operand.Target r) (operand.Source left) (operand.Source right) operand.Absent
  binary_exact f t r left right has =
      let b = binary f t r.register left right in
      all_kept (binary_of b) r.register (left ∷ right ∷ []) [] (binary_keeps (type_class t) b)
      (binary_counts f t r.register left right has)

  add_exact : (t : DataType) (r : Target) (x y z : TypedSource) → is_wide t ≡ true
      → Exact (form.Ternary MultiplyAdd) t (operand.Target r) (operand.Source x) (operand.Source y) (operand.Source z)
  add_exact t r x y z is =
      let u = as_ternary MultiplyAdd (with_operands (form.Ternary MultiplyAdd) t (operand.Target r) (operand.Source x) (operand.Source y) (operand.Source z)) in
      all_kept (ternary_in (type_class t) MultiplyAdd u) r.register (x ∷ y ∷ z ∷ []) []
      (ternary_keeps (type_class t) MultiplyAdd u) (add_counts t u is)

  choice_exact : (t : DataType) (r : Target) (x y z : TypedSource)
      → Exact (form.Ternary ConditionalMove) t (operand.Target r) (operand.Source x) (operand.Source y) (operand.Source z)
  choice_exact t r x y z =
      let u = as_ternary ConditionalMove (with_operands (form.Ternary ConditionalMove) t (operand.Target r) (operand.Source x) (operand.Source y) (operand.Source z)) in
      all_kept (ternary_in (type_class t) ConditionalMove u) r.register (x ∷ y ∷ z ∷ []) []
      (ternary_keeps (type_class t) ConditionalMove u) (choice_counts (type_class t) u)

  load_exact : (t : DataType) (r : Target) (a : Access)
      → Exact form.Load t (operand.Target r) (operand.Address a) operand.Absent operand.Absent
  load_exact t r a =
      all_kept (load_from variables a.segment r.register a) r.register [] []
      (load_keeps variables a.segment r.register a) (load_counts variables a.segment r.register a)

  store_exact : (t : DataType) (s : TypedSource) (a : Access)
      → Exact form.Store t (operand.Source s) (operand.Address a) operand.Absent operand.Absent
  store_exact t s a = go a.segment
    where
      go : (g : Segment) → (sets (store_from variables g s a) ≡ None) × AreAllSources (reads (store_from variables g s a)) (s ∷ [])
      go segment.Group = (refl, (is_source (type_class s.kind) s, tt))
      go _ = (refl, (is_source (type_class s.kind) s, tt))

  -- an atomic operation with these sources, and perhaps others that it does not read
  atomic_exact : (a : Atomic) (p : AtomicPointer) (r : Register) (sources more : List TypedSource) → IsTarget a.target r
      → a.first ∷ a.second ∷ [] ≡ sources ++ more → atomic_count a.operation ≡ length sources
      → (sets (atomic_in (type_class a.kind) a p) ≡ a.target) × AreAllSources (reads (atomic_in (type_class a.kind) a p)) sources
  atomic_exact a p r sources more target same count =
      let k = type_class a.kind in (
        atomic_sets k a p,
        all_read (reads (atomic_in k a p)) sources more (atomic_counts k a p ∙ count)
            (subst (AreSources (reads (atomic_in k a p))) same (atomic_keeps k a p r target).1),
      )

  returning : (f : AtomicOperation) (t : DataType) (r : Target) (a : Access) (s : TypedSource) (d : Operand) (more : List TypedSource)
      → (sources : List TypedSource) → s ∷ read_in d ∷ [] ≡ sources ++ more → atomic_count f ≡ length sources
      → (sources_by (four_of (operand.Target r) (operand.Address a) (operand.Source s) d) ≡ sources)
      → Exact (form.Atomic f) t (operand.Target r) (operand.Address a) (operand.Source s) d
  returning f t r a s d more sources same count all =
      let x = as_atomic f (with_operands (form.Atomic f) t (operand.Target r) (operand.Address a) (operand.Source s) d) in
      let p = atomic_pointer variables a.segment a.address in
      let e = atomic_exact x p r.register sources more refl same count in
      (e.0, subst (AreAllSources (reads (atomic_in (type_class t) x p))) (sym all) e.1)

  silent : (f : AtomicOperation) (t : DataType) (a : Access) (s : TypedSource) (c : Operand) (more : List TypedSource)
      → (sources : List TypedSource) → s ∷ read_in c ∷ [] ≡ sources ++ more → atomic_count f ≡ length sources
      → (sources_by (four_of (operand.Address a) (operand.Source s) c operand.Absent) ≡ sources)
      → Exact (form.AtomicNoReturn f) t (operand.Address a) (operand.Source s) c operand.Absent
  silent f t a s c more sources same count all =
      let x = as_no_return f (with_operands (form.AtomicNoReturn f) t (operand.Address a) (operand.Source s) c operand.Absent) in
      let p = atomic_pointer variables a.segment a.address in
      let e = atomic_exact x p (record { class = class.Control; number = 0 }) sources more tt same count in
      (e.0, subst (AreAllSources (reads (atomic_in (type_class t) x p))) (sym all) e.1)

  returning_one : (f : AtomicOperation) (t : DataType) (r : Target) (a : Access) (s : TypedSource) → atomic_count f ≡ 1
      → Exact (form.Atomic f) t (operand.Target r) (operand.Address a) (operand.Source s) operand.Absent
  returning_one f t r a s one = returning f t r a s operand.Absent (read_in operand.Absent ∷ []) (s ∷ []) refl one refl

  silent_one : (f : AtomicOperation) (t : DataType) (a : Access) (s : TypedSource) → atomic_count f ≡ 1
      → Exact (form.AtomicNoReturn f) t (operand.Address a) (operand.Source s) operand.Absent operand.Absent
  silent_one f t a s one = silent f t a s operand.Absent (read_in operand.Absent ∷ []) (s ∷ []) refl one refl

  exact : (f : Form) (t : DataType) (a b c d : Operand) → has_needed f t (four_of a b c d) ≡ true
      → has_no_more f (four_of a b c d) ≡ true → Exact f t a b c d
  exact (form.Unary (Convert to)) t a b c d has none =
      let h = two _ _ has in
      let n = two _ _ none in
      let f = form.Unary (Convert to) in
      on_set (λ a. Exact f t a b c d) _ a h.0 (λ r. on_read (λ b. Exact f t (operand.Target r) b c d) _ b h.1
      (λ s. on_absent (λ c. Exact f t (operand.Target r) (operand.Source s) c d) c n.0
      (on_absent (λ d. Exact f t (operand.Target r) (operand.Source s) operand.Absent d) d n.1 (unary_exact (Convert to) t r s))))
  exact (form.Unary u) t a b c d has none =
      let h = three _ _ _ has in
      let n = two _ _ none in
      let f = form.Unary u in
      on_set (λ a. Exact f t a b c d) _ a h.1 (λ r. on_read (λ b. Exact f t (operand.Target r) b c d) _ b h.2
      (λ s. on_absent (λ c. Exact f t (operand.Target r) (operand.Source s) c d) c n.0
      (on_absent (λ d. Exact f t (operand.Target r) (operand.Source s) operand.Absent d) d n.1 (unary_exact u t r s))))
  exact (form.Binary g) t a b c d has none =
      let h = four _ _ _ _ has in
      let f = form.Binary g in
      on_set (λ a. Exact f t a b c d) _ a h.1 (λ r. on_read (λ b. Exact f t (operand.Target r) b c d) _ b h.2
      (λ x. on_read (λ c. Exact f t (operand.Target r) (operand.Source x) c d) _ c h.3
      (λ y. on_absent (λ d. Exact f t (operand.Target r) (operand.Source x) (operand.Source y) d) d none (binary_exact g t r x y h.0))))
  exact (form.Ternary MultiplyAdd) t a b c d has none =
      let h = five _ _ _ _ _ has in
      let f = form.Ternary MultiplyAdd in
      on_set (λ a. Exact f t a b c d) _ a h.1 (λ r. on_read (λ b. Exact f t (operand.Target r) b c d) _ b h.2
      (λ x. on_read (λ c. Exact f t (operand.Target r) (operand.Source x) c d) _ c h.3
      (λ y. on_read (λ d. Exact f t (operand.Target r) (operand.Source x) (operand.Source y) d) _ d h.4 (λ z. add_exact t r x y z h.0))))
  exact (form.Ternary ConditionalMove) t a b c d has none =
      let h = five _ _ _ _ _ has in
      let f = form.Ternary ConditionalMove in
      on_set (λ a. Exact f t a b c d) _ a h.1 (λ r. on_read (λ b. Exact f t (operand.Target r) b c d) _ b h.2
      (λ x. on_read (λ c. Exact f t (operand.Target r) (operand.Source x) c d) _ c h.3
      (λ y. on_read (λ d. Exact f t (operand.Target r) (operand.Source x) (operand.Source y) d) _ d h.4 (λ z. choice_exact t r x y z))))
  exact form.Load t a b c d has none =
      let h = two _ _ has in
      let n = two _ _ none in
      let f = form.Load in
      on_set (λ a. Exact f t a b c d) _ a h.0 (λ r. on_loaded (λ b. Exact f t (operand.Target r) b c d) b h.1
      (λ x. on_absent (λ c. Exact f t (operand.Target r) (operand.Address x) c d) c n.0
      (on_absent (λ d. Exact f t (operand.Target r) (operand.Address x) operand.Absent d) d n.1 (load_exact t r x))))
  exact form.Store t a b c d has none =
      let h = two _ _ has in
      let n = two _ _ none in
      let f = form.Store in
      on_read (λ a. Exact f t a b c d) _ a h.0 (λ s. on_written (λ b. Exact f t (operand.Source s) b c d) b h.1
      (λ x. on_absent (λ c. Exact f t (operand.Source s) (operand.Address x) c d) c n.0
      (on_absent (λ d. Exact f t (operand.Source s) (operand.Address x) operand.Absent d) d n.1 (store_exact t s x))))
  exact (form.Atomic atomic.CompareAndSwap) t a b c d has none =
      let h = five _ _ _ _ _ has in
      let f = form.Atomic atomic.CompareAndSwap in
      on_set (λ a. Exact f t a b c d) _ a h.1 (λ r. on_written (λ b. Exact f t (operand.Target r) b c d) b h.2
      (λ x. on_read (λ c. Exact f t (operand.Target r) (operand.Address x) c d) _ c h.3
      (λ y. on_read (λ d. Exact f t (operand.Target r) (operand.Address x) (operand.Source y) d) _ d h.4
      (λ z. returning atomic.CompareAndSwap t r x y (operand.Source z) [] (y ∷ z ∷ []) refl refl refl))))
  exact (form.Atomic g) t a b c d has none =
      let h = five _ _ _ _ _ has in
      let f = form.Atomic g in
      on_set (λ a. Exact f t a b c d) _ a h.1 (λ r. on_written (λ b. Exact f t (operand.Target r) b c d) b h.2
      (λ x. on_read (λ c. Exact f t (operand.Target r) (operand.Address x) c d) _ c h.3
      (λ y. on_absent (λ d. Exact f t (operand.Target r) (operand.Address x) (operand.Source y) d) d none
      (returning_one g t r x y refl))))
  exact (form.AtomicNoReturn atomic.CompareAndSwap) t a b c d has none =
      let h = four _ _ _ _ has in
      let f = form.AtomicNoReturn atomic.CompareAndSwap in
      on_written (λ a. Exact f t a b c d) a h.1 (λ x. on_read (λ b. Exact f t (operand.Address x) b c d) _ b h.2
      (λ y. on_read (λ c. Exact f t (operand.Address x) (operand.Source y) c d) _ c h.3
      (λ z. on_absent (λ d. Exact f t (operand.Address x) (operand.Source y) (operand.Source z) d) d none
      (silent atomic.CompareAndSwap t x y (operand.Source z) [] (y ∷ z ∷ []) refl refl refl))))
  exact (form.AtomicNoReturn g) t a b c d has none =
      let h = four _ _ _ _ has in
      let n = two _ _ none in
      let f = form.AtomicNoReturn g in
      on_written (λ a. Exact f t a b c d) a h.1 (λ x. on_read (λ b. Exact f t (operand.Address x) b c d) _ b h.2
      (λ y. on_absent (λ c. Exact f t (operand.Address x) (operand.Source y) c d) c n.0
      (on_absent (λ d. Exact f t (operand.Address x) (operand.Source y) operand.Absent d) d n.1 (silent_one g t x y refl))))
  exact form.Branch t a b c d has none =
      let n = three _ _ _ none in
      let f = form.Branch in
      on_label (λ a. Exact f t a b c d) a has (λ x. on_absent (λ b. Exact f t (operand.Label x) b c d) b n.0
      (on_absent (λ c. Exact f t (operand.Label x) operand.Absent c d) c n.1
      (on_absent (λ d. Exact f t (operand.Label x) operand.Absent operand.Absent d) d n.2 (refl, tt))))
  exact form.ConditionalBranch t a b c d has none =
      let h = two _ _ has in
      let n = two _ _ none in
      let f = form.ConditionalBranch in
      on_read (λ a. Exact f t a b c d) _ a h.0 (λ s. on_label (λ b. Exact f t (operand.Source s) b c d) b h.1
      (λ x. on_absent (λ c. Exact f t (operand.Source s) (operand.Label x) c d) c n.0
      (on_absent (λ d. Exact f t (operand.Source s) (operand.Label x) operand.Absent d) d n.1 (refl, (is1 s, tt)))))
  exact (form.WorkItemQuery q) t a b c d has none =
      let h = three _ _ _ has in
      let n = two _ _ none in
      let f = form.WorkItemQuery q in
      on_set (λ a. Exact f t a b c d) _ a h.1 (λ r. on_dimension (λ b. Exact f t (operand.Target r) b c d) b h.2
      (λ x. on_absent (λ c. Exact f t (operand.Target r) (operand.Dimension x) c d) c n.0
      (on_absent (λ d. Exact f t (operand.Target r) (operand.Dimension x) operand.Absent d) d n.1
      (ap Some (same_number (type_class t) r.register), tt))))
  exact f t a b c d has none =
      let n = four _ _ _ _ none in
      on_absent (λ a. Exact f t a b c d) a n.0
      (on_absent (λ b. Exact f t operand.Absent b c d) b n.1
      (on_absent (λ c. Exact f t operand.Absent operand.Absent c d) c n.2
      (on_absent (λ d. Exact f t operand.Absent operand.Absent operand.Absent d) d n.3 (refl, tt))))

pub keeps_all : (variables : List ℕ → Option Placed) (labels : List ℕ → Option ℕ) (op : Operation) → IsOfRow op
    → KeepsAll op (step_of variables labels op)
keeps_all variables labels op is =
    let o = op.operands in
    exact variables labels op.modifiers op.form op.kind o.first o.second o.third o.fourth (nothing_is_left_out op is)
    (nothing_is_more op is)
