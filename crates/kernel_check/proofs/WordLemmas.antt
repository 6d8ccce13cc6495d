-- The word of an operation's row is among those that its step stands for.
use Rattle.std.proofs.Common.{◌≡◌, ℕ, zero, suc, ◌<◌, List, [], ◌∷◌, ◌++◌, codes, Bool, true, false, ◌||◌, Option, Some, None, refl, sym, ap, ◌∙◌, subst, arith}
use Rattle.std.specs.List.{Contains}
use Rattle.std.specs.Str.{bytes_eq}
use Rattle.std.proofs.lemmas.Slice.Eq.{bytes_eq-Decides}
use Rattle.hsail_reader.specs.RowOperations.{HasShape, IsOfRow}
use Rattle.hsail_reader.specs.Rows.{InstructionRow, rows}
use Rattle.hsail_reader.specs.Types.{type_class}
use Rattle.hsail_reader.specs.declared.module.Access.{Access}
use Rattle.hsail_reader.specs.declared.module.Address.TheVariants as address
use Rattle.hsail_reader.specs.declared.module.Operand.{Operand}
use Rattle.hsail_reader.specs.declared.module.Operand.TheVariants as operand
use Rattle.hsail_reader.specs.declared.module.Operation.{Operation}
use Rattle.hsail_reader.specs.declared.module.TypedSource.{TypedSource}
use Rattle.hsail_reader.specs.declared.rows.Form.{Form}
use Rattle.hsail_reader.specs.declared.rows.Form.TheVariants as form
use Rattle.hsail_reader.specs.declared.rows.Shape.{Shape}
use Rattle.hsail_reader.specs.declared.rows.Shape.TheVariants as shape
use Rattle.hsail_reader.specs.declared.rows.Shapes.{Shapes}
use Rattle.hsail_reader.specs.declared.types.AtomicOperation.{AtomicOperation}
use Rattle.hsail_reader.specs.declared.types.AtomicOperation.TheVariants as atomic
use Rattle.hsail_reader.specs.declared.types.BinaryOperation.{BinaryOperation}
use Rattle.hsail_reader.specs.declared.types.BinaryOperation.TheVariants as binary
use Rattle.hsail_reader.specs.declared.types.DataType.{DataType}
use Rattle.hsail_reader.specs.declared.types.Modifiers.TheVariants as modifiers
use Rattle.hsail_reader.specs.declared.types.Register.{Register}
use Rattle.hsail_reader.specs.declared.types.RegisterClass.{RegisterClass}
use Rattle.hsail_reader.specs.declared.types.RegisterClass.TheVariants as class
use Rattle.hsail_reader.specs.declared.types.Segment.{Segment}
use Rattle.hsail_reader.specs.declared.types.Segment.TheVariants as segment
use Rattle.hsail_reader.specs.declared.types.TernaryOperation.{TernaryOperation}
use Rattle.hsail_reader.specs.declared.types.TernaryOperation.TheVariants.{MultiplyAdd, ConditionalMove}
use Rattle.hsail_reader.specs.declared.types.UnaryOperation.{UnaryOperation}
use Rattle.hsail_reader.specs.declared.types.UnaryOperation.TheVariants.{Move, Not, Convert}
use Rattle.hsail_reader.specs.declared.types.WorkItemQuery.{WorkItemQuery}
use Rattle.hsail_reader.proofs.WordRows.{every, every_passes}
use Rattle.kernel_check.specs.StepWords.{access_names, answer_names, atomic_front, change_words, control_words, double_words, each_with, number_name, query_name, segment_between, single_words, step_words, word_of}
use Rattle.kernel_check.specs.Steps.{as_atomic, as_binary, as_no_return, as_ternary, as_unary, change_of, atomic_at, atomic_in, atomic_pointer, binary32, binary64, binary_in, control_operation, double_operation, form_step, is_signed, load_at, load_from, number_type, pair32_of, pair64_of, read_in, register_in, register_of, shift64_of, single_operation, register_number, source1_of, source32_of, source64_of, source_of, step_of, store_at, store_from, target_in, ternary_in, unary_by, unary_in}
use Rattle.kernel_check.specs.declared.layout.Placed.{Placed}
use Rattle.kernel_check.specs.declared.memory.Atomic.{Atomic}
use Rattle.kernel_check.specs.declared.step.AtomicPointer.{AtomicPointer}
use Rattle.kernel_check.specs.declared.step.Pair.{Pair}
use Rattle.kernel_check.specs.declared.step.Shift64.{Shift64}
use Rattle.kernel_check.specs.declared.step.Source.{Source as StepSource}
use Rattle.kernel_check.specs.declared.translate.Binary.{Binary}
use Rattle.kernel_check.specs.declared.translate.Ternary.{Ternary}
use Rattle.kernel_check.specs.declared.translate.Unary.{Unary}
use Rattle.kernel_check.proofs.NeedLemmas.{is_word_type, sample, samples, some_register, word_types}

-- a step's words don't depend on its registers and constants: each lemma below takes two instructions that are alike
control_alike : (f : BinaryOperation) (p q : Pair (StepSource Bool)) → control_words (control_operation f p) ≡ control_words (control_operation f q)
control_alike binary.Add p q = refl
control_alike binary.Subtract p q = refl
control_alike binary.Multiply p q = refl
control_alike binary.Divide p q = refl
control_alike binary.Remainder p q = refl
control_alike binary.Minimum p q = refl
control_alike binary.Maximum p q = refl
control_alike binary.And p q = refl
control_alike binary.Or p q = refl
control_alike binary.Xor p q = refl
control_alike binary.ShiftLeft p q = refl
control_alike binary.ShiftRight p q = refl
control_alike (binary.Compare c) p q = refl

binary32_alike : (f : BinaryOperation) (signed : Bool) (d e : ℕ) (p q : Pair (StepSource ℕ)) → step_words (binary32 f signed d p) ≡ step_words (binary32 f signed e q)
binary32_alike binary.Add signed d e p q = refl
binary32_alike binary.Subtract signed d e p q = refl
binary32_alike binary.Multiply signed d e p q = refl
binary32_alike binary.Divide false d e p q = refl
binary32_alike binary.Divide true d e p q = refl
binary32_alike binary.Remainder false d e p q = refl
binary32_alike binary.Remainder true d e p q = refl
binary32_alike binary.Minimum false d e p q = refl
binary32_alike binary.Minimum true d e p q = refl
binary32_alike binary.Maximum false d e p q = refl
binary32_alike binary.Maximum true d e p q = refl
binary32_alike binary.And signed d e p q = refl
binary32_alike binary.Or signed d e p q = refl
binary32_alike binary.Xor signed d e p q = refl
binary32_alike binary.ShiftLeft signed d e p q = refl
binary32_alike binary.ShiftRight false d e p q = refl
binary32_alike binary.ShiftRight true d e p q = refl
binary32_alike (binary.Compare c) false d e p q = refl
binary32_alike (binary.Compare c) true d e p q = refl

binary64_alike : (f : BinaryOperation) (signed : Bool) (d e : ℕ) (p q : Pair (StepSource ℕ)) (s t : Shift64) → step_words (binary64 f signed d p s) ≡ step_words (binary64 f signed e q t)
binary64_alike binary.Add signed d e p q s t = refl
binary64_alike binary.Subtract signed d e p q s t = refl
binary64_alike binary.Multiply signed d e p q s t = refl
binary64_alike binary.Divide false d e p q s t = refl
binary64_alike binary.Divide true d e p q s t = refl
binary64_alike binary.Remainder false d e p q s t = refl
binary64_alike binary.Remainder true d e p q s t = refl
binary64_alike binary.Minimum false d e p q s t = refl
binary64_alike binary.Minimum true d e p q s t = refl
binary64_alike binary.Maximum false d e p q s t = refl
binary64_alike binary.Maximum true d e p q s t = refl
binary64_alike binary.And signed d e p q s t = refl
binary64_alike binary.Or signed d e p q s t = refl
binary64_alike binary.Xor signed d e p q s t = refl
binary64_alike binary.ShiftLeft signed d e p q s t = refl
binary64_alike binary.ShiftRight false d e p q s t = refl
binary64_alike binary.ShiftRight true d e p q s t = refl
binary64_alike (binary.Compare c) false d e p q s t = refl
binary64_alike (binary.Compare c) true d e p q s t = refl

change_alike : {S : Type 0} (width front between : List ℕ) (f : AtomicOperation) (signed : Bool) (s r t q : S)
    → change_words width front between (change_of f signed s r) ≡ change_words width front between (change_of f signed t q)
change_alike width front between atomic.Add signed s r t q = refl
change_alike width front between atomic.Subtract signed s r t q = refl
change_alike width front between atomic.Minimum false s r t q = refl
change_alike width front between atomic.Minimum true s r t q = refl
change_alike width front between atomic.Maximum false s r t q = refl
change_alike width front between atomic.Maximum true s r t q = refl
change_alike width front between atomic.And signed s r t q = refl
change_alike width front between atomic.Or signed s r t q = refl
change_alike width front between atomic.Xor signed s r t q = refl
change_alike width front between atomic.Exchange signed s r t q = refl
change_alike width front between atomic.CompareAndSwap signed s r t q = refl

unary_in_alike : (k : RegisterClass) (f : UnaryOperation) (d e : ℕ) (s t : TypedSource) → step_words (unary_in k f d s) ≡ step_words (unary_in k f e t)
unary_in_alike class.Control Not d e s t = refl
unary_in_alike class.Control Move d e s t = refl
unary_in_alike class.Control (Convert to) d e s t = refl
unary_in_alike class.Single Not d e s t = refl
unary_in_alike class.Single Move d e s t = refl
unary_in_alike class.Single (Convert to) d e s t = refl
unary_in_alike class.Double Not d e s t = refl
unary_in_alike class.Double Move d e s t = refl
unary_in_alike class.Double (Convert to) d e s t = refl

binary_alike : (k : RegisterClass) (f : BinaryOperation) (t : DataType) (d e : Register) (a b x y : TypedSource)
    → step_words (binary_in k (record { operation = f; kind = t; target = d; left = a; right = b }))
    ≡ step_words (binary_in k (record { operation = f; kind = t; target = e; left = x; right = y }))
binary_alike class.Control f t d e a b x y =
    control_alike f (record { left = source1_of a; right = source1_of b }) (record { left = source1_of x; right = source1_of y })
binary_alike class.Single f t d e a b x y =
    binary32_alike f (is_signed t) (register_number d) (register_number e) (record { left = source32_of a; right = source32_of b })
    (record { left = source32_of x; right = source32_of y })
binary_alike class.Double f t d e a b x y =
    binary64_alike f (is_signed t) (register_number d) (register_number e) (record { left = source64_of a; right = source64_of b })
    (record { left = source64_of x; right = source64_of y }) (record { value = source64_of a; count = source32_of b })
    (record { value = source64_of x; count = source32_of y })

ternary_alike : (k : RegisterClass) (f : TernaryOperation) (a b : Ternary) → step_words (ternary_in k f a) ≡ step_words (ternary_in k f b)
ternary_alike class.Control MultiplyAdd a b = refl
ternary_alike class.Control ConditionalMove a b = refl
ternary_alike class.Single MultiplyAdd a b = refl
ternary_alike class.Single ConditionalMove a b = refl
ternary_alike class.Double MultiplyAdd a b = refl
ternary_alike class.Double ConditionalMove a b = refl

-- some source
abbrev no_source : TypedSource
no_source = read_in operand.Absent

-- what an atomic operation's words depend on
abbrev atomic_words : RegisterClass → AtomicOperation → Bool → List ℕ → List ℕ → List (List ℕ)
atomic_words class.Double f signed front between = change_words (codes "64") front between (change_of f signed (source64_of no_source) (source64_of no_source))
atomic_words _ f signed front between = change_words (codes "32") front between (change_of f signed (source32_of no_source) (source32_of no_source))

atomic_in_words : (k : RegisterClass) (a : Atomic) (p : AtomicPointer)
    → step_words (atomic_in k a p) ≡ atomic_words k a.operation (is_signed a.kind) (atomic_front a.target) (segment_between p)
atomic_in_words class.Double a p =
    change_alike (codes "64") (atomic_front a.target) (segment_between p) a.operation (is_signed a.kind) (source64_of a.first) (source64_of a.second)
    (source64_of no_source) (source64_of no_source)
atomic_in_words class.Control a p =
    change_alike (codes "32") (atomic_front a.target) (segment_between p) a.operation (is_signed a.kind) (source32_of a.first) (source32_of a.second)
    (source32_of no_source) (source32_of no_source)
atomic_in_words class.Single a p =
    change_alike (codes "32") (atomic_front a.target) (segment_between p) a.operation (is_signed a.kind) (source32_of a.first) (source32_of a.second)
    (source32_of no_source) (source32_of no_source)

abbrev nowhere : List ℕ → Option Placed
nowhere x = None

abbrev some_access : Segment → DataType → Access
some_access g t = record { segment = g; kind = t; address = address.Variable [] }

between_is : (variables : List ℕ → Option Placed) (g : Segment) (a : Access)
    → segment_between (atomic_pointer variables g a.address) ≡ segment_between (atomic_pointer nowhere g (address.Variable []))
between_is variables segment.Kernarg a = refl
between_is variables segment.Global a = refl
between_is variables segment.Group a = refl

load_from_is : (variables : List ℕ → Option Placed) (g : Segment) (d : Register) (a : Access)
    → step_words (load_from variables g d a) ≡ step_words (load_from nowhere g some_register (some_access g a.kind))
load_from_is variables segment.Kernarg d a = refl
load_from_is variables segment.Global d a = refl
load_from_is variables segment.Group d a = refl

store_from_is : (variables : List ℕ → Option Placed) (g : Segment) (s : TypedSource) (a b : Access) (r : TypedSource) → s.kind ≡ r.kind
    → step_words (store_from variables g s a) ≡ step_words (store_from nowhere g r b)
store_from_is variables segment.Kernarg s a b r same = ap (λ t. each_with (codes "st_global_") (access_names (number_type t))) same
store_from_is variables segment.Global s a b r same = ap (λ t. each_with (codes "st_global_") (access_names (number_type t))) same
store_from_is variables segment.Group s a b r same = ap (λ t. each_with (codes "st_group_") (access_names (number_type t))) same

-- ---- operands of a shape

load_at_is : (variables : List ℕ → Option Placed) (d e : Register) (s : Shape) (t : DataType) (o : Operand) → HasShape s t o
    → step_words (load_at variables d o) ≡ step_words (load_at nowhere e (sample s t))
load_at_is variables d e (shape.Address g) t (operand.Address a) has =
    load_from_is variables a.segment d a
    ∙ ap (λ k. step_words (load_from nowhere a.segment some_register (some_access a.segment k))) has.1
    ∙ ap (λ h. step_words (load_from nowhere h some_register (some_access h t))) has.0
    ∙ sym (load_from_is nowhere g e (some_access g t))
load_at_is variables d e shape.Absent t operand.Absent has = refl
load_at_is variables d e (shape.Target at) t (operand.Target x) has = refl
load_at_is variables d e (shape.Source at) t (operand.Source x) has = refl
load_at_is variables d e shape.Label t (operand.Label x) has = refl
load_at_is variables d e shape.Dimension t (operand.Dimension n) has = refl
load_at_is variables d e _ t _ has = absurd has

store_at_is : (variables : List ℕ → Option Placed) (s r : TypedSource) → s.kind ≡ r.kind → (g : Shape) (t : DataType) (o : Operand) → HasShape g t o
    → step_words (store_at variables s o) ≡ step_words (store_at nowhere r (sample g t))
store_at_is variables s r same (shape.Address g) t (operand.Address a) has =
    store_from_is variables a.segment s a (some_access g t) r same
    ∙ ap (λ h. step_words (store_from nowhere h r (some_access g t))) has.0
store_at_is variables s r same shape.Absent t operand.Absent has = refl
store_at_is variables s r same (shape.Target at) t (operand.Target x) has = refl
store_at_is variables s r same (shape.Source at) t (operand.Source x) has = refl
store_at_is variables s r same shape.Label t (operand.Label x) has = refl
store_at_is variables s r same shape.Dimension t (operand.Dimension n) has = refl
store_at_is variables s r same _ t _ has = absurd has

atomic_at_is : (variables : List ℕ → Option Placed) (a b : Atomic) → a.operation ≡ b.operation → a.kind ≡ b.kind → atomic_front a.target ≡ atomic_front b.target
    → (s : Shape) (t : DataType) (o : Operand) → HasShape s t o → step_words (atomic_at variables a o) ≡ step_words (atomic_at nowhere b (sample s t))
atomic_at_is variables a b same_operation same_kind same_front (shape.Address g) t (operand.Address x) has =
    atomic_in_words (type_class a.kind) a (atomic_pointer variables x.segment x.address)
    ∙ ap (λ f. atomic_words (type_class a.kind) f (is_signed a.kind) (atomic_front a.target) (segment_between (atomic_pointer variables x.segment x.address))) same_operation
    ∙ ap (λ k. atomic_words (type_class k) b.operation (is_signed k) (atomic_front a.target) (segment_between (atomic_pointer variables x.segment x.address))) same_kind
    ∙ ap (λ f. atomic_words (type_class b.kind) b.operation (is_signed b.kind) f (segment_between (atomic_pointer variables x.segment x.address))) same_front
    ∙ ap (atomic_words (type_class b.kind) b.operation (is_signed b.kind) (atomic_front b.target)) (between_is variables x.segment x)
    ∙ ap (λ h. atomic_words (type_class b.kind) b.operation (is_signed b.kind) (atomic_front b.target) (segment_between (atomic_pointer nowhere h (address.Variable [])))) has.0
    ∙ sym (atomic_in_words (type_class b.kind) b (atomic_pointer nowhere g (address.Variable [])))
atomic_at_is variables a b same_operation same_kind same_front shape.Absent t operand.Absent has = refl
atomic_at_is variables a b same_operation same_kind same_front (shape.Target at) t (operand.Target x) has = refl
atomic_at_is variables a b same_operation same_kind same_front (shape.Source at) t (operand.Source x) has = refl
atomic_at_is variables a b same_operation same_kind same_front shape.Label t (operand.Label x) has = refl
atomic_at_is variables a b same_operation same_kind same_front shape.Dimension t (operand.Dimension n) has = refl
atomic_at_is variables a b same_operation same_kind same_front _ t _ has = absurd has

-- the type at which an operand is read is its shape's
read_kind : (s : Shape) (t : DataType) (o : Operand) → HasShape s t o → (read_in o).kind ≡ (read_in (sample s t)).kind
read_kind (shape.Source at) t (operand.Source x) has = has
read_kind shape.Absent t operand.Absent has = refl
read_kind (shape.Target at) t (operand.Target x) has = refl
read_kind (shape.Address g) t (operand.Address a) has = refl
read_kind shape.Label t (operand.Label x) has = refl
read_kind shape.Dimension t (operand.Dimension n) has = refl
read_kind _ t _ has = absurd has

query_is : (q : WorkItemQuery) (k : RegisterClass) (d e : Register)
    → each_with (query_name q) (answer_names (register_in k d)) ≡ each_with (query_name q) (answer_names (register_in k e))
query_is q class.Control d e = refl
query_is q class.Single d e = refl
query_is q class.Double d e = refl

-- an operation with some operands of its row's shapes
abbrev sample_of : Form → Shapes → DataType → Operation
sample_of f s t = record { form = f; modifiers = modifiers.Plain; kind = t; operands = samples s t }

abbrev nothing_named : List ℕ → Option ℕ
nothing_named x = None

module _ (variables : List ℕ → Option Placed) (labels : List ℕ → Option ℕ) (op : Operation) (s : Shapes)
    (first : HasShape s.0 op.kind op.operands.first) (second : HasShape s.1 op.kind op.operands.second) where
  form_alike : (f : Form) → step_words (form_step variables labels f op) ≡ step_words (form_step nowhere nothing_named f (sample_of f s op.kind))
  form_alike (form.Unary (Convert to)) = ap (λ t. (codes "cvt_" ++ number_name (number_type to) ++ codes "_" ++ number_name (number_type t)) ∷ []) (read_kind s.1 op.kind op.operands.second second)
  form_alike (form.Unary Move) =
      unary_in_alike (type_class op.kind) Move (register_number (target_in op.operands.first)) (register_number (target_in (sample s.0 op.kind)))
      (read_in op.operands.second) (read_in (sample s.1 op.kind))
  form_alike (form.Unary Not) =
      unary_in_alike (type_class op.kind) Not (register_number (target_in op.operands.first)) (register_number (target_in (sample s.0 op.kind)))
      (read_in op.operands.second) (read_in (sample s.1 op.kind))
  form_alike (form.Binary f) =
      binary_alike (type_class op.kind) f op.kind (target_in op.operands.first) (target_in (sample s.0 op.kind))
      (read_in op.operands.second) (read_in op.operands.third) (read_in (sample s.1 op.kind)) (read_in (sample s.2 op.kind))
  form_alike (form.Ternary f) = ternary_alike (type_class op.kind) f (as_ternary f op) (as_ternary f (sample_of (form.Ternary f) s op.kind))
  form_alike form.Load = load_at_is variables (target_in op.operands.first) (target_in (sample s.0 op.kind)) s.1 op.kind op.operands.second second
  form_alike form.Store =
      store_at_is variables (read_in op.operands.first) (read_in (sample s.0 op.kind)) (read_kind s.0 op.kind op.operands.first first) s.1 op.kind op.operands.second second
  form_alike (form.Atomic f) = atomic_at_is variables (as_atomic f op) (as_atomic f (sample_of (form.Atomic f) s op.kind)) refl refl refl s.1 op.kind op.operands.second second
  form_alike (form.AtomicNoReturn f) =
      atomic_at_is variables (as_no_return f op) (as_no_return f (sample_of (form.AtomicNoReturn f) s op.kind)) refl refl refl s.0 op.kind op.operands.first first
  form_alike form.Branch = refl
  form_alike form.ConditionalBranch = refl
  form_alike form.Return = refl
  form_alike form.Barrier = refl
  form_alike (form.WorkItemQuery q) = query_is q (type_class op.kind) (target_in op.operands.first) (target_in (sample s.0 op.kind))

-- ---- the table

abbrev is_listed : List ℕ → List (List ℕ) → Bool
is_listed word [] = false
is_listed word (w ∷ words) = bytes_eq w word || is_listed word words

listed : (word : List ℕ) (words : List (List ℕ)) → is_listed word words ≡ true → Contains words word
listed word [] e = absurd cc
listed word (w ∷ words) e = by_test (bytes_eq w word) refl e (listed word words)
  where
    by_test : (b : Bool) → bytes_eq w word ≡ b → (b || is_listed word words) ≡ true → (is_listed word words ≡ true → Contains words word)
        → Contains (w ∷ words) word
    by_test true same e further = (zero, omega arith, (bytes_eq-Decides w word).0 same)
    by_test false other e further = let there = further e in (suc there.0, omega (arith, there.1), there.2)

-- the word of a row at a type is among those of its step
abbrev row_is_told : InstructionRow → DataType → Bool
row_is_told row t = is_listed (word_of row t) (step_words (form_step nowhere nothing_named row.form (sample_of row.form row.operands t)))

pub comes_to : (variables : List ℕ → Option Placed) (labels : List ℕ → Option ℕ) (op : Operation) (is : IsOfRow op)
    → Contains (step_words (step_of variables labels op)) (word_of is.row op.kind)
comes_to variables labels op is =
    let row = is.row in
    let there : every (row_is_told row) (word_types row.types) ≡ true =
    every_passes (λ r. every (row_is_told r) (word_types r.types)) rows row refl is.listed in
    let here : row_is_told row op.kind ≡ true = every_passes (row_is_told row) (word_types row.types) op.kind there (is_word_type row.types op.kind is.type) in
    let same : step_words (step_of variables labels op) ≡ step_words (form_step nowhere nothing_named row.form (sample_of row.form row.operands op.kind)) =
    form_alike variables labels op row.operands is.first is.second op.form
    ∙ ap (λ f. step_words (form_step nowhere nothing_named f (sample_of f row.operands op.kind))) (sym is.form) in
    subst (λ words. Contains words (word_of row op.kind)) (sym same) (listed (word_of row op.kind) (step_words (form_step nowhere nothing_named row.form (sample_of row.form row.operands op.kind))) here)
