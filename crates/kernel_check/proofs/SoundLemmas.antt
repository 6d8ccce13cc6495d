-- A kernel in which nothing fails is sound: its steps stay within its steps and its argument block.
use Rattle.std.proofs.Common.{◌≡◌, ℕ, ⊎_elim, ◌+◌, ◌-◌, ◌*◌, ◌/◌, ◌%◌, ◌^◌, ◌<◌, ◌≤◌, Bool, true, false, not, ◌||◌, ◌==◌, nat_le, if◌then◌else◌, cond, List, [], ◌∷◌, ◌++◌, length, Option, Some, None, is_none, unwrap_or, map, arith, refl, ap, sym, ◌∙◌, subst, lit≤}
use Rattle.std.specs.List.{All, Contains}
use Rattle.std.specs.Str.{bytes_eq}
use Rattle.std.proofs.lemmas.Bool.Decides.{eqb_tells, nat_tests}
use Rattle.std.proofs.Math.Nat.{mod-le}
use Rattle.std.proofs.lemmas.List.Elements.{All-nil, All-cons, All-append, All-map}
use Rattle.std.proofs.lemmas.List.{length-map}
use Rattle.hsail_reader.specs.Types.{type_bits, type_class}
use Rattle.hsail_reader.specs.declared.module.Address.{Address}
use Rattle.hsail_reader.specs.declared.module.Address.TheVariants as address
use Rattle.hsail_reader.specs.declared.module.Argument.{Argument}
use Rattle.hsail_reader.specs.declared.module.GroupVariable.{GroupVariable}
use Rattle.hsail_reader.specs.declared.module.Item.{Item}
use Rattle.hsail_reader.specs.declared.module.Item.TheVariants as item
use Rattle.hsail_reader.specs.declared.module.Kernel.{Kernel}
use Rattle.hsail_reader.specs.declared.module.Access.{Access}
use Rattle.hsail_reader.specs.declared.module.Operand.{Operand}
use Rattle.hsail_reader.specs.declared.module.Operand.TheVariants as operand
use Rattle.hsail_reader.specs.declared.module.Operation.{Operation}
use Rattle.hsail_reader.specs.declared.module.TypedSource.{TypedSource}
use Rattle.hsail_reader.specs.declared.rows.Form.{Form}
use Rattle.hsail_reader.specs.declared.rows.Form.TheVariants as form
use Rattle.hsail_reader.specs.declared.types.Register.{Register}
use Rattle.hsail_reader.specs.declared.types.Alignment.{Alignment}
use Rattle.hsail_reader.specs.declared.types.Constant.{Constant}
use Rattle.hsail_reader.specs.declared.types.DataType.{DataType}
use Rattle.hsail_reader.specs.declared.types.DataType.TheVariants as type
use Rattle.hsail_reader.specs.declared.types.Segment.{Segment}
use Rattle.hsail_reader.specs.declared.types.Segment.TheVariants as segment
use Rattle.kernel_check.specs.Causes.{instruction_fails, differs, is_same_segment, lies_elsewhere, is_of_other_width, names_unknown, is_bad, has_wrong_type, misses_argument, has_bad_address}
use Rattle.kernel_check.specs.Checks.{Before, behind, before_of, item_checks, steps_from, labels_from, lined, labels_of, program_of, worked}
use Rattle.kernel_check.specs.Constants.{deepest, is_in_range, constant_bits}
use Rattle.kernel_check.specs.Faults.{first_fault, fault_or, least_cause}
use Rattle.kernel_check.specs.Layout.{kind_bytes, is_wide, boundary_of, next_multiple, end_behind, group_placed, placed_at, placed_from, end_from, wide_at, wide_from}
use Rattle.kernel_check.specs.Names.{Known, find}
use Rattle.kernel_check.specs.inner.Bound.{or_else}
use Rattle.kernel_check.specs.Operands.{any_operand, is_over, is_over_source}
use Rattle.kernel_check.specs.Programs.{AreLaid, ArgumentPlace, FitsIn, HasItsClasses, LoadsOneOf, StaysWithin, IsSound, wide_offsets}
use Rattle.kernel_check.specs.Steps.{step_of, form_step, known_offset, offset_of, load_from, load_at, store_from, store_at, atomic_pointer, atomic_in, atomic_at, as_atomic, as_no_return, next_at, target_in, read_in, as_unary, as_binary, as_ternary, number_type, number_bytes, low_bits, source_at, source_in, source_of, unary_in, unary_by, binary32, binary64, binary_in, ternary_in, register_number, is_signed, pair32_of, pair64_of, shift64_of}
use Rattle.kernel_check.specs.declared.fault.CheckCause.{CheckCause}
use Rattle.kernel_check.specs.declared.fault.CheckCause.TheVariants as cause
use Rattle.kernel_check.specs.declared.fault.CheckFault.{CheckFault}
use Rattle.kernel_check.specs.declared.layout.Placed.{Placed}
use Rattle.kernel_check.specs.declared.step.AnySource.TheVariants as any
use Rattle.kernel_check.specs.declared.memory.Atomic.{Atomic}
use Rattle.kernel_check.specs.declared.step.AtomicPointer.{AtomicPointer}
use Rattle.kernel_check.specs.declared.step.LinedStep.{LinedStep}
use Rattle.kernel_check.specs.declared.step.Pair.{Pair}
use Rattle.kernel_check.specs.declared.step.Shift64.{Shift64}
use Rattle.kernel_check.specs.declared.translate.Binary.{Binary}
use Rattle.kernel_check.specs.declared.translate.Ternary.{Ternary}
use Rattle.kernel_check.specs.declared.translate.Unary.{Unary}
use Rattle.hsail_reader.specs.declared.types.BinaryOperation.{BinaryOperation}
use Rattle.hsail_reader.specs.declared.types.BinaryOperation.TheVariants.{Compare}
use Rattle.hsail_reader.specs.declared.types.RegisterClass.{RegisterClass}
use Rattle.hsail_reader.specs.declared.types.RegisterClass.TheVariants as class
use Rattle.hsail_reader.specs.declared.types.Source.{Source}
use Rattle.hsail_reader.specs.declared.types.Source.TheVariants as source
use Rattle.hsail_reader.specs.declared.types.TernaryOperation.{TernaryOperation}
use Rattle.hsail_reader.specs.declared.types.TernaryOperation.TheVariants.{MultiplyAdd, ConditionalMove}
use Rattle.hsail_reader.specs.declared.types.UnaryOperation.{UnaryOperation}
use Rattle.hsail_reader.specs.declared.types.UnaryOperation.TheVariants.{Move, Not, Convert}
use Rattle.kernel_check.specs.declared.step.Step.{Step}
use Rattle.kernel_check.proofs.NameLemmas.{find-append}
use Rattle.kernel_check.proofs.StepCases.{of_unary, of_binary, of_ternary, of_atomic}
use Rattle.kernel_check.proofs.LayoutLemmas.{argument_stands, argument_within, found_here, number_bytes_are, place, places_from, places_laid, wide_are, wide_ascends, wide_within}

-- a first test that finds nothing
no_first : {X : Type 0} (b : Bool) (x : X) (rest : Option X) → cond b (Some x) rest ≡ None → (b ≡ false) × (rest ≡ None)
no_first true x rest e = cc
no_first false x rest e = (refl, e)

-- where there is no least cause, no cause fails
pub none_fails : (fails : CheckCause → Bool) → least_cause fails ≡ None → (c : CheckCause) → fails c ≡ false
none_fails fails none c =
    let p1 = no_first (fails cause.UnknownLabel) cause.UnknownLabel _ none in
    let p2 = no_first (fails cause.DoubleName) cause.DoubleName _ p1.1 in
    let p3 = no_first (fails cause.WrongRegister) cause.WrongRegister _ p2.1 in
    let p4 = no_first (fails cause.WrongType) cause.WrongType _ p3.1 in
    let p5 = no_first (fails cause.UnknownArgument) cause.UnknownArgument _ p4.1 in
    let p6 = no_first (fails cause.TooLarge) cause.TooLarge _ p5.1 in
    let p7 = no_first (fails cause.BadAddress) cause.BadAddress _ p6.1 in
    elim c as (λ x. fails x ≡ false) [
      | cause.UnknownLabel ↦ p1.0
      | cause.DoubleName ↦ p2.0
      | cause.WrongRegister ↦ p3.0
      | cause.WrongType ↦ p4.0
      | cause.UnknownArgument ↦ p5.0
      | cause.TooLarge ↦ p6.0
      | cause.BadAddress ↦ p7.0
    ]

-- none of four holds
pub four : (a b c d : Bool) → (a || b || c || d) ≡ false → (a ≡ false) × (b ≡ false) × (c ≡ false) × (d ≡ false)
four true b c d e = cc
four false true c d e = cc
four false false true d e = cc
four false false false true e = cc
four false false false false e = (refl, refl, refl, refl)

-- where there is no first fault, none of the items fails
pub no_fault : (line : ℕ) (c : Option CheckCause) (rest : Option CheckFault) → fault_or line c rest ≡ None → (c ≡ None) × (rest ≡ None)
no_fault line None rest e = (refl, e)
no_fault line (Some c) rest e = cc

-- a label stands before no more instructions than there are steps
pub label_within : (labels : List ℕ → Option ℕ) (b : Before) (n : ℕ) (items : List Item) (x : List ℕ) (v : ℕ)
    → find (labels_from n items) x ≡ Some v → v ≤ n + length (steps_from labels b items)
label_within labels b n [] x v e = cc
label_within labels b n ((item.Label l) ∷ items) x v e =
    found_here (bytes_eq x l.name) n v (find (labels_from n items) x)
    (λ m. m ≤ n + length (steps_from labels (behind b (item.Label l)) items)) (omega arith)
    (label_within labels (behind b (item.Label l)) n items x v) e
label_within labels b n ((item.Variable g) ∷ items) x v e = label_within labels (behind b (item.Variable g)) n items x v e
label_within labels b n ((item.Instruction i) ∷ items) x v e =
    let p : v ≤ (n + 1) + length (steps_from labels (behind b (item.Instruction i)) items) =
    label_within labels (behind b (item.Instruction i)) (n + 1) items x v e in
    omega arith

-- an argument lies within the block, at one of its places
abbrev Lies : ℕ → List ArgumentPlace → Placed → Type 0
Lies bytes places p = (p.offset + kind_bytes p.kind ≤ bytes) × Contains places (place p)

-- the arguments among some variables do
abbrev Within : ℕ → List ArgumentPlace → (List ℕ → Option Placed) → Type 0
Within bytes places variables =
    (x : List ℕ) (p : Placed) → variables x ≡ Some p → p.segment ≡ segment.Kernarg → Lies bytes places p

-- a group variable is none of them
group_none : (bytes end : ℕ) (places : List ArgumentPlace) (v : GroupVariable) (p : Placed) (b : Bool)
    → cond b (Some (group_placed end v)) None ≡ Some p → p.segment ≡ segment.Kernarg → Lies bytes places p
group_none bytes end places v p b e =
    found_here b (group_placed end v) p None (λ r. r.segment ≡ segment.Kernarg → Lies bytes places r)
    (λ same. absurd cc) (λ none. absurd cc) e

within_more : (bytes end : ℕ) (places : List ArgumentPlace) (names : Known Placed) (v : GroupVariable) → Within bytes places (find names)
    → Within bytes places (find (names ++ (v.name, group_placed end v) ∷ []))
within_more bytes end places names v within x p e =
    by (find names x) refl (sym (find-append x names ((v.name, group_placed end v) ∷ [])) ∙ e)
  where
    by : (o : Option Placed) → find names x ≡ o → or_else o (cond (bytes_eq x v.name) (Some (group_placed end v)) None) ≡ Some p
        → p.segment ≡ segment.Kernarg → Lies bytes places p
    by None found same = group_none bytes end places v p (bytes_eq x v.name) same
    by (Some q) found same = within x p (found ∙ same)

pub second_false : (a b : Bool) → (a || b) ≡ false → b ≡ false
second_false true b e = cc
second_false false b e = e

holds_not : (b : Bool) → not b ≡ false → b ≡ true
holds_not true e = refl
holds_not false e = cc

-- a number in a range of p numbers, or the one that stands for its negative, is below p
below : (negative : Bool) (m p deep : ℕ) → 0 < p → (if negative then nat_le m deep else nat_le m (p - 1)) ≡ true
    → (if negative then (if m == 0 then 0 else p - m) else m) < p
below true m p deep some e =
    ⊎_elim (λ w. rw w.0 some) (λ w. let less : p - m < p = omega (arith, some, w.1) in rw w.0 less) (eqb_tells m 0)
below false m p deep some e = grind (arith, nat_tests)

some_values : (kind : DataType) → 0 < 2 ^ type_bits kind
some_values type.B1 = omega arith
some_values _ = omega arith

-- the bytes of a number in memory hold each value of its type
bytes_hold : (kind : DataType) → 2 ^ type_bits kind ≤ 2 ^ (8 * number_bytes (number_type kind))
bytes_hold type.B1 = omega arith
bytes_hold _ = omega arith

fits_constant : (kind : DataType) (c : Constant) → is_in_range kind c ≡ true
    → constant_bits kind c % 2 ^ 32 < 2 ^ (8 * number_bytes (number_type kind))
fits_constant kind c good =
    let less = below c.negative c.magnitude (2 ^ type_bits kind) (deepest kind) (some_values kind) good in
    let fewer : constant_bits kind c % 2 ^ 32 ≤ constant_bits kind c = mod-le (constant_bits kind c) (2 ^ 32) in
    omega (arith, less, fewer, bytes_hold kind)

fits32 : (kind : DataType) (s : Source) → is_over_source kind s ≡ false → FitsIn (number_type kind) (any.Single (source_at low_bits kind s))
fits32 kind (source.Register r) near = tt
fits32 kind (source.Constant c) near = fits_constant kind c (holds_not (is_in_range kind c) near)

fits_in : (k : RegisterClass) (t : TypedSource) → is_over_source t.kind t.source ≡ false → FitsIn (number_type t.kind) (source_in k t)
fits_in class.Control t near = tt
fits_in class.Single t near = fits32 t.kind t.source near
fits_in class.Double t near = tt

-- what is read of an operand that is not too large lies in its width
fits_read : (o : Operand) → is_over o ≡ false → FitsIn (number_type (read_in o).kind) (source_of (read_in o))
fits_read (operand.Source s) near = fits_in (type_class s.kind) s near
fits_read _ near = tt

-- a segment that is the arguments'
same_kernarg : (s : Segment) → is_same_segment segment.Kernarg s ≡ true → s ≡ segment.Kernarg
same_kernarg segment.Kernarg e = refl
same_kernarg _ e = cc

module _ (variables : List ℕ → Option Placed) (labels : List ℕ → Option ℕ) (count bytes : ℕ) (places : List ArgumentPlace)
    (known_label : (x : List ℕ) (v : ℕ) → labels x ≡ Some v → v ≤ count) (known_argument : Within bytes places variables) where
  -- a step stays within the kernel, and the argument that it loads stands there
  abbrev Stays : Step → Type 0
  Stays s = StaysWithin count bytes s × LoadsOneOf places s

  next_within : (x : List ℕ) (o : Option ℕ) → labels x ≡ o → unwrap_or o 0 ≤ count
  next_within x None e = omega arith
  next_within x (Some v) e = known_label x v e

  known_within : (kind : DataType) (x : List ℕ) (o : Option Placed) → variables x ≡ o → is_none o ≡ false → differs kind o ≡ false
      → lies_elsewhere segment.Kernarg o ≡ false
      → (known_offset o + kind_bytes kind ≤ bytes) × Contains places (record { offset = known_offset o; bytes = kind_bytes kind })
  known_within kind x None e known same there = absurd cc
  known_within kind x (Some p) e known same there =
      let argument : is_same_segment segment.Kernarg p.segment ≡ true = holds_not (is_same_segment segment.Kernarg p.segment) there in
      let no_other : not (type_bits p.kind == type_bits kind) ≡ false = rw argument at same in
      let width : type_bits p.kind ≡ type_bits kind = grind (arith, nat_tests) in
      let bits : kind_bytes p.kind ≡ kind_bytes kind = ap (λ n. (n + 7) / 8) width in
      let lies = known_argument x p e (same_kernarg p.segment argument) in
      let fits : p.offset + kind_bytes p.kind ≤ bytes = lies.0 in
      (omega arith, subst (λ n. Contains places (record { offset = p.offset; bytes = n })) bits lies.1)

  offset_within : (kind : DataType) (a : Address) → is_of_other_width variables kind segment.Kernarg a ≡ false → names_unknown variables a ≡ false
      → is_bad variables segment.Kernarg a ≡ false
      → (offset_of variables a + kind_bytes kind ≤ bytes) × Contains places (record { offset = offset_of variables a; bytes = kind_bytes kind })
  offset_within kind (address.Variable x) same known good = known_within kind x (variables x) refl known same good
  offset_within kind (address.Place p) same known good = absurd cc
  offset_within kind (address.Indexed i) same known good = absurd cc

  load_within : (d : Register) (a : Access) (s : Segment) → is_of_other_width variables a.kind s a.address ≡ false
      → names_unknown variables a.address ≡ false → is_bad variables s a.address ≡ false → Stays (load_from variables s d a)
  load_within d a segment.Kernarg same known good =
      let lies = offset_within a.kind a.address same known good in
      let fits : offset_of variables a.address + kind_bytes a.kind ≤ bytes = lies.0 in
      let same_bytes : number_bytes (number_type a.kind) ≡ kind_bytes a.kind = number_bytes_are a.kind in
      (omega arith, subst (λ n. Contains places (record { offset = offset_of variables a.address; bytes = n })) (sym same_bytes) lies.1)
  load_within d a segment.Global same known good = (tt, tt)
  load_within d a segment.Group same known good = (tt, tt)

  load_at_within : (d : Register) (o : Operand) → has_wrong_type variables o ≡ false → misses_argument variables o ≡ false
      → has_bad_address variables o ≡ false → Stays (load_at variables d o)
  load_at_within d (operand.Address a) same known good = load_within d a a.segment same known good
  load_at_within d operand.Absent same known good = (tt, tt)
  load_at_within d (operand.Target t) same known good = (tt, tt)
  load_at_within d (operand.Source s) same known good = (tt, tt)
  load_at_within d (operand.Label x) same known good = (tt, tt)
  load_at_within d (operand.Dimension n) same known good = (tt, tt)

  store_within : (g : Segment) (s : TypedSource) (a : Access) → FitsIn (number_type s.kind) (source_of s) → Stays (store_from variables g s a)
  store_within segment.Group s a fits = (fits, tt)
  store_within segment.Kernarg s a fits = (fits, tt)
  store_within segment.Global s a fits = (fits, tt)

  store_at_within : (s : TypedSource) (o : Operand) → FitsIn (number_type s.kind) (source_of s) → Stays (store_at variables s o)
  store_at_within s (operand.Address a) fits = store_within a.segment s a fits
  store_at_within s operand.Absent fits = (tt, tt)
  store_at_within s (operand.Target t) fits = (tt, tt)
  store_at_within s (operand.Source r) fits = (tt, tt)
  store_at_within s (operand.Label x) fits = (tt, tt)
  store_at_within s (operand.Dimension n) fits = (tt, tt)

  next_at_within : (o : Operand) → next_at labels o ≤ count
  next_at_within (operand.Label x) = next_within x (labels x) refl
  next_at_within operand.Absent = omega arith
  next_at_within (operand.Target t) = omega arith
  next_at_within (operand.Source s) = omega arith
  next_at_within (operand.Address a) = omega arith
  next_at_within (operand.Dimension n) = omega arith

  unary_by_within : (op : UnaryOperation) (u : Unary) → FitsIn (number_type u.source.kind) (source_of u.source) → Stays (unary_by op u)
  unary_by_within (Convert to) u fits = (fits, tt)
  unary_by_within Move u fits = of_unary Stays (λ s. (tt, tt)) (λ s. (tt, tt)) (λ s. (tt, tt)) (λ s. (tt, tt)) (λ s. (tt, tt)) (tt, tt) (type_class u.kind) Move (register_number u.target) u.source
  unary_by_within Not u fits = of_unary Stays (λ s. (tt, tt)) (λ s. (tt, tt)) (λ s. (tt, tt)) (λ s. (tt, tt)) (λ s. (tt, tt)) (tt, tt) (type_class u.kind) Not (register_number u.target) u.source

  atomic_within : (a : Atomic) (o : Operand) → Stays (atomic_at variables a o)
  atomic_within a o = of_atomic Stays (λ s. (tt, tt)) (λ s. (tt, tt)) (λ s. (tt, tt)) (λ s. (tt, tt)) (λ s. (tt, tt)) (tt, tt) variables a o

  form_within : (number : ℕ) (f : Form) (op : Operation) → ((c : CheckCause) → instruction_fails variables labels number op c ≡ false)
      → Stays (form_step variables labels f op)
  form_within number (form.Unary u) op fine = unary_by_within u (as_unary u op)
      (fits_read op.operands.second (four _ _ _ _ (second_false (nat_le 4096 number) (any_operand is_over op.operands) (fine cause.TooLarge))).1)
  form_within number (form.Binary b) op fine = of_binary Stays (λ s. (tt, tt)) (λ s. (tt, tt)) (λ s. (tt, tt)) (λ s. (tt, tt)) (λ s. (tt, tt)) (tt, tt) (type_class op.kind) (as_binary b op)
  form_within number (form.Ternary t) op fine = of_ternary Stays (λ s. (tt, tt)) (λ s. (tt, tt)) (λ s. (tt, tt)) (λ s. (tt, tt)) (λ s. (tt, tt)) (tt, tt) (type_class op.kind) t (as_ternary t op)
  form_within number form.Load op fine = load_at_within (target_in op.operands.first) op.operands.second
      (four _ _ _ _ (fine cause.WrongType)).1 (four _ _ _ _ (fine cause.UnknownArgument)).1 (four _ _ _ _ (fine cause.BadAddress)).1
  form_within number form.Store op fine = store_at_within (read_in op.operands.first) op.operands.second
      (fits_read op.operands.first (four _ _ _ _ (second_false (nat_le 4096 number) (any_operand is_over op.operands) (fine cause.TooLarge))).0)
  form_within number (form.Atomic f) op fine = atomic_within (as_atomic f op) op.operands.second
  form_within number (form.AtomicNoReturn f) op fine = atomic_within (as_no_return f op) op.operands.first
  form_within number form.Branch op fine = (next_at_within op.operands.first, tt)
  form_within number form.ConditionalBranch op fine = (next_at_within op.operands.second, tt)
  form_within number form.Return op fine = (tt, tt)
  form_within number form.Barrier op fine = (tt, tt)
  form_within number (form.WorkItemQuery q) op fine = (tt, tt)

  -- the step of an instruction in which nothing fails
  pub step_within : (number : ℕ) (op : Operation) → least_cause (instruction_fails variables labels number op) ≡ None
      → Stays (step_of variables labels op)
  step_within number op none = form_within number op.form op (none_fails (instruction_fails variables labels number op) none)

-- the steps of items in which nothing fails
pub steps_within : (labels : List ℕ → Option ℕ) (count bytes : ℕ) (places : List ArgumentPlace) → ((x : List ℕ) (v : ℕ) → labels x ≡ Some v → v ≤ count)
    → (b : Before) (items : List Item) → Within bytes places (find b.variables) → first_fault (item_checks labels b items) ≡ None
    → All (λ s. StaysWithin count bytes s.step × LoadsOneOf places s.step) (steps_from labels b items)
steps_within labels count bytes places known b [] within none = All-nil (λ (s : LinedStep). StaysWithin count bytes s.step × LoadsOneOf places s.step)
steps_within labels count bytes places known b ((item.Label l) ∷ items) within none =
    steps_within labels count bytes places known (behind b (item.Label l)) items within (no_fault l.line _ _ none).1
steps_within labels count bytes places known b ((item.Variable v) ∷ items) within none =
    steps_within labels count bytes places known (behind b (item.Variable v)) items (within_more bytes b.group_end places b.variables v within)
    (no_fault v.line _ _ none).1
steps_within labels count bytes places known b ((item.Instruction i) ∷ items) within none =
    let p = no_fault i.line (least_cause (instruction_fails (find b.variables) labels b.count i.operation)) _ none in
    All-cons (λ (s : LinedStep). StaysWithin count bytes s.step × LoadsOneOf places s.step) (lined i.line (find b.variables) labels i.operation)
    (steps_from labels (behind b (item.Instruction i)) items)
    (step_within (find b.variables) labels count bytes places known within b.count i.operation p.0)
    (steps_within labels count bytes places known (behind b (item.Instruction i)) items within p.1)

-- a kernel in which nothing fails, within the limits
pub sound : (k : Kernel) → first_fault (item_checks (labels_of k) (before_of k) k.items) ≡ None
    → end_from 0 k.arguments ≤ 4096 → (worked (labels_of k) (before_of k) k.items).group_bytes ≤ 65536
    → length (worked (labels_of k) (before_of k) k.items).steps ≤ 4096
    → All (λ s. HasItsClasses s.step) (worked (labels_of k) (before_of k) k.items).steps → IsSound (program_of k)
sound k none bytes group count classes =
    let lined : List LinedStep = steps_from (labels_of k) (before_of k) k.items in
    let places : List ArgumentPlace = places_from 0 k.arguments in
    let stepped : length (map (λ (s : LinedStep). s.step) lined) ≡ length lined = length-map lined (λ s. s.step) in
    let stay : All (λ s. StaysWithin (length (map (λ (s : LinedStep). s.step) lined)) (end_from 0 k.arguments) s.step × LoadsOneOf places s.step) lined =
    steps_within (labels_of k) (length (map (λ (s : LinedStep). s.step) lined)) (end_from 0 k.arguments) places
    (λ x v e. omega (arith, stepped, label_within (labels_of k) (before_of k) 0 k.items x v e))
    (before_of k) k.items (λ x p e is. (argument_within 0 k.arguments x p e, argument_stands 0 k.arguments x p e)) none in
    record {
      classes = All-map HasItsClasses (λ (s : LinedStep). s.step) lined classes;
      arguments = record {
        places = places;
        laid = places_laid 0 k.arguments;
        wide = wide_are 0 k.arguments;
        loaded = All-map (LoadsOneOf places) (λ (s : LinedStep). s.step) lined (λ i d within. (stay i d within).1);
      };
      wide_ascend = wide_ascends 0 k.arguments;
      steps_stay = All-map (StaysWithin (length (map (λ (s : LinedStep). s.step) lined)) (end_from 0 k.arguments)) (λ (s : LinedStep). s.step) lined (λ i d within. (stay i d within).0);
      lined = length-map lined (λ s. s.line) ∙ sym stepped;
      wide_stay = wide_within 0 k.arguments;
      few_bytes = bytes;
      few_group_bytes = group;
      few_steps = omega (arith, stepped, count);
    }
