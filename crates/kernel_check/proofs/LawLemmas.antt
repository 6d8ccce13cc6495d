-- The laws of the check.
use Rattle.std.proofs.Common.{◌≡◌, ℕ, Bool, true, false, not, ◌||◌, is_none, nat_le, List, [], ◌∷◌, Option, Some, None, unwrap_or, if◌then◌else◌, arith, refl, ap, subst}
use Rattle.std.specs.List.{All}
use Rattle.std.proofs.lemmas.Bool.Decides.{nat_tests}
use Rattle.std.proofs.lemmas.List.Elements.{All-nil, All-cons}
use Rattle.hsail_reader.specs.declared.module.Address.{Address}
use Rattle.hsail_reader.specs.declared.module.Address.TheVariants as address
use Rattle.hsail_reader.specs.declared.module.Operand.{Operand}
use Rattle.hsail_reader.specs.declared.module.Operand.TheVariants as operand
use Rattle.hsail_reader.specs.declared.module.Operation.{Operation}
use Rattle.hsail_reader.specs.declared.module.SegmentPlace.{SegmentPlace}
use Rattle.hsail_reader.specs.declared.module.SegmentPlace.TheVariants as place
use Rattle.hsail_reader.specs.declared.types.DataType.{DataType}
use Rattle.hsail_reader.specs.declared.types.Register.{Register}
use Rattle.kernel_check.specs.declared.step.AddressForms.{AddressForms}
use Rattle.hsail_reader.specs.declared.types.RegisterClass.{RegisterClass}
use Rattle.hsail_reader.specs.declared.types.RegisterClass.TheVariants as class
use Rattle.hsail_reader.specs.declared.types.Segment.{Segment}
use Rattle.hsail_reader.specs.declared.types.Segment.TheVariants as segment
use Rattle.hsail_reader.specs.declared.types.Source.{Source}
use Rattle.hsail_reader.specs.declared.types.Source.TheVariants as source
use Rattle.kernel_check.specs.Causes.{instruction_fails, misses_label, misses_argument, names_unknown, is_same_segment, lies_elsewhere, is_bad_place, is_bad_form, has_bad_address}
use Rattle.kernel_check.specs.Faults.{Checkpoint, first_fault, fault_or, least_cause, first_cause}
use Rattle.kernel_check.specs.Laws.{IsFirst, IsEarliest, IsKept, IsKeptSource, IsPlace, IsReached, IsFaithfulOperand, IsFaithful}
use Rattle.kernel_check.specs.Operands.{is_same_class, is_far, is_far_address, is_far_place, is_over, is_over_source, any_operand}
use Rattle.kernel_check.specs.Steps.{forms_of}
use Rattle.kernel_check.specs.declared.fault.CheckCause.{CheckCause}
use Rattle.kernel_check.specs.declared.fault.CheckCause.TheVariants as cause
use Rattle.kernel_check.specs.declared.fault.CheckFault.{CheckFault}
use Rattle.kernel_check.specs.declared.layout.Placed.{Placed}
use Rattle.kernel_check.proofs.SoundLemmas.{none_fails, no_fault, four, second_false}

-- where a fault is told, its item is the first that fails
earliest_at : (line : ℕ) (c : Option CheckCause) (later : List Checkpoint) (f : CheckFault) → fault_or line c (first_fault later) ≡ Some f
    → ((g : CheckFault) → first_fault later ≡ Some g → IsEarliest later g) → IsEarliest (record { line = line; cause = c } ∷ later) f
earliest_at line None later f e rest =
    let r : IsEarliest later f = rest f e in
    record {
      before = record { line = line; cause = None } ∷ r.before;
      item = r.item;
      behind = r.behind;
      split = ap (λ xs. record { line = line; cause = None } ∷ xs) r.split;
      pass = All-cons (λ (c : Checkpoint). c.cause ≡ None) (record { line = line; cause = None }) r.before refl r.pass;
      here = r.here;
    }
earliest_at line (Some c) later f e rest = record {
  before = [];
  item = record { line = line; cause = Some c };
  behind = later;
  split = refl;
  pass = All-nil (λ (c : Checkpoint). c.cause ≡ None);
  here = e;
}

pub earliest : (checks : List Checkpoint) (f : CheckFault) → first_fault checks ≡ Some f → IsEarliest checks f
earliest [] f e = cc
earliest (c ∷ later) f e = earliest_at c.line c.cause later f e (earliest later)

pub all_pass : (checks : List Checkpoint) → first_fault checks ≡ None → All (λ c. c.cause ≡ None) checks
all_pass [] e = All-nil (λ (c : Checkpoint). c.cause ≡ None)
all_pass (c ∷ later) e =
    let p = no_fault c.line c.cause (first_fault later) e in
    All-cons (λ (c : Checkpoint). c.cause ≡ None) c later p.0 (all_pass later p.1)

kept : (r : Register) → is_far r ≡ false → IsKept r
kept r near = grind (arith, nat_tests)

kept_source : (kind : DataType) (s : Source) → is_over_source kind s ≡ false → IsKeptSource s
kept_source kind (source.Register r) near = kept r near
kept_source kind (source.Constant c) near = tt

first_false : (a b : Bool) → (a || b) ≡ false → a ≡ false
first_false true b e = cc
first_false false b e = refl

holds : (b : Bool) → not b ≡ false → b ≡ true
holds true e = refl
holds false e = cc

same_class : (a b : RegisterClass) → is_same_class a b ≡ true → b ≡ a
same_class class.Control class.Control e = refl
same_class class.Single class.Single e = refl
same_class class.Double class.Double e = refl
same_class _ _ e = cc

placed : (base : Option RegisterClass) (p : SegmentPlace) → is_far_place p ≡ false → is_bad_place base p ≡ false → IsPlace base p
placed None p near good = cc
placed (Some k) (place.Absolute n) near good = tt
placed (Some k) (place.Relative r) near good =
    (same_class k r.register.class (holds (is_same_class k r.register.class) good), kept r.register near)

same_segment : (a b : Segment) → is_same_segment a b ≡ true → b ≡ a
same_segment segment.Kernarg segment.Kernarg e = refl
same_segment segment.Global segment.Global e = refl
same_segment segment.Group segment.Group e = refl
same_segment _ _ e = cc

declared : (s : Segment) (o : Option Placed) → is_none o ≡ false → lies_elsewhere s o ≡ false
    → (p : Placed) × (o ≡ Some p) × (p.segment ≡ s)
declared s None e there = cc
declared s (Some p) e there = (p, refl, same_segment s p.segment (holds (is_same_segment s p.segment) there))

found : (o : Option ℕ) → is_none o ≡ false → o ≡ Some (unwrap_or o 0)
found None e = cc
found (Some n) e = refl

module _ (variables : List ℕ → Option Placed) (labels : List ℕ → Option ℕ) where
  reached : (s : Segment) (forms : AddressForms) (a : Address) → is_far_address a ≡ false → names_unknown variables a ≡ false
      → is_bad_form variables s forms a ≡ false → IsReached variables s forms a
  reached s forms (address.Variable x) near there good =
      let elsewhere = lies_elsewhere s (variables x) in (
        holds forms.variable (first_false (not forms.variable) elsewhere good),
        declared s (variables x) there (second_false (not forms.variable) elsewhere good),
      )
  reached s forms (address.Place p) near there good = placed forms.base p near good
  reached s forms (address.Indexed i) near there good =
      let elsewhere = lies_elsewhere s (variables i.variable) in
      let bad = is_bad_place forms.base i.place in
      let front = first_false (not forms.indexed || elsewhere) bad good in (
        holds forms.indexed (first_false (not forms.indexed) elsewhere front),
        declared s (variables i.variable) there (second_false (not forms.indexed) elsewhere front),
        placed forms.base i.place near (second_false (not forms.indexed || elsewhere) bad good),
      )

  -- an operand by which an instruction fails by no cause
  faithful_operand : (o : Operand) → misses_label labels o ≡ false → misses_argument variables o ≡ false → is_over o ≡ false
      → has_bad_address variables o ≡ false → IsFaithfulOperand variables labels o
  faithful_operand operand.Absent known there near good = tt
  faithful_operand (operand.Target t) known there near good = kept t.register near
  faithful_operand (operand.Source s) known there near good = kept_source s.kind s.source near
  faithful_operand (operand.Address a) known there near good = reached a.segment (forms_of a.segment) a.address near there good
  faithful_operand (operand.Label x) known there near good = found (labels x) known
  faithful_operand (operand.Dimension n) known there near good = grind (arith, nat_tests)

  pub faithful : (number : ℕ) (op : Operation) → least_cause (instruction_fails variables labels number op) ≡ None
      → IsFaithful variables labels op
  faithful number op none =
      let fine = none_fails (instruction_fails variables labels number op) none in
      let known = four _ _ _ _ (fine cause.UnknownLabel) in
      let there = four _ _ _ _ (fine cause.UnknownArgument) in
      let near = four _ _ _ _ (second_false (nat_le 4096 number) (any_operand is_over op.operands) (fine cause.TooLarge)) in
      let good = four _ _ _ _ (fine cause.BadAddress) in
      record {
        first = faithful_operand op.operands.first known.0 there.0 near.0 good.0;
        second = faithful_operand op.operands.second known.1 there.1 near.1 good.1;
        third = faithful_operand op.operands.third known.2 there.2 near.2 good.2;
        fourth = faithful_operand op.operands.fourth known.3 there.3 near.3 good.3;
      }

-- the first of some causes by which an item fails
first_at : (fails : CheckCause → Bool) (x : CheckCause) (others : List CheckCause) (c : CheckCause) (b : Bool) → fails x ≡ b
    → (if b then Some x else first_cause fails others) ≡ Some c
    → (first_cause fails others ≡ Some c → IsFirst fails others c) → IsFirst fails (x ∷ others) c
first_at fails x others c true is e rest =
    let same : x ≡ c = cc in
    subst (IsFirst fails (x ∷ others)) same
    (record { before = []; behind = others; split = refl; pass = All-nil (λ (o : CheckCause). fails o ≡ false); here = is })
first_at fails x others c false is e rest =
    let r : IsFirst fails others c = rest e in
    record {
      before = x ∷ r.before;
      behind = r.behind;
      split = ap (λ xs. x ∷ xs) r.split;
      pass = All-cons (λ (o : CheckCause). fails o ≡ false) x r.before is r.pass;
      here = r.here;
    }

pub first : (fails : CheckCause → Bool) (listed : List CheckCause) (c : CheckCause) → first_cause fails listed ≡ Some c → IsFirst fails listed c
first fails [] c e = cc
first fails (x ∷ others) c e = first_at fails x others c (fails x) refl e (first fails others c)
