-- What holds of each step that sets a register by an operation, of each atomic one and of ret holds of what the
-- instructions of these kinds come to.
use Rattle.std.proofs.Common.{ℕ, Bool, List, Option}
use Rattle.hsail_reader.specs.Types.{type_class}
use Rattle.hsail_reader.specs.declared.module.Operand.{Operand}
use Rattle.hsail_reader.specs.declared.module.Operand.TheVariants as operand
use Rattle.hsail_reader.specs.declared.module.TypedSource.{TypedSource}
use Rattle.hsail_reader.specs.declared.types.BinaryOperation.{BinaryOperation}
use Rattle.hsail_reader.specs.declared.types.BinaryOperation.TheVariants.{Compare}
use Rattle.hsail_reader.specs.declared.types.RegisterClass.{RegisterClass}
use Rattle.hsail_reader.specs.declared.types.RegisterClass.TheVariants as class
use Rattle.hsail_reader.specs.declared.types.TernaryOperation.{TernaryOperation}
use Rattle.hsail_reader.specs.declared.types.TernaryOperation.TheVariants.{MultiplyAdd, ConditionalMove}
use Rattle.hsail_reader.specs.declared.types.UnaryOperation.{UnaryOperation}
use Rattle.hsail_reader.specs.declared.types.UnaryOperation.TheVariants.{Move, Not, Convert}
use Rattle.kernel_check.specs.Steps.{atomic_at, atomic_in, atomic_pointer, binary32, binary64, binary_in, is_signed, pair32_of, pair64_of, shift64_of, register_number, ternary_in, unary_in}
use Rattle.kernel_check.specs.declared.layout.Placed.{Placed}
use Rattle.kernel_check.specs.declared.memory.Atomic.{Atomic}
use Rattle.kernel_check.specs.declared.step.AtomicPointer.{AtomicPointer}
use Rattle.kernel_check.specs.declared.step.AtomicStep.{AtomicStep}
use Rattle.kernel_check.specs.declared.step.ControlStep.{ControlStep}
use Rattle.kernel_check.specs.declared.step.DoubleStep.{DoubleStep}
use Rattle.kernel_check.specs.declared.step.Pair.{Pair}
use Rattle.kernel_check.specs.declared.step.Shift64.{Shift64}
use Rattle.kernel_check.specs.declared.step.SingleStep.{SingleStep}
use Rattle.kernel_check.specs.declared.step.Source.{Source as StepSource}
use Rattle.kernel_check.specs.declared.step.Step.{Step}
use Rattle.kernel_check.specs.declared.step.Step.TheVariants as step
use Rattle.kernel_check.specs.declared.translate.Binary.{Binary}
use Rattle.kernel_check.specs.declared.translate.Ternary.{Ternary}

module _ (P : Step → Type 0) (control : (s : ControlStep) → P (step.Control s)) (single : (s : SingleStep) → P (step.Single s))
    (double : (s : DoubleStep) → P (step.Double s)) (atomic32 : (s : AtomicStep (StepSource ℕ)) → P (step.Atomic32 s))
    (atomic64 : (s : AtomicStep (StepSource ℕ)) → P (step.Atomic64 s)) (ret : P step.Return) where
  pub of_unary : (k : RegisterClass) (op : UnaryOperation) (target : ℕ) (s : TypedSource) → P (unary_in k op target s)
  of_unary class.Control Not target s = control _
  of_unary class.Control Move target s = control _
  of_unary class.Control (Convert to) target s = control _
  of_unary class.Single Not target s = single _
  of_unary class.Single Move target s = single _
  of_unary class.Single (Convert to) target s = single _
  of_unary class.Double Not target s = double _
  of_unary class.Double Move target s = double _
  of_unary class.Double (Convert to) target s = double _

  of_binary32 : (op : BinaryOperation) (signed : Bool) (target : ℕ) (p : Pair (StepSource ℕ)) → P (binary32 op signed target p)
  of_binary32 (Compare c) signed target p = control _
  of_binary32 _ signed target p = single _

  of_binary64 : (op : BinaryOperation) (signed : Bool) (target : ℕ) (p : Pair (StepSource ℕ)) (s : Shift64) → P (binary64 op signed target p s)
  of_binary64 (Compare c) signed target p s = control _
  of_binary64 _ signed target p s = double _

  pub of_binary : (k : RegisterClass) (b : Binary) → P (binary_in k b)
  of_binary class.Control b = control _
  of_binary class.Single b = of_binary32 b.operation (is_signed b.kind) (register_number b.target) (pair32_of b)
  of_binary class.Double b = of_binary64 b.operation (is_signed b.kind) (register_number b.target) (pair64_of b) (shift64_of b)

  pub of_ternary : (k : RegisterClass) (op : TernaryOperation) (t : Ternary) → P (ternary_in k op t)
  of_ternary class.Control MultiplyAdd t = control _
  of_ternary class.Control ConditionalMove t = control _
  of_ternary class.Single MultiplyAdd t = single _
  of_ternary class.Single ConditionalMove t = single _
  of_ternary class.Double MultiplyAdd t = double _
  of_ternary class.Double ConditionalMove t = double _

  of_atomic_in : (k : RegisterClass) (a : Atomic) (p : AtomicPointer) → P (atomic_in k a p)
  of_atomic_in class.Double a p = atomic64 _
  of_atomic_in class.Control a p = atomic32 _
  of_atomic_in class.Single a p = atomic32 _

  pub of_atomic : (variables : List ℕ → Option Placed) (a : Atomic) (o : Operand) → P (atomic_at variables a o)
  of_atomic variables a (operand.Address x) = of_atomic_in (type_class a.kind) a (atomic_pointer variables x.segment x.address)
  of_atomic variables a operand.Absent = ret
  of_atomic variables a (operand.Target t) = ret
  of_atomic variables a (operand.Source r) = ret
  of_atomic variables a (operand.Label x) = ret
  of_atomic variables a (operand.Dimension n) = ret
